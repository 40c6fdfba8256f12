use Rattle.std.proofs.Common.{arith}
use Rattle.std.proofs.lemmas.Str.Pattern.{split_after, split_parts}
use Rattle.bidi_play.proofs.DigitLemmas.{no_space_at}
use Rattle.bidi_lines.proofs.ResultLemmas.{some_and, if_some_first}
use Rattle.bidi_play.proofs.lines.split_at_space.Goals as goal

pub returns-clause-first : goal.returns-clause-first
returns-clause-first c =
    λ xs ys e f. some_and c.split_once.result _
    (split_after 32 c.args.text.now xs ys c.split_once.result c.split_once.ensures.cases (omega arith) e (no_space_at xs f))

pub returns-clause-some : goal.returns-clause-some
returns-clause-some c = if_some_first c.split_once.result _ _ _ (split_parts 32 c.args.text.now c.split_once.result c.split_once.ensures.cases (omega arith))

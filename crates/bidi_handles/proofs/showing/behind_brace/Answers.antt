use Rattle.std.proofs.Common.{arith}
use Rattle.std.proofs.lemmas.Str.Pattern.{strip_prefix_char}
use Rattle.bidi_handles.proofs.ShowingLemmas.{some-of}
use Rattle.bidi_handles.proofs.showing.behind_brace.Goals as goal

pub returns : goal.returns
returns c = some-of _ _ c.strip_prefix.result (strip_prefix_char 123 c.args.text.now c.strip_prefix.result c.strip_prefix.ensures.cases (omega arith))

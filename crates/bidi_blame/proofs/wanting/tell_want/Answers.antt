use Rattle.std.proofs.Common.{map}
use Rattle.bidi_blame.specs.Said.{said_text}
use Rattle.std.proofs.lemmas.Result.{on_ok_weaker}
use Rattle.bidi_rules.specs.Grammar.{grammar}
use Rattle.bidi_blame.proofs.WordLemmas.{choice_told}
use Rattle.bidi_blame.proofs.wanting.tell_want.Goals as goal

pub returns : goal.returns
returns c =
    on_ok_weaker c.tell_terms.result
    (choice_told (map said_text c.args.told.now.items) (map said_text c.tell_term.new.told.items) (map said_text c.tell_terms.new.told.items)
    (grammar c.args.want.now.first.now) (map grammar c.args.want.now.rest.now) c.in_ok-tell_term.ensures)
    c.tell_terms.ensures

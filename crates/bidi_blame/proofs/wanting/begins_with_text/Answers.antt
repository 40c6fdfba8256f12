use Rattle.std.proofs.Common.{◌∷◌, [], ap, map, sym, take, bytes_eq, ◌∙◌}
use Rattle.bidi_blame.specs.Said.{said_text}
use Rattle.bidi_blame.specs.Words.{choice_text}
use Rattle.bidi_blame.specs.declared.wanting.Said.{Said}
use Rattle.bidi_blame.proofs.WordLemmas.{text_begins}
use Rattle.bidi_blame.proofs.wanting.begins_with_text.Goals as goal

pub returns-in-Plain : goal.returns-in-Plain
returns-in-Plain c =
    let others = map said_text c.args.rest.now in
    c.begins_with_quote.ensures ∙ text_begins c.in-Plain.words.now others
    ∙ ap (λ (s : Said). bytes_eq (34 ∷ []) (take 1 (choice_text (said_text s ∷ others)))) (sym c.in-Plain.is)

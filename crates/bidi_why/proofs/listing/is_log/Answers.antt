use Rattle.std.proofs.Common.{◌∙◌, List, ℕ, ap, codes, subst, take}
use Rattle.std.specs.Str.{bytes_eq}
use Rattle.bidi_why.specs.Input.{IsOf}
use Rattle.bidi_why.proofs.SummaryLemmas.{log_line, no_log_line}
use Rattle.bidi_why.proofs.listing.is_log.Goals as goal

pub returns-in-Text : goal.returns-in-Text
returns-in-Text c is at =
    let here = subst (λ l. IsOf l is) c.in-Text.is at in
    log_line is c.in-Text.text.items c.begins_as_log.result here.0 here.1.short
    (c.begins_as_log.ensures ∙ ap (λ (t : List ℕ). bytes_eq (codes "{\"dir\":") (take 7 t)) c.deref.ensures.value)

pub returns-in-TooLong : goal.returns-in-TooLong
returns-in-TooLong c is at =
    let here = subst (λ l. IsOf l is) c.in-TooLong.is at in
    no_log_line is here.long

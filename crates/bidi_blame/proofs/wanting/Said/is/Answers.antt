use Rattle.std.proofs.Common.{bytes_eq, ap₂, sym, ◌∙◌}
use Rattle.bidi_blame.specs.Said.{said_text}
use Rattle.bidi_blame.specs.declared.wanting.Said.{Said}
use Rattle.bidi_blame.proofs.WordLemmas.{quoted-eq}
use Rattle.bidi_blame.proofs.wanting.Said.is.Goals as goal

pub returns-in-Quoted-other-2 : goal.returns-in-Quoted-other-2
returns-in-Quoted-other-2 c =
    let same = ap₂ (λ (a b : Said). bytes_eq (said_text a) (said_text b)) (sym c.in-Quoted.is) (sym c.in-Quoted-other-2.is) in
    c.eq-in-Quoted-other-2.ensures ∙ quoted-eq c.in-Quoted.text.now c.in-Quoted-other-2.others.now ∙ same

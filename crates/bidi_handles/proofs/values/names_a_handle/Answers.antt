use Rattle.std.proofs.Common.{◌∙◌, sym}
use Rattle.std.specs.Prelude.{bytes_eq, codes}
use Rattle.bidi_handles.proofs.ValueLemmas.{same-either, or-second}
use Rattle.bidi_handles.proofs.values.names_a_handle.Goals as goal

pub returns-else-eq : goal.returns-else-eq
returns-else-eq c =
    let name = c.args.name.now in
    let other = same-either (codes "handle") name ∙ (sym c.eq.ensures ∙ c.if-eq.false) in
    c.eq-else-eq.ensures
    ∙ (same-either name (codes "internalId") ∙ or-second (bytes_eq (codes "handle") name) (bytes_eq (codes "internalId") name) other)

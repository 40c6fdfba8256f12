-- How a connection stands that was looked for.
use Rattle.std.proofs.Common.{◌≡◌, ℕ, List, [], ◌∷◌, refl, arith}
use Rattle.std.specs.Prelude.{◌==◌, map, find, Option, Some, None}
use Rattle.std.proofs.lemmas.Bool.Decides.{nat_tests}
use Rattle.bidi_sessions.specs.declared.connections.Connection.{Connection}
use Rattle.bidi_sessions.specs.Attachment.{Attachment, Shut, opened_for}
use Rattle.bidi_sessions.specs.ConnectionRows.{attachment_in, row_of}

-- how the connection stands that was found; without one it is shut
abbrev pub attachment_found : Option Connection → Attachment
attachment_found None = Shut
attachment_found (Some c) = opened_for c.session

-- it is found as its row is
pub found-row : (c : ℕ) (items : List Connection)
    → attachment_found (find (λ x. x.number.value == c) items) ≡ attachment_in (find (λ row. row.0 == c) (map row_of items))
found-row c [] = refl
found-row c (x ∷ items) = let ih = found-row c items in grind (arith, nat_tests, ih)

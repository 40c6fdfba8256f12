-- The string of an id parses to its bytes.
use Rattle.std.proofs.Common.{◌≡◌, ◌∙◌, ◌<◌, ◌%◌, ◌↔◌, ℕ, true, List, All, Some, Result, Ok, IsOk, IfOk, inl, refl, sym, ap, arith}
use Rattle.std.specs.Prelude.{bytes_eq}
use Rattle.std.proofs.lemmas.List.Elements.{All-from_recursion}
use Rattle.std.proofs.lemmas.Slice.Eq.{bytes_eq-Decides}
use Rattle.uuid.specs.Text.{lower, parsed}
use Rattle.uuid.proofs.RoundTrips.{parse_gives, parses_hyphenated}
use Rattle.bidi_handles.specs.declared.id.IdKind.{IdKind}
use Rattle.bidi_handles.specs.Ids.{id_bytes, id_text}

-- each byte of an id fits
bytes-fit : (kind : IdKind) (session n : ℕ) → All (λ b. b < 256) (id_bytes kind session n)
bytes-fit kind session n =
    let zero : 0 < 256 = omega arith in
    let half : 128 < 256 = omega arith in
    let byte : (k : ℕ) → k % 256 < 256 = λ k. omega arith in
    All-from_recursion (λ b. b < 256) (id_bytes kind session n)
    (byte _, (byte _, (byte _, (byte _, (byte _, (byte _, (half, (zero, (half, (zero, (byte _, (byte _, (byte _, (byte _, (byte _, (byte _, tt))))))))))))))))

-- a text that parses and is an id has the bytes of that id
pub parses-to : {E : Type 0} (r : Result (List ℕ) E) (id : List ℕ) (kind : IdKind) (session n : ℕ)
    → (IsOk r ↔ ((u : List ℕ) × (parsed id ≡ Some u))) → IfOk r (λ u. Some u ≡ parsed id)
    → bytes_eq id (id_text kind session n) ≡ true → r ≡ Ok (id_bytes kind session n)
parses-to r id kind session n ok bytes same =
    parse_gives r id (id_bytes kind session n) ok bytes
    (parses_hyphenated lower (id_bytes kind session n) (inl refl) refl (bytes-fit kind session n)
    ∙ ap parsed (sym ((bytes_eq-Decides id (id_text kind session n)).0 same)))

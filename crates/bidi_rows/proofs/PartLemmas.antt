-- Named parts, as the members of an object.
use Rattle.std.proofs.Common.{◌≡◌, ◌∙◌, ℕ, List, [], ◌∷◌, map, String, Global, Bor, string_bytes, refl, sym, ap}
use Rattle.json.specs.Json.{Json, Members, no_members, member}
use Rattle.json.specs.Value.{value_view, members_view}
use Rattle.json.specs.declared.value.Value.{Value}
use Rattle.bidi_rows.specs.Part.{part_of, members_of}
use Rattle.bidi_rows.specs.declared.part.Part.{Part}

abbrev members_from : List (List ℕ × Json) → Members
members_from [] = no_members
members_from (m ∷ ms) = member m.0 m.1 (members_from ms)

of_parts : (ps : List (String Global × Part)) → members_of ps ≡ members_from (map {B = List ℕ × Json} (λ m. (string_bytes m.0, part_of m.1)) ps)
of_parts [] = refl
of_parts (p ∷ ps) = ap (member (string_bytes p.0) (part_of p.1)) (of_parts ps)

of_values : (ms : List (Bor (List ℕ) × Value Global)) → members_view ms ≡ members_from (map {B = List ℕ × Json} (λ m. (m.0.now, value_view m.1)) ms)
of_values [] = refl
of_values (m ∷ ms) = ap (member m.0.now (value_view m.1)) (of_values ms)

-- parts and values of the same names and values make the same members
pub members-same : (ps : List (String Global × Part)) (ms : List (Bor (List ℕ) × Value Global))
    → map {B = List ℕ × Json} (λ m. (string_bytes m.0, part_of m.1)) ps ≡ map {B = List ℕ × Json} (λ m. (m.0.now, value_view m.1)) ms
    → members_of ps ≡ members_view ms
members-same ps ms e = of_parts ps ∙ (ap members_from e ∙ sym (of_values ms))

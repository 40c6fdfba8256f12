-- The parts of an object, one for each row if it is there, and the other members. After RFC 8610, 3.5.
use Rattle.std.specs.Prelude.{◌≡◌, ℕ, map, List, [], ◌∷◌, Bool, true, Option, Some, None, ◌&&◌, not, false, ◌||◌}
use Rattle.std.specs.Borrow.{Bor}
use Rattle.std.specs.List.{list_any}
use Rattle.std.specs.Str.{bytes_eq}
use Rattle.bidi_tree.specs.Node.{Node, Members, put, get_member, no_members, member}
use Rattle.bidi_shape.specs.Term.{Need, required, optional, Term, Rows, no_more, row}
use Rattle.bidi_shape.specs.Fits.{Fits}

-- the strings that these references point to, as bytes
abbrev pub texts_in : List (Bor (List ℕ)) → List (List ℕ)
texts_in texts = map (λ s. s.now) texts

-- the members with the part at the name k, or unchanged if there is no part
abbrev pub put_part : List ℕ → Option Node → Members → Members
put_part k None ms = ms
put_part k (Some t) ms = put k t ms

-- the members of an object: each part at the name of its row, and the other members
-- example: the part `1` at `a`, joined to `{"b":2}`, is `{"a":1,"b":2}`
abbrev pub joined : Rows → List (Option Node) → Members → Members
joined no_more ps others = others
joined (row k need τ rs) [] others = others
joined (row k need τ rs) (p ∷ ps) others = put_part k p (joined rs ps others)

-- the part at a row's name fits its term; only the part of an optional row may be missing
abbrev pub PartFits : Need → Term → Option Node → Type 0
PartFits required τ None = ⊥
PartFits required τ (Some t) = Fits t τ
PartFits optional τ None = Unit {0}
PartFits optional τ (Some t) = Fits t τ

-- the object has each part at the name of its row, and no member where the part is missing
abbrev pub PartsAt : Rows → List (Option Node) → Members → Type 0
PartsAt no_more [] ms = Unit {0}
PartsAt no_more (p ∷ ps) ms = ⊥
PartsAt (row k need τ rs) [] ms = ⊥
PartsAt (row k need τ rs) (p ∷ ps) ms = (get_member k ms ≡ p) × PartsAt rs ps ms

-- each part fits its row
abbrev pub PartsFit : Rows → List (Option Node) → Type 0
PartsFit no_more [] = Unit {0}
PartsFit no_more (p ∷ ps) = ⊥
PartsFit (row k need τ rs) [] = ⊥
PartsFit (row k need τ rs) (p ∷ ps) = PartFits need τ p × PartsFit rs ps

-- some member has one of the names
abbrev pub has_named : List (List ℕ) → Members → Bool
has_named names no_members = false
has_named names (member k t ms) = list_any (bytes_eq k) names || has_named names ms

-- no name occurs twice
abbrev pub distinct : List (List ℕ) → Bool
distinct [] = true
distinct (k ∷ ks) = not (list_any (bytes_eq k) ks) && distinct ks

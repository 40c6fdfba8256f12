-- How the index of an object is made.
use Rattle.std.proofs.Common.{◌≡◌, ◌∙◌, ℕ, Bool, true, false, cond, List, [], ◌∷◌, ◌++◌, Bor, Option, Some, None, Global, bytes_eq, nat_cmp, refl, sym, ap}
use Rattle.std.specs.Cmp.Lexicographic.{slice_cmp}
use Rattle.std.specs.Option.{option_map}
use Rattle.std.specs.BTreeMap.{BTreeMap, is_at, IsEmpty, UpdatesBy}
use Rattle.std.specs.Map.{lookup}
use Rattle.std.proofs.lemmas.Map.Text.{btree_map_updates_str}
use Rattle.json.specs.Json.{Json, object, no_members}
use Rattle.json.specs.Find.{get_member, later_or}
use Rattle.json.specs.Value.{value_view, members_view}
use Rattle.json.specs.declared.value.Value.{Value}
use Rattle.bidi_rows.specs.Index.{IsIndexOf}

later_cond : (b : Bool) (j : Json) (found earlier : Option Json) → later_or (cond b (Some j) found) earlier ≡ cond b (Some j) (later_or found earlier)
later_cond true j found earlier = refl
later_cond false j found earlier = refl

-- the last property counts, if it has the name
last_counts : (name : List ℕ) (ms : List (Bor (List ℕ) × Value Global)) (m : Bor (List ℕ) × Value Global)
    → get_member name (members_view (ms ++ m ∷ [])) ≡ cond (bytes_eq m.0.now name) (Some (value_view m.1)) (get_member name (members_view ms))
last_counts name [] m = refl
last_counts name (x ∷ ms) m =
    let first = cond (bytes_eq x.0.now name) (Some (value_view x.1)) None in
    ap (λ found. later_or found first) (last_counts name ms m) ∙ later_cond (bytes_eq m.0.now name) (value_view m.1) (get_member name (members_view ms)) first

map_cond : (b : Bool) (v : Bor (Value Global)) (found : Option (Bor (Value Global)))
    → option_map (λ v. value_view v.now) (cond b (Some v) found) ≡ cond b (Some (value_view v.now)) (option_map (λ v. value_view v.now) found)
map_cond true v found = refl
map_cond false v found = refl

-- an index with one more property
pub index_more : (old new : BTreeMap (Bor (List ℕ)) (Bor (Value Global))) (ms : List (Bor (List ℕ) × Value Global)) (m : Bor (List ℕ) × Value Global) (v : Bor (Value Global))
    → v.now ≡ m.1 → UpdatesBy (λ x y. slice_cmp nat_cmp x.now y.now) (λ k. slice_cmp nat_cmp m.0.now k.now) old new (Some v)
    → IsIndexOf old (object (members_view ms)) → IsIndexOf new (object (members_view (ms ++ m ∷ [])))
index_more old new ms m v is updates indexed = λ name.
    let seen : Option (Bor (Value Global)) → Option Json = option_map (λ v. value_view v.now) in
    let here = bytes_eq m.0.now name in
    ap seen (btree_map_updates_str m.0.now old new (Some v) updates name)
    ∙ map_cond here v _
    ∙ ap (λ found. cond here (Some (value_view v.now)) found) (indexed name)
    ∙ ap (λ x. cond here (Some (value_view x)) (get_member name (members_view ms))) is
    ∙ sym (last_counts name ms m)

-- a map without keys is the index of no properties
pub index_none : (index : BTreeMap (Bor (List ℕ)) (Bor (Value Global))) → IsEmpty index → IsIndexOf index (object no_members)
index_none index empty = λ name. ap (λ es. option_map (λ v. value_view v.now) (lookup (is_at (λ k. slice_cmp nat_cmp name k.now)) es)) empty

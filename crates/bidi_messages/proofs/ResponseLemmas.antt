-- A whole object is a response exactly if it has the type, an id and the result of one.
use Rattle.std.proofs.Common.{◌≡◌, ℕ, pos, List, [], ◌∷◌, codes, Bool, true, false, cond, nat_cmp, nat_lt, negsuc, ◌^◌, Option, Some, None, option_map, option_and_then}
use Rattle.std.proofs.Common.{Ordering, Less, Equal, Greater, bytes_eq, refl, sym, ap, ◌∙◌, subst, arith, ltb-true, lt-ltb}
use Rattle.std.specs.Prelude.{IfSome}
use Rattle.std.specs.Cmp.Lexicographic.{slice_cmp}
use Rattle.std.specs.List.{list_any}
use Rattle.std.specs.Ordering.{match_ordering}
use Rattle.bidi_tree.specs.Node.{Node, Members, null, boolean, whole, odd, text, list, map, no_members, member}
use Rattle.bidi_tree.specs.Node.{get_member, IsWhole, MembersAreWhole}
use Rattle.bidi_tree.specs.Kind.{members_in}
use Rattle.bidi_tree.specs.Number.{IsJsUint}
use Rattle.bidi_tree.specs.declared.number.JsUint.{JsUint}
use Rattle.bidi_tree.proofs.WholeLemmas.{whole-more, whole-head, whole-rest}
use Rattle.bidi_shape.specs.Name.{command_response}
use Rattle.bidi_shape.specs.Term.{Term, required, Openness, extensible, exactly, js_uint, map_of, Rows, no_more, row, rule}
use Rattle.bidi_shape.specs.Fits.{Fits, fits_exactly, fits_js_uint, fits_map, fits_rule, RowsFit, there, no_row, without}
use Rattle.bidi_shape.proofs.FitsLemmas.{rule_inside}
use Rattle.bidi_messages.specs.Verdict.{js_uint_in, echoed_id}

-- ---- the parts of a whole object are whole

found_at : (o : Ordering) (rest : Option Node) (u t : Node) (n : ℕ) → IsWhole u n → (rest ≡ Some t → IsWhole t n) → match_ordering o rest (Some u) rest ≡ Some t → IsWhole t n
found_at Less rest u t n w later e = later e
found_at Equal rest u t n w later e = let same : u ≡ t = cc in subst (λ x. IsWhole x n) same w
found_at Greater rest u t n w later e = later e

whole_found : (k : List ℕ) (ms : Members) (t : Node) (n : ℕ) → MembersAreWhole ms n → get_member k ms ≡ Some t → IsWhole t n
whole_found k no_members t n w e = absurd cc
whole_found k (member l u ms) t n w e =
    found_at (slice_cmp nat_cmp k l) (get_member k ms) u t n (whole-head l u ms n w) (whole_found k ms t n (whole-rest l u ms n w)) e

kept_at : (b : Bool) (l : List ℕ) (u : Node) (ms : Members) (n : ℕ) → IsWhole u n → MembersAreWhole ms n → MembersAreWhole (cond b ms (member l u ms)) n
kept_at true l u ms n w h = h
kept_at false l u ms n w h = whole-more l u ms n w h

whole-without : (ks : List (List ℕ)) (ms : Members) (n : ℕ) → MembersAreWhole ms n → MembersAreWhole (without ks ms) n
whole-without ks no_members n w = w
whole-without ks (member l u ms) n w =
    kept_at (list_any (bytes_eq l) ks) l u (without ks ms) n (whole-head l u ms n w) (whole-without ks ms n (whole-rest l u ms n w))

-- ---- its id

within : (m n : ℕ) (b : Bool) → nat_lt m (2 ^ 53) ≡ b → cond b (Some m) None ≡ Some n → (m ≡ n) × IsJsUint m
within m n true is e = (cc, ltb-true m (2 ^ 53) is)
within m n false is e = absurd cc

number_of : (t : Node) (n : ℕ) → js_uint_in t ≡ Some n → (t ≡ whole (pos n)) × IsJsUint n
number_of null n e = absurd cc
number_of (boolean b) n e = absurd cc
number_of (whole (pos m)) n e = let w = within m n (nat_lt m (2 ^ 53)) refl e in subst (λ x. (whole (pos m) ≡ whole (pos x)) × IsJsUint x) w.0 (refl, w.1)
number_of (whole (negsuc m)) n e = absurd cc
number_of odd n e = absurd cc
number_of (text s) n e = absurd cc
number_of (list ns) n e = absurd cc
number_of (map ms) n e = absurd cc

id_inside : (o : Option Node) (n : ℕ) → option_and_then js_uint_in o ≡ Some n → (o ≡ Some (whole (pos n))) × IsJsUint n
id_inside None n e = absurd cc
id_inside (Some t) n e = let p = number_of t n e in (ap Some p.0, p.1)

-- ---- its rule

response_fits : (t : Node) (n : ℕ) (r : Members) → get_member (codes "type") (members_in t) ≡ Some (text (codes "success"))
    → echoed_id t ≡ Some n → get_member (codes "result") (members_in t) ≡ Some (map r) → IsWhole t 61 → Fits t (rule command_response)
response_fits null n r type id result w = absurd cc
response_fits (boolean b) n r type id result w = absurd cc
response_fits (whole z) n r type id result w = absurd cc
response_fits odd n r type id result w = absurd cc
response_fits (text s) n r type id result w = absurd cc
response_fits (list ns) n r type id result w = absurd cc
response_fits (map ms) n r type id result w =
    let number = id_inside (get_member (codes "id") ms) n id in
    let inside : MembersAreWhole ms 60 = (w.0, omega (arith, w.1)) in
    let deep : IsWhole (map r) 60 = whole_found (codes "result") ms (map r) 60 inside result in
    let members : MembersAreWhole r 60 = (deep.0, omega (arith, deep.1)) in
    fits_rule (map ms) command_response (fits_map ms _ extensible
    (there ms (codes "type") required (exactly (codes "success")) _ (text (codes "success")) type (fits_exactly (codes "success"))
    (there ms (codes "id") required js_uint _ (whole (pos n)) number.0 (fits_js_uint n number.1)
    (there ms (codes "result") required (map_of no_more extensible) no_more (map r) result
    (fits_map r no_more extensible (no_row r) (whole-without [] r 60 members)) (no_row ms))))
    (whole-without (codes "type" ∷ codes "id" ∷ codes "result" ∷ []) ms 60 inside))

-- where it has an id
pub fits_with : (t : Node) (o : Option JsUint) (r : Members) → get_member (codes "type") (members_in t) ≡ Some (text (codes "success"))
    → option_map (λ n. n.value) o ≡ echoed_id t → get_member (codes "result") (members_in t) ≡ Some (map r)
    → IsWhole t 61 → IfSome o (λ id. Fits t (rule command_response))
fits_with t None r type same result w = tt
fits_with t (Some id) r type same result w = response_fits t id.value r type (sym same) result w

-- ---- the members of a response

map_there : {t : Node} {rs : Rows} {o : Openness} → Fits t (map_of rs o) → (ms : Members) × (t ≡ map ms) × RowsFit ms rs
map_there (fits_map ms rs o x h) = (ms, refl, x)

row_there : {ms : Members} {k : List ℕ} {τ : Term} {rs : Rows} → RowsFit ms (row k required τ rs)
    → ((t : Node) × (get_member k ms ≡ Some t) × Fits t τ) × RowsFit ms rs
row_there (there ms k required τ rs t at f rest) = ((t, at, f), rest)

text_there : {t : Node} {s : List ℕ} → Fits t (exactly s) → t ≡ text s
text_there (fits_exactly s) = refl

number_there : {t : Node} → Fits t js_uint → (n : ℕ) × (t ≡ whole (pos n)) × IsJsUint n
number_there (fits_js_uint n h) = (n, refl, h)

id_there : (t : Node) (n : ℕ) → t ≡ whole (pos n) → IsJsUint n → js_uint_in t ≡ Some n
id_there t n is h = ap js_uint_in is ∙ ap (λ b. cond b (Some n) None) (lt-ltb n (2 ^ 53) h)

-- its type, its id and its result
pub record HasParts (t : Node) : Type 0 where
  pub type : get_member (codes "type") (members_in t) ≡ Some (text (codes "success"))
  pub id : (n : ℕ) × (echoed_id t ≡ Some n)
  pub result : (ms : Members) × (get_member (codes "result") (members_in t) ≡ Some (map ms))

pub response_parts : (t : Node) → Fits t (rule command_response) → HasParts t
response_parts t f =
    let (ms, is, rows) = map_there (rule_inside f) in
    let ((type, at_type, fits_type), more) = row_there rows in
    let ((id, at_id, fits_id), others) = row_there more in
    let ((result, at_result, fits_result), none) = row_there others in
    let (n, number, small) = number_there fits_id in
    let (rs, inside, _) = map_there fits_result in
    let here : members_in t ≡ ms = ap members_in is in
    record {
      type = ap (get_member (codes "type")) here ∙ at_type ∙ ap Some (text_there fits_type);
      id = (n, ap echoed_id is ∙ ap (option_and_then js_uint_in) at_id ∙ id_there id n number small);
      result = (rs, ap (get_member (codes "result")) here ∙ at_result ∙ ap Some inside);
    }

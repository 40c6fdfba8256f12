-- Members that are collected one by one, as a text has them: which of them are listed, and which are not.
use Rattle.std.proofs.Common.{◌≡◌, ℕ, List, Bool, true, false, cond, Ordering, Less, Equal, Greater, Some, bytes_eq, true≢false, refl, sym, ap, ◌∙◌, subst}
use Rattle.std.proofs.lemmas.Slice.Eq.{bytes_eq-Decides}
use Rattle.std.specs.List.{list_any}
use Rattle.std.specs.Cmp.Lexicographic.{slice_cmp}
use Rattle.std.specs.Ordering.{nat_cmp, match_ordering}
use Rattle.json.specs.Json as json
use Rattle.bidi_tree.specs.Node.{Node, Members, no_members, member, put, get_member}
use Rattle.bidi_tree.specs.Json.{json_node, put_all}
use Rattle.bidi_tree.proofs.MemberLemmas.{get_member-put, get_member-put_other}
use Rattle.bidi_shape.specs.Fits.{without}
use Rattle.bidi_shape.specs.MapLaws.{same_from_tie}

kept_or : (o : Ordering) (b : Bool) (ks : List (List ℕ)) (k l : List ℕ) (n t : Node) (ms : Members)
    → slice_cmp nat_cmp k l ≡ o → list_any (bytes_eq l) ks ≡ b → list_any (bytes_eq k) ks ≡ false
    → match_ordering o (get_member k ms) (Some n) (get_member k ms) ≡ Some t
    → (get_member k ms ≡ Some t → without ks ms ≡ no_members → ⊥) → cond b (without ks ms) (member l n (without ks ms)) ≡ no_members → ⊥
kept_or Less true ks k l n t ms o y f g later e = later g e
kept_or Greater true ks k l n t ms o y f g later e = later g e
kept_or Equal true ks k l n t ms o y f g later e = true≢false (sym y ∙ ap (λ x. list_any (bytes_eq x) ks) (sym (same_from_tie k l o)) ∙ f)
kept_or Less false ks k l n t ms o y f g later e = cc
kept_or Equal false ks k l n t ms o y f g later e = cc
kept_or Greater false ks k l n t ms o y f g later e = cc

-- if there is an unlisted member, not all members are listed
some_member : (ks : List (List ℕ)) (k : List ℕ) (t : Node) (ms : Members)
    → list_any (bytes_eq k) ks ≡ false → get_member k ms ≡ Some t → without ks ms ≡ no_members → ⊥
some_member ks k t no_members f g e = cc
some_member ks k t (member l n ms) f g e = kept_or _ _ ks k l n t ms refl refl f g (some_member ks k t ms f) e

stays_at : (b : Bool) (q k : List ℕ) (n t : Node) (ms : Members)
    → bytes_eq q k ≡ b → get_member q ms ≡ Some t → (u : Node) × (get_member q (put k n ms) ≡ Some u)
stays_at true q k n t ms e g = (n, subst (λ x. get_member x (put k n ms) ≡ Some n) (sym ((bytes_eq-Decides q k).0 e)) (get_member-put k n ms))
stays_at false q k n t ms e g = (t, get_member-put_other q k n ms (λ h. true≢false (sym ((bytes_eq-Decides q k).1 h) ∙ e)) ∙ g)

all_stay : (q : List ℕ) (js : json.Members) (t : Node) (found : Members) → get_member q found ≡ Some t → (u : Node) × (get_member q (put_all js found) ≡ Some u)
all_stay q json.no_members t found g = (t, g)
all_stay q (json.member k j js) t found g =
    let next = stays_at _ q k (json_node j) t found refl g in
    all_stay q js next.0 (put k (json_node j) found) next.1

-- once an unlisted member was put in, not all are listed
pub one_left : (ks : List (List ℕ)) (k : List ℕ) (n : Node) (js : json.Members) (found : Members)
    → list_any (bytes_eq k) ks ≡ false → without ks (put_all js (put k n found)) ≡ no_members → ⊥
one_left ks k n js found f e =
    let stays = all_stay k js n (put k n found) (get_member-put k n found) in
    some_member ks k stays.0 (put_all js (put k n found)) f stays.1 e

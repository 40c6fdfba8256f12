-- Laws of the members of an object: putting one in, and finding one.
use Rattle.std.proofs.Common.{◌≡◌, ℕ, List, Option, Some, None, Ordering, Less, Equal, Greater, is_eq}
use Rattle.std.proofs.Common.{Bool, true, false, bytes_eq, true≢false, refl, sym, ap, ◌∙◌, subst}
use Rattle.std.proofs.lemmas.Cmp.{nat_list_cmp_total, tied_itself}
use Rattle.std.proofs.lemmas.Map.Text.{is_eq-slice_cmp}
use Rattle.std.proofs.lemmas.Slice.Eq.{bytes_eq-Decides}
use Rattle.std.specs.Cmp.Lexicographic.{slice_cmp}
use Rattle.std.specs.Ordering.{match_ordering, ordering_reverse, nat_cmp}
use Rattle.bidi_tree.specs.Node.{Node, Members, no_members, member}
use Rattle.bidi_tree.specs.Node.{put, get_member, IsBelow, AreAscending}
use Rattle.bidi_tree.proofs.SoundLemmas.{IsBelow-below}

pub same_text : (xs : List ℕ) → slice_cmp nat_cmp xs xs ≡ Equal
same_text xs = tied_itself nat_list_cmp_total xs

pub same_name : (k l : List ℕ) → slice_cmp nat_cmp k l ≡ Equal → k ≡ l
same_name k l is = (bytes_eq-Decides k l).0 (sym (is_eq-slice_cmp k l) ∙ ap is_eq is)

get_member-put_at : (o : Ordering) (k l : List ℕ) (n m : Node) (ms : Members) → slice_cmp nat_cmp k l ≡ o → get_member k (put k n ms) ≡ Some n
    → get_member k (match_ordering o (member k n (member l m ms)) (member l n ms) (member l m (put k n ms))) ≡ Some n
get_member-put_at Less k l n m ms is later = rw same_text
get_member-put_at Equal k l n m ms is later = rw is
get_member-put_at Greater k l n m ms is later = rw is later

-- a tree that was put at a name is found there
pub get_member-put : (k : List ℕ) (n : Node) (ms : Members) → get_member k (put k n ms) ≡ Some n
get_member-put k n no_members = rw same_text
get_member-put k n (member l m ms) = get_member-put_at _ k l n m ms refl (get_member-put k n ms)

either : (o : Ordering) (a b : Option Node) → is_eq o ≡ false → match_ordering o a b a ≡ a
either Less a b e = refl
either Equal a b e = absurd (true≢false e)
either Greater a b e = refl

differ : (xs ys : List ℕ) (b : Bool) → bytes_eq xs ys ≡ b → (xs ≡ ys → ⊥) → b ≡ false
differ xs ys true e other = absurd (other ((bytes_eq-Decides xs ys).0 e))
differ xs ys false e other = refl

pub skips : (q k : List ℕ) (n : Node) (ms : Members) → (q ≡ k → ⊥) → get_member q (member k n ms) ≡ get_member q ms
skips q k n ms other = either (slice_cmp nat_cmp q k) _ _ (is_eq-slice_cmp q k ∙ differ q k _ refl other)

get_member-put_other_at : (o : Ordering) (q k l : List ℕ) (n m : Node) (ms : Members)
    → slice_cmp nat_cmp k l ≡ o → (q ≡ k → ⊥) → get_member q (put k n ms) ≡ get_member q ms
    → get_member q (match_ordering o (member k n (member l m ms)) (member l n ms) (member l m (put k n ms))) ≡ get_member q (member l m ms)
get_member-put_other_at Less q k l n m ms is other later = skips q k n (member l m ms) other
get_member-put_other_at Equal q k l n m ms is other later =
    let same : k ≡ l = same_name k l is in
    let apart = λ (h : q ≡ l). other (h ∙ sym same) in
    skips q l n ms apart ∙ sym (skips q l m ms apart)
get_member-put_other_at Greater q k l n m ms is other later = ap (λ r. match_ordering (slice_cmp nat_cmp q l) r (Some m) r) later

-- the other names keep their values
pub get_member-put_other : (q k : List ℕ) (n : Node) (ms : Members) → (q ≡ k → ⊥) → get_member q (put k n ms) ≡ get_member q ms
get_member-put_other q k n no_members other = skips q k n no_members other
get_member-put_other q k n (member l m ms) other = get_member-put_other_at _ q k l n m ms refl other (get_member-put_other q k n ms other)

-- a name before all of them is not there
pub get_below : (k : List ℕ) (ms : Members) → IsBelow k ms → get_member k ms ≡ None
get_below k no_members h = refl
get_below k (member l n ms) h = rw h.0 (get_below k ms h.1)

same_tail : (o : Ordering) (q k : List ℕ) (n m : Node) (left right : Members) → slice_cmp nat_cmp q k ≡ o → IsBelow k left → IsBelow k right
    → match_ordering o (get_member q left) (Some n) (get_member q left) ≡ match_ordering o (get_member q right) (Some m) (get_member q right)
    → get_member q left ≡ get_member q right
same_tail Less q k n m left right is a b h = h
same_tail Equal q k n m left right is a b h =
    let e = same_name q k is in
    ap (λ x. get_member x left) e ∙ get_below k left a ∙ sym (get_below k right b) ∙ sym (ap (λ x. get_member x right) e)
same_tail Greater q k n m left right is a b h = h

same_head : (o : Ordering) (k l : List ℕ) (n m : Node) (left right : Members)
    → slice_cmp nat_cmp k l ≡ o → AreAscending (member k n left) → AreAscending (member l m right)
    → ((q : List ℕ) → get_member q (member k n left) ≡ get_member q (member l m right))
    → (((q : List ℕ) → get_member q left ≡ get_member q right) → left ≡ right) → member k n left ≡ member l m right
same_head Less k l n m left right is a b h later =
    let here : get_member k (member k n left) ≡ Some n = rw same_text in
    let none : get_member k (member l m right) ≡ None = rw is (get_below k right (IsBelow-below k l right is b.0)) in
    absurd (let e : Some n ≡ None = sym here ∙ h k ∙ none in cc)
same_head Equal k l n m left right is a b h later =
    let e = same_name k l is in
    let below : IsBelow k right = subst (λ x. IsBelow x right) (sym e) b.0 in
    let here : get_member k (member k n left) ≡ Some n = rw same_text in
    let there : get_member k (member l m right) ≡ Some m = rw is in
    let value : n ≡ m = let both : Some n ≡ Some m = sym here ∙ h k ∙ there in cc in
    let found = λ (q : List ℕ). subst (λ x. get_member q (member k n left) ≡ get_member q (member x m right)) (sym e) (h q) in
    let tail : left ≡ right = later (λ q. same_tail (slice_cmp nat_cmp q k) q k n m left right refl a.0 below (found q)) in
    cc
same_head Greater k l n m left right is a b h later =
    let before : slice_cmp nat_cmp l k ≡ Less = nat_list_cmp_total.antisymm l k ∙ ap ordering_reverse is in
    let here : get_member l (member l m right) ≡ Some m = rw same_text in
    let none : get_member l (member k n left) ≡ None = rw before (get_below l left (IsBelow-below l k left before a.0)) in
    absurd (let e : None ≡ Some m = sym none ∙ h l ∙ here in cc)

-- two objects with the same value at each name are equal
pub same_members : (left right : Members) → AreAscending left → AreAscending right → ((q : List ℕ) → get_member q left ≡ get_member q right) → left ≡ right
same_members no_members no_members a b h = refl
same_members no_members (member l m right) a b h =
    absurd (let here : get_member l (member l m right) ≡ Some m = rw same_text in let e : None ≡ Some m = h l ∙ here in cc)
same_members (member k n left) no_members a b h =
    absurd (let here : get_member k (member k n left) ≡ Some n = rw same_text in let e : Some n ≡ None = sym here ∙ h k in cc)
same_members (member k n left) (member l m right) a b h = same_head _ k l n m left right refl a b h (same_members left right a.1 b.1)

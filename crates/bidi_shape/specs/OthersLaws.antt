-- Laws of the members that no row names, as a reader collects them one by one. After RFC 8610, 3.5.
use Rattle.std.proofs.Common.{◌≡◌, ℕ, List, [], ◌∷◌, ◌++◌, Bool, true, false, ◌||◌, cond, Ordering, Less, Equal}
use Rattle.std.proofs.Common.{Greater, string_bytes, string_cmp, nat_cmp, bytes_eq, true≢false, refl, sym, ap, ◌∙◌}
use Rattle.std.proofs.lemmas.Bool.{or_parts}
use Rattle.std.specs.List.{list_any, AllByRecursion}
use Rattle.std.specs.List.Sorted.{IsStrictlySortedBy}
use Rattle.std.specs.Map.{keys_of}
use Rattle.std.specs.Cmp.Lexicographic.{slice_cmp}
use Rattle.std.specs.Ordering.{match_ordering}
use Rattle.bidi_tree.specs.Node.{Node, Members, no_members, member, put}
use Rattle.bidi_tree.specs.Node.{IsWhole, MembersAreWhole, IsBelow, AreAscending}
use Rattle.bidi_tree.specs.View.{node, members_node}
use Rattle.bidi_tree.proofs.TreeLemmas.{Entry, put_last}
use Rattle.bidi_tree.proofs.SoundLemmas.{AreAscending-members_node, IsBelow-below}
use Rattle.bidi_tree.proofs.WholeLemmas.{whole-head, whole-rest}
use Rattle.bidi_shape.specs.Fits.{without}
use Rattle.bidi_shape.specs.Parts.{has_named}
use Rattle.bidi_shape.specs.MapLaws.{without-put, same_from_tie, Below-without}

put_first : (k : List ℕ) (t : Node) (ms : Members) → IsBelow k ms → put k t ms ≡ member k t ms
put_first k t no_members b = refl
put_first k t (member l u ms) b = rw b.0

put_kept : (ks : List (List ℕ)) (k l : List ℕ) (t u : Node) (ms ns ws : Members) (o : Ordering) (b : Bool)
    → slice_cmp nat_cmp k l ≡ o → list_any (bytes_eq l) ks ≡ b → list_any (bytes_eq k) ks ≡ false
    → (slice_cmp nat_cmp k l ≡ Less → IsBelow k ws) → without ks ms ≡ ws → without ks ns ≡ put k t ws
    → without ks (match_ordering o (member k t (member l u ms)) (member l t ms) (member l u ns)) ≡ put k t (cond b ws (member l u ws))
put_kept ks k l t u ms ns ws Less true e f n below w ih = rw (n, f, w) (sym (put_first k t ws (below e)))
put_kept ks k l t u ms ns ws Less false e f n below w ih = rw (n, f, w, e)
put_kept ks k l t u ms ns ws Equal true e f n below w ih = absurd (true≢false (sym f ∙ ap (λ x. list_any (bytes_eq x) ks) (sym (same_from_tie k l e)) ∙ n))
put_kept ks k l t u ms ns ws Equal false e f n below w ih = rw (f, w, e)
put_kept ks k l t u ms ns ws Greater true e f n below w ih = rw f ih
put_kept ks k l t u ms ns ws Greater false e f n below w ih = rw (f, e) (ap (member l u) ih)

-- putting in a member whose name is not among these keeps it among the others
pub without-put_other : (ks : List (List ℕ)) (k : List ℕ) (t : Node) (ms : Members)
    → AreAscending ms → list_any (bytes_eq k) ks ≡ false → without ks (put k t ms) ≡ put k t (without ks ms)
without-put_other ks k t no_members s n = rw n
without-put_other ks k t (member l u ms) s n =
    put_kept ks k l t u ms (put k t ms) (without ks ms) (slice_cmp nat_cmp k l) (list_any (bytes_eq l) ks) refl refl n
    (λ e. Below-without ks k ms (IsBelow-below k l ms e s.0)) refl (without-put_other ks k t ms s.1 n)

-- ---- members that are whole

whole_inside : (n : ℕ) (l : List ℕ) (u : Node) (ns : Members) (b : Bool) → MembersAreWhole (cond b ns (member l u ns)) n → MembersAreWhole ns n
whole_inside n l u ns true e = e
whole_inside n l u ns false e = whole-rest l u ns n e

-- if all of the others are whole, each of them is
pub whole_each : (n : ℕ) (ks : List (List ℕ)) (done : List Entry) (e : Entry) (left : List Entry) → list_any (bytes_eq (string_bytes e.0)) ks ≡ false
    → MembersAreWhole (without ks (members_node (done ++ e ∷ left))) n → IsWhole (node e.1) n
whole_each n ks [] e left h w = whole-head (string_bytes e.0) (node e.1) (without ks (members_node left)) n (rw h at w)
whole_each n ks (d ∷ done) e left h w =
    whole_each n ks done e left h (whole_inside n (string_bytes d.0) (node d.1) (without ks (members_node (done ++ e ∷ left)))
    (list_any (bytes_eq (string_bytes d.0)) ks) w)

-- the others after one more member was read
pub gathered_skip : (ks : List (List ℕ)) (done : List Entry) (e : Entry) (left : List Entry) → IsStrictlySortedBy string_cmp (keys_of (done ++ e ∷ left))
    → list_any (bytes_eq (string_bytes e.0)) ks ≡ true → without ks (members_node (done ++ e ∷ [])) ≡ without ks (members_node done)
gathered_skip ks done e left s y = ap (without ks) (sym (put_last done e left s)) ∙ without-put ks (string_bytes e.0) (node e.1) (members_node done) y

sorted_before : (done more : List Entry) → IsStrictlySortedBy string_cmp (keys_of (done ++ more)) → IsStrictlySortedBy string_cmp (keys_of done)
unfolding IsStrictlySortedBy
sorted_before [] more s = tt
sorted_before (d ∷ done) more s = (front done more s.0, sorted_before done more s.1)
  where
    front : (xs ys : List Entry) → AllByRecursion (λ y. string_cmp d.0 y ≡ Less) (keys_of (xs ++ ys))
        → AllByRecursion (λ y. string_cmp d.0 y ≡ Less) (keys_of xs)
    front [] ys a = tt
    front (x ∷ xs) ys a = (a.0, front xs ys a.1)

pub gathered_keep : (ks : List (List ℕ)) (done : List Entry) (e : Entry) (left : List Entry) → IsStrictlySortedBy string_cmp (keys_of (done ++ e ∷ left))
    → list_any (bytes_eq (string_bytes e.0)) ks ≡ false
    → put (string_bytes e.0) (node e.1) (without ks (members_node done)) ≡ without ks (members_node (done ++ e ∷ []))
gathered_keep ks done e left s n =
    sym (without-put_other ks (string_bytes e.0) (node e.1) (members_node done) (AreAscending-members_node done (sorted_before done (e ∷ left) s)) n)
    ∙ ap (without ks) (put_last done e left s)

-- ---- members that are not named

without_none_at : (b : Bool) (ks : List (List ℕ)) (k : List ℕ) (t : Node) (ms : Members)
    → list_any (bytes_eq k) ks ≡ b → (b || has_named ks ms) ≡ false → without ks ms ≡ ms
    → (cond b (without ks ms) (member k t (without ks ms))) ≡ member k t ms
without_none_at true ks k t ms e h ih = cc
without_none_at false ks k t ms e h ih = ap (member k t) ih

-- if no member has one of the names, all members are among the others
pub without_unnamed : (ks : List (List ℕ)) (ms : Members) → has_named ks ms ≡ false → without ks ms ≡ ms
without_unnamed ks no_members h = refl
without_unnamed ks (member k t ms) h =
    without_none_at (list_any (bytes_eq k) ks) ks k t ms refl h (without_unnamed ks ms (or_parts (list_any (bytes_eq k) ks) (has_named ks ms) h).1)

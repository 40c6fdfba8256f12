-- Laws of objects: their members, the parts at the names of rows, and the other members. After RFC 8610, 3.5.
use Rattle.std.proofs.Common.{◌≡◌, ◌≢◌, ℕ, List, [], ◌∷◌, Bool, true, false, ◌&&◌, ◌||◌, not, Option, Some, None, Ordering, Less, Equal}
use Rattle.std.proofs.Common.{Greater, nat_cmp, is_eq, cond, bytes_eq, true≢false, refl, sym, ap, ◌∙◌, subst, ◌⊎◌, inl, inr}
use Rattle.std.proofs.lemmas.Bool.{or_parts}
use Rattle.std.proofs.lemmas.Cmp.{nat_list_cmp_total}
use Rattle.std.proofs.lemmas.Map.Text.{is_eq-slice_cmp}
use Rattle.std.proofs.lemmas.Slice.Eq.{bytes_eq-Decides}
use Rattle.std.specs.List.{list_any}
use Rattle.std.specs.Cmp.Lexicographic.{slice_cmp}
use Rattle.std.specs.Ordering.{match_ordering, ordering_reverse}
use Rattle.bidi_tree.specs.Node as tree
use Rattle.bidi_tree.specs.Node.{Node, Members, no_members, member, put, get_member, IsBelow, AreAscending}
use Rattle.bidi_tree.proofs.MemberLemmas.{skips, same_members, get_member-put, get_member-put_other}
use Rattle.bidi_tree.proofs.SoundLemmas.{AreAscending-put}
use Rattle.bidi_shape.specs.Term.{required, optional, Openness, map_of, Rows, no_more, row, names_of}
use Rattle.bidi_shape.specs.Fits.{Fits, fits_map, RowsFit, no_row, there, absent, without, OthersFit}
use Rattle.bidi_shape.specs.Parts.{put_part, joined, PartsAt, PartsFit, distinct}

abbrev is_named : List (List ℕ) → List ℕ → Bool
is_named ks q = list_any (bytes_eq q) ks

-- ---- names

same_or_not : (q k : List ℕ) → (q ≡ k) ⊎ (q ≢ k)
same_or_not q k = go (bytes_eq q k) refl
  where
    go : (b : Bool) → bytes_eq q k ≡ b → (q ≡ k) ⊎ (q ≢ k)
    go true e = inl ((bytes_eq-Decides q k).0 e)
    go false e = inr (λ s. true≢false (sym ((bytes_eq-Decides q k).1 s) ∙ e))

is_same : (k : List ℕ) → bytes_eq k k ≡ true
is_same k = (bytes_eq-Decides k k).1 refl

pub apart : (q k : List ℕ) → bytes_eq q k ≡ false → q ≢ k
apart q k e s = true≢false (sym ((bytes_eq-Decides q k).1 s) ∙ e)

pub same_from_tie : (k l : List ℕ) → slice_cmp nat_cmp k l ≡ Equal → k ≡ l
same_from_tie k l e = (bytes_eq-Decides k l).0 (sym (is_eq-slice_cmp k l) ∙ ap is_eq e)

flipped : (k l : List ℕ) (o : Ordering) → slice_cmp nat_cmp k l ≡ o → slice_cmp nat_cmp l k ≡ ordering_reverse o
flipped k l o e = nat_list_cmp_total.antisymm l k ∙ ap ordering_reverse e

pub named_first : (ks : List (List ℕ)) (k : List ℕ) → is_named (k ∷ ks) k ≡ true
named_first ks k = rw (is_same k)

-- a name that is among these differs from one that is not
not_among : (ks : List (List ℕ)) (q k : List ℕ) → is_named ks q ≡ true → is_named ks k ≡ false → q ≢ k
not_among ks q k y n s = true≢false (sym y ∙ ap (is_named ks) s ∙ n)

-- ---- the members that are not named

at_kept : (ks : List (List ℕ)) (q l : List ℕ) (t : Node) (ms ns : Members) (b : Bool) → is_named ks l ≡ b → is_named ks q ≡ false
    → get_member q ns ≡ get_member q ms → get_member q (cond b ns (member l t ns)) ≡ get_member q (member l t ms)
at_kept ks q l t ms ns true e n ih = ih ∙ sym (skips q l t ms (λ s. not_among ks l q e n (sym s)))
at_kept ks q l t ms ns false e n ih = ap (λ r. match_ordering (slice_cmp nat_cmp q l) r (Some t) r) ih

pub at-without_other : (ks : List (List ℕ)) (q : List ℕ) (ms : Members) → is_named ks q ≡ false → get_member q (without ks ms) ≡ get_member q ms
at-without_other ks q no_members n = refl
at-without_other ks q (member l t ms) n = at_kept ks q l t ms (without ks ms) (is_named ks l) refl n (at-without_other ks q ms n)

at_left_out : (ks : List (List ℕ)) (q l : List ℕ) (t : Node) (ns : Members) (b : Bool) → is_named ks l ≡ b → is_named ks q ≡ true
    → get_member q ns ≡ None → get_member q (cond b ns (member l t ns)) ≡ None
at_left_out ks q l t ns true e y ih = ih
at_left_out ks q l t ns false e y ih = skips q l t ns (not_among ks q l y e) ∙ ih

pub at-without_named : (ks : List (List ℕ)) (q : List ℕ) (ms : Members) → is_named ks q ≡ true → get_member q (without ks ms) ≡ None
at-without_named ks q no_members y = refl
at-without_named ks q (member l t ms) y = at_left_out ks q l t (without ks ms) (is_named ks l) refl y (at-without_named ks q ms y)

without_put_at : (ks : List (List ℕ)) (k l : List ℕ) (t u : Node) (ms ns : Members) (o : Ordering)
    → slice_cmp nat_cmp k l ≡ o → is_named ks k ≡ true → without ks ns ≡ without ks ms
    → without ks (match_ordering o (member k t (member l u ms)) (member l t ms) (member l u ns)) ≡ without ks (member l u ms)
without_put_at ks k l t u ms ns Less e y ih = rw y
without_put_at ks k l t u ms ns Equal e y ih =
    let named : is_named ks l ≡ true = ap (is_named ks) (sym (same_from_tie k l e)) ∙ y in
    rw named
without_put_at ks k l t u ms ns Greater e y ih = rw ih

pub without-put : (ks : List (List ℕ)) (k : List ℕ) (t : Node) (ms : Members) → is_named ks k ≡ true → without ks (put k t ms) ≡ without ks ms
without-put ks k t no_members y = rw y
without-put ks k t (member l u ms) y = without_put_at ks k l t u ms (put k t ms) (slice_cmp nat_cmp k l) refl y (without-put ks k t ms y)

-- ---- order

Below_kept : (k l : List ℕ) (t : Node) (ns : Members) (b : Bool) → slice_cmp nat_cmp k l ≡ Less → IsBelow k ns → IsBelow k (cond b ns (member l t ns))
Below_kept k l t ns true e r = r
Below_kept k l t ns false e r = (e, r)

pub Below-without : (ks : List (List ℕ)) (k : List ℕ) (ms : Members) → IsBelow k ms → IsBelow k (without ks ms)
Below-without ks k no_members b = tt
Below-without ks k (member l t ms) b = Below_kept k l t (without ks ms) (is_named ks l) b.0 (Below-without ks k ms b.1)

Sorted_kept : (l : List ℕ) (t : Node) (ns : Members) (b : Bool) → IsBelow l ns → AreAscending ns → AreAscending (cond b ns (member l t ns))
Sorted_kept l t ns true e r = r
Sorted_kept l t ns false e r = (e, r)

pub Sorted-without : (ks : List (List ℕ)) (ms : Members) → AreAscending ms → AreAscending (without ks ms)
Sorted-without ks no_members s = tt
Sorted-without ks (member l t ms) s = Sorted_kept l t (without ks ms) (is_named ks l) (Below-without ks l ms s.0) (Sorted-without ks ms s.1)

-- ---- parts

at-put_part : (k : List ℕ) (p : Option Node) (ms : Members) → get_member k ms ≡ None → get_member k (put_part k p ms) ≡ p
at-put_part k None ms n = n
at-put_part k (Some t) ms n = get_member-put k t ms

at-put_part_other : (q k : List ℕ) (p : Option Node) (ms : Members) → q ≢ k → get_member q (put_part k p ms) ≡ get_member q ms
at-put_part_other q k None ms d = refl
at-put_part_other q k (Some t) ms d = get_member-put_other q k t ms d

AreAscending-put_part : (k : List ℕ) (p : Option Node) (ms : Members) → AreAscending ms → AreAscending (put_part k p ms)
AreAscending-put_part k None ms s = s
AreAscending-put_part k (Some t) ms s = AreAscending-put k t ms s

without-put_part : (ks : List (List ℕ)) (k : List ℕ) (p : Option Node) (ms : Members) → is_named ks k ≡ true → without ks (put_part k p ms) ≡ without ks ms
without-put_part ks k None ms y = refl
without-put_part ks k (Some t) ms y = without-put ks k t ms y

pub Sorted-joined : (rs : Rows) (ps : List (Option Node)) (others : Members) → AreAscending others → AreAscending (joined rs ps others)
Sorted-joined no_more ps others s = s
Sorted-joined (row k need τ rs) [] others s = s
Sorted-joined (row k need τ rs) (p ∷ ps) others s = AreAscending-put_part k p (joined rs ps others) (Sorted-joined rs ps others s)

pub at-joined_other : (rs : Rows) (ps : List (Option Node)) (others : Members) (q : List ℕ)
    → is_named (names_of rs) q ≡ false → get_member q (joined rs ps others) ≡ get_member q others
at-joined_other no_more ps others q n = refl
at-joined_other (row k need τ rs) [] others q n = refl
at-joined_other (row k need τ rs) (p ∷ ps) others q n =
    let ns = or_parts (bytes_eq q k) (is_named (names_of rs) q) n in
    at-put_part_other q k p (joined rs ps others) (apart q k ns.0) ∙ at-joined_other rs ps others q ns.1

-- there is one part, which may be missing, for each row
abbrev pub Aligned : Rows → List (Option Node) → Type 0
Aligned no_more [] = Unit {0}
Aligned no_more (p ∷ ps) = ⊥
Aligned (row k need τ rs) [] = ⊥
Aligned (row k need τ rs) (p ∷ ps) = Aligned rs ps

pub Aligned-PartsFit : (rs : Rows) (ps : List (Option Node)) → PartsFit rs ps → Aligned rs ps
Aligned-PartsFit no_more [] f = tt
Aligned-PartsFit no_more (p ∷ ps) f = f
Aligned-PartsFit (row k need τ rs) [] f = f
Aligned-PartsFit (row k need τ rs) (p ∷ ps) f = Aligned-PartsFit rs ps f.1

pub Aligned-PartsAt : (rs : Rows) (ps : List (Option Node)) (ms : Members) → PartsAt rs ps ms → Aligned rs ps
Aligned-PartsAt no_more [] ms f = tt
Aligned-PartsAt no_more (p ∷ ps) ms f = f
Aligned-PartsAt (row k need τ rs) [] ms f = f
Aligned-PartsAt (row k need τ rs) (p ∷ ps) ms f = Aligned-PartsAt rs ps ms f.1

PartsAt-put_part : (rs : Rows) (ps : List (Option Node)) (k : List ℕ) (p : Option Node) (ms : Members)
    → is_named (names_of rs) k ≡ false → PartsAt rs ps ms → PartsAt rs ps (put_part k p ms)
PartsAt-put_part no_more [] k p ms n f = tt
PartsAt-put_part no_more (x ∷ ps) k p ms n f = f
PartsAt-put_part (row l need τ rs) [] k p ms n f = f
PartsAt-put_part (row l need τ rs) (x ∷ ps) k p ms n f =
    let ns = or_parts (bytes_eq k l) (is_named (names_of rs) k) n in
    (at-put_part_other l k p ms (λ s. apart k l ns.0 (sym s)) ∙ f.0, PartsAt-put_part rs ps k p ms ns.1 f.1)

first_apart : (b c : Bool) → (not b && c) ≡ true → (b ≡ false) × (c ≡ true)
first_apart true c e = absurd (true≢false (sym e))
first_apart false c e = (refl, e)

pub named_later : (k : List ℕ) (ks : List (List ℕ)) (q : List ℕ) → is_named ks q ≡ true → is_named (k ∷ ks) q ≡ true
named_later k ks q y = go (bytes_eq q k)
  where
    go : (b : Bool) → (b || is_named ks q) ≡ true
    go true = refl
    go false = y

pub PartsAt-joined : (rs : Rows) (ps : List (Option Node)) (others : Members) → distinct (names_of rs) ≡ true → Aligned rs ps
    → ((q : List ℕ) → is_named (names_of rs) q ≡ true → get_member q others ≡ None) → PartsAt rs ps (joined rs ps others)
PartsAt-joined no_more [] others d a n = tt
PartsAt-joined no_more (p ∷ ps) others d a n = a
PartsAt-joined (row k need τ rs) [] others d a n = a
PartsAt-joined (row k need τ rs) (p ∷ ps) others d a n =
    let ds = first_apart (is_named (names_of rs) k) (distinct (names_of rs)) d in
    let ih = PartsAt-joined rs ps others ds.1 a (λ q y. n q (named_later k (names_of rs) q y)) in (
      at-put_part k p (joined rs ps others) (at-joined_other rs ps others k ds.0 ∙ n k (named_first (names_of rs) k)),
      PartsAt-put_part rs ps k p (joined rs ps others) ds.0 ih,
    )

pub without_joined_among : (ks : List (List ℕ)) (rs : Rows) (ps : List (Option Node)) (others : Members)
    → ((q : List ℕ) → is_named (names_of rs) q ≡ true → is_named ks q ≡ true)
    → without ks (joined rs ps others) ≡ without ks others
without_joined_among ks no_more ps others h = refl
without_joined_among ks (row k need τ rs) [] others h = refl
without_joined_among ks (row k need τ rs) (p ∷ ps) others h =
    without-put_part ks k p (joined rs ps others) (h k (named_first (names_of rs) k))
    ∙ without_joined_among ks rs ps others (λ q y. h q (named_later k (names_of rs) q y))

pub without-joined : (rs : Rows) (ps : List (Option Node)) (others : Members) → without (names_of rs) (joined rs ps others) ≡ without (names_of rs) others
without-joined rs ps others = without_joined_among (names_of rs) rs ps others (λ q y. y)

-- ---- the four laws of an object

pub RowsFit-PartsAt : (rs : Rows) (ps : List (Option Node)) (ms : Members) → PartsAt rs ps ms → PartsFit rs ps → RowsFit ms rs
RowsFit-PartsAt no_more [] ms a f = no_row ms
RowsFit-PartsAt no_more (p ∷ ps) ms a f = absurd f
RowsFit-PartsAt (row k need τ rs) [] ms a f = absurd f
RowsFit-PartsAt (row k required τ rs) (None ∷ ps) ms a f = absurd f.0
RowsFit-PartsAt (row k optional τ rs) (None ∷ ps) ms a f = absent ms k τ rs a.0 (RowsFit-PartsAt rs ps ms a.1 f.1)
RowsFit-PartsAt (row k required τ rs) (Some t ∷ ps) ms a f = there ms k required τ rs t a.0 f.0 (RowsFit-PartsAt rs ps ms a.1 f.1)
RowsFit-PartsAt (row k optional τ rs) (Some t ∷ ps) ms a f = there ms k optional τ rs t a.0 f.0 (RowsFit-PartsAt rs ps ms a.1 f.1)

pub unnamed : (ks : List (List ℕ)) (others : Members) → without ks others ≡ others → (q : List ℕ) → is_named ks q ≡ true → get_member q others ≡ None
unnamed ks others e q y = ap (get_member q) (sym e) ∙ at-without_named ks q others y

-- the tree of a valid value fits
pub map_fits : (rs : Rows) (o : Openness) (ps : List (Option Node)) (others : Members) → distinct (names_of rs) ≡ true → PartsFit rs ps
    → without (names_of rs) others ≡ others → OthersFit o others → Fits (tree.map (joined rs ps others)) (map_of rs o)
map_fits rs o ps others d f e h =
    let a = PartsAt-joined rs ps others d (Aligned-PartsFit rs ps f) (unnamed (names_of rs) others e) in
    fits_map (joined rs ps others) rs o (RowsFit-PartsAt rs ps (joined rs ps others) a f) (subst (OthersFit o) (sym (without-joined rs ps others ∙ e)) h)

agree_at : (k q : List ℕ) (p : Option Node) (xs ys : Members) (rest : Bool)
    → get_member k xs ≡ p → get_member k ys ≡ p → (c : Bool) → bytes_eq q k ≡ c → (c || rest) ≡ true
    → (rest ≡ true → get_member q xs ≡ get_member q ys) → get_member q xs ≡ get_member q ys
agree_at k q p xs ys rest a b true e y more =
    let s : q ≡ k = (bytes_eq-Decides q k).0 e in
    ap (λ x. get_member x xs) s ∙ a ∙ sym b ∙ sym (ap (λ x. get_member x ys) s)
agree_at k q p xs ys rest a b false e y more = more y

PartsAt-agree : (rs : Rows) (ps : List (Option Node)) (xs ys : Members) (q : List ℕ)
    → PartsAt rs ps xs → PartsAt rs ps ys → is_named (names_of rs) q ≡ true → get_member q xs ≡ get_member q ys
PartsAt-agree no_more ps xs ys q a b y = absurd (true≢false (sym y))
PartsAt-agree (row k need τ rs) [] xs ys q a b y = absurd a
PartsAt-agree (row k need τ rs) (p ∷ ps) xs ys q a b y =
    agree_at k q p xs ys (is_named (names_of rs) q) a.0 b.0 (bytes_eq q k) refl y (λ z. PartsAt-agree rs ps xs ys q a.1 b.1 z)

-- joining the parts and others that were read from an object gives the object again
pub map_again : (rs : Rows) (ps : List (Option Node)) (ms others : Members) → distinct (names_of rs) ≡ true → PartsAt rs ps ms → AreAscending ms
    → others ≡ without (names_of rs) ms → joined rs ps others ≡ ms
map_again rs ps ms others d a s e =
    let left : AreAscending others = subst AreAscending (sym e) (Sorted-without (names_of rs) ms s) in
    let none : (q : List ℕ) → is_named (names_of rs) q ≡ true → get_member q others ≡ None =
    λ q y. ap (get_member q) e ∙ at-without_named (names_of rs) q ms y in
    let b = PartsAt-joined rs ps others d (Aligned-PartsAt rs ps ms a) none in
    same_members (joined rs ps others) ms (Sorted-joined rs ps others left) s (λ q. by_name q (is_named (names_of rs) q) refl b)
  where
    by_name : (q : List ℕ) (c : Bool)
        → is_named (names_of rs) q ≡ c → PartsAt rs ps (joined rs ps others) → get_member q (joined rs ps others) ≡ get_member q ms
    by_name q true y b = PartsAt-agree rs ps (joined rs ps others) ms q b a y
    by_name q false n b = at-joined_other rs ps others q n ∙ ap (get_member q) e ∙ at-without_other (names_of rs) q ms n

same_parts : (rs : Rows) (ps qs : List (Option Node)) (xs ys : Members) → PartsAt rs ps xs → PartsAt rs qs ys → xs ≡ ys → ps ≡ qs
same_parts no_more [] [] xs ys a b e = refl
same_parts no_more (p ∷ ps) qs xs ys a b e = absurd a
same_parts no_more [] (q ∷ qs) xs ys a b e = absurd b
same_parts (row k need τ rs) [] qs xs ys a b e = absurd a
same_parts (row k need τ rs) (p ∷ ps) [] xs ys a b e = absurd b
same_parts (row k need τ rs) (p ∷ ps) (q ∷ qs) xs ys a b e =
    let first : p ≡ q = sym a.0 ∙ ap (get_member k) e ∙ b.0 in
    let rest : ps ≡ qs = same_parts rs ps qs xs ys a.1 b.1 e in
    cc

-- two lists of parts with two collections of others give the same tree only if they are equal
pub map_one : (rs : Rows) (ps qs : List (Option Node)) (xs ys : Members) → distinct (names_of rs) ≡ true → Aligned rs ps → Aligned rs qs
    → without (names_of rs) xs ≡ xs → without (names_of rs) ys ≡ ys → tree.map (joined rs ps xs) ≡ tree.map (joined rs qs ys) → (ps ≡ qs) × (xs ≡ ys)
map_one rs ps qs xs ys d x y ea eb e =
    let inside : joined rs ps xs ≡ joined rs qs ys = cc in
    let a = PartsAt-joined rs ps xs d x (unnamed (names_of rs) xs ea) in
    let b = PartsAt-joined rs qs ys d y (unnamed (names_of rs) ys eb) in (
      same_parts rs ps qs _ _ a b inside,
      sym ea ∙ sym (without-joined rs ps xs) ∙ ap (without (names_of rs)) inside ∙ without-joined rs qs ys ∙ eb,
    )

pub map_inside : {rs : Rows} {o : Openness} {ms : Members} → Fits (tree.map ms) (map_of rs o) → RowsFit ms rs × OthersFit o (without (names_of rs) ms)
map_inside (fits_map m r p x h) = (x, h)

twice_at : (ks : List (List ℕ)) (l : List ℕ) (t : Node) (ns : Members) (b : Bool)
    → is_named ks l ≡ b → without ks ns ≡ ns → without ks (cond b ns (member l t ns)) ≡ cond b ns (member l t ns)
twice_at ks l t ns true e ih = ih
twice_at ks l t ns false e ih = rw (e, ih)

pub without-without : (ks : List (List ℕ)) (ms : Members) → without ks (without ks ms) ≡ without ks ms
without-without ks no_members = refl
without-without ks (member l t ms) = twice_at ks l t (without ks ms) (is_named ks l) refl (without-without ks ms)

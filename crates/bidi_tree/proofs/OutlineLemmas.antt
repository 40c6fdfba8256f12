-- Laws of outlines and of their trees.
use Rattle.std.proofs.Common.{◌≡◌, ◌≤◌, ◌<◌, ◌+◌, ◌-◌, ℕ, zero, suc, length, List, [], ◌∷◌, take, drop, slice_index_or, slice_set, ◌++◌, map, Bool, true, false, cond}
use Rattle.std.proofs.Common.{Ordering, Less, Equal, Greater, Vec, Global, rules, refl, ap, ◌∙◌, subst, sym, arith}
use Rattle.std.proofs.Math.Seq.{take-suc, drop-cons}
use Rattle.std.proofs.lemmas.List.{take-append-drop}
use Rattle.std.proofs.lemmas.Cmp.{nat_list_cmp_total}
use Rattle.std.specs.BTreeMap.{insert_entry}
use Rattle.std.specs.Prelude.{⊤, string_bytes}
use Rattle.std.specs.List.{insert, AllByRecursion}
use Rattle.std.specs.List.Sorted.{IsStrictlySortedBy}
use Rattle.std.specs.Map.{keys_of}
use Rattle.std.specs.Cmp.Lexicographic.{slice_cmp}
use Rattle.std.specs.Ordering.{nat_cmp, match_ordering, ordering_reverse}
use Rattle.bidi_tree.specs.Node.{Node, put, member, IsBelow, AreAscending, IsSound, ItemsAreSound, MembersAreSound}
use Rattle.bidi_tree.specs.formers.sorted.Sorted.{Ascend-map}
use Rattle.bidi_tree.specs.Named.{Name}
use Rattle.bidi_tree.specs.Outline.{outline_node, outline_step, outline_items, named_outlines}
use Rattle.bidi_tree.specs.View.{node, members_node}
use Rattle.bidi_tree.proofs.TreeLemmas.{Entry}
use Rattle.bidi_tree.proofs.SoundLemmas.{AreAscending-put}
use Rattle.bidi_tree.proofs.MemberLemmas.{same_name}
use Rattle.bidi_tree.specs.Node as tree
use Rattle.bidi_tree.specs.declared.outline.Outline.{Outline, List as ListOf, map-Outline, fold-roll-Outline, ind-Outline, the_lemmas}
use Rattle.bidi_tree.specs.declared.outline.Outline.TheOpen.{Outline-F}

abbrev pub OutlineMember : Type 0
OutlineMember = Name × Outline

-- the order of the names in a `Sorted`
abbrev pub by_name : Name → Name → Ordering
by_name a b = slice_cmp nat_cmp a.now b.now

-- ---- a member finds its place

-- the name is above those of the first so many members
abbrev pub IsPast : List ℕ → ℕ → List OutlineMember → Type 0
IsPast k zero ms = ⊤
IsPast k (suc i) [] = ⊤
IsPast k (suc i) (m ∷ ms) = (slice_cmp nat_cmp k m.0.now ≡ Greater) × IsPast k i ms

abbrev Stands : List ℕ → OutlineMember → Ordering → Type 0
Stands k m o = slice_cmp nat_cmp k m.0.now ≡ o

next_past : (k : List ℕ) (i : ℕ) (ms : List OutlineMember) (m : OutlineMember)
    → IsPast k i ms → m ≡ slice_index_or ms i m → Stands k m Greater → IsPast k (suc i) ms
next_past k i [] m h at above = tt
next_past k zero (x ∷ ms) m h at above = (subst (λ y. Stands k y Greater) at above, tt)
next_past k (suc i) (x ∷ ms) m h at above = (h.0, next_past k i ms m h.1 at above)

name_below : (k : List ℕ) (i : ℕ) (ms : List OutlineMember) (m : OutlineMember)
    → IsBelow k (named_outlines ms) → i < length ms → m ≡ slice_index_or ms i m → Stands k m Less
name_below k i [] m h few at = absurd (omega (arith, few))
name_below k zero (x ∷ ms) m h few at = subst (λ y. Stands k y Less) (sym at) h.0
name_below k (suc i) (x ∷ ms) m h few at = name_below k i ms m h.1 (omega (arith, few)) at

-- a name above whatever is below a member is above those before that member
past_before : (k : List ℕ) (i : ℕ) (ms : List OutlineMember) (m : OutlineMember) → ((l : List ℕ) → Stands l m Less → slice_cmp nat_cmp k l ≡ Greater)
    → AreAscending (named_outlines ms) → i < length ms → m ≡ slice_index_or ms i m → IsPast k i ms
past_before k zero ms m above h few at = tt
past_before k (suc i) [] m above h few at = absurd (omega (arith, few))
past_before k (suc i) (x ∷ ms) m above h few at =
    (above x.0.now (name_below x.0.now i ms m h.0 (omega (arith, few)) at), past_before k i ms m above h.1 (omega (arith, few)) at)

-- the name of a member is above those before it
pub past_same : (k : List ℕ) (i : ℕ) (ms : List OutlineMember) (m : OutlineMember)
    → AreAscending (named_outlines ms) → i < length ms → m ≡ slice_index_or ms i m → Stands k m Equal → IsPast k i ms
past_same k i ms m h few at same =
    past_before k i ms m
    (λ l less. nat_list_cmp_total.antisymm k l ∙ ap ordering_reverse (subst (λ n. slice_cmp nat_cmp l n ≡ Less) (sym (same_name k m.0.now same)) less)) h few at

-- a name above that of the member before a place is above all before the place
pub past_above : (k : List ℕ) (i : ℕ) (ms : List OutlineMember) (m : OutlineMember) → AreAscending (named_outlines ms)
    → 0 < i → i ≤ length ms → m ≡ slice_index_or ms (i - 1) m → Stands k m Greater → IsPast k i ms
past_above k i ms m h some few at above =
    let below : Stands k m Greater → slice_cmp nat_cmp m.0.now k ≡ Less = λ a. nat_list_cmp_total.antisymm m.0.now k ∙ ap ordering_reverse a in
    let before : IsPast k (i - 1) ms =
    past_before k (i - 1) ms m
    (λ l less. nat_list_cmp_total.antisymm k l ∙ ap ordering_reverse (nat_list_cmp_total.trans l m.0.now k less (below above))) h (omega (arith, some, few)) at in
    let one : suc (i - 1) ≡ i = omega (arith, some) in
    subst (λ j. IsPast k j ms) one (next_past k (i - 1) ms m before at above)

pub put_over : (k : List ℕ) (i : ℕ) (ms : List OutlineMember) (new : Outline) (m n : OutlineMember)
    → IsPast k i ms → i < length ms → m ≡ slice_index_or ms i m → n ≡ slice_index_or ms i n → Stands k m Equal
    → named_outlines (slice_set ms i (n.0, new)) ≡ put k (outline_node new) (named_outlines ms)
put_over k i [] new m n h few at again same = absurd (omega (arith, few))
put_over k zero (x ∷ ms) new m n h few at again same =
    let here : Stands k x Equal = subst (λ y. Stands k y Equal) at same in
    subst (λ (y : OutlineMember). named_outlines ((y.0, new) ∷ ms) ≡ put k (outline_node new) (named_outlines (x ∷ ms))) (sym again) (rw here)
put_over k (suc i) (x ∷ ms) new m n h few at again same =
    rw h.0 (ap (member x.0.now (outline_node x.1)) (put_over k i ms new m n h.1 (omega (arith, few)) at again same))

-- the name is below that of the member at that place, if there is one
abbrev pub IsBefore : List ℕ → ℕ → List OutlineMember → Type 0
IsBefore k i [] = ⊤
IsBefore k zero (m ∷ ms) = Stands k m Less
IsBefore k (suc i) (m ∷ ms) = IsBefore k i ms

pub before_at : (k : List ℕ) (i : ℕ) (ms : List OutlineMember) (m : OutlineMember) → m ≡ slice_index_or ms i m → Stands k m Less → IsBefore k i ms
before_at k i [] m at less = tt
before_at k zero (x ∷ ms) m at less = subst (λ y. Stands k y Less) at less
before_at k (suc i) (x ∷ ms) m at less = before_at k i ms m at less

pub before_end : (k : List ℕ) (i : ℕ) (ms : List OutlineMember) → length ms ≤ i → IsBefore k i ms
before_end k i [] all = tt
before_end k zero (x ∷ ms) all = absurd (omega (arith, all))
before_end k (suc i) (x ∷ ms) all = before_end k i ms (omega (arith, all))

pub put_between : (name : Name) (i : ℕ) (ms : List OutlineMember) (new : Outline) → IsPast name.now i ms → IsBefore name.now i ms
    → named_outlines (insert ms i (name, new)) ≡ put name.now (outline_node new) (named_outlines ms)
put_between name zero [] new h less = refl
put_between name (suc i) [] new h less = refl
put_between name zero (x ∷ ms) new h less = rw less
put_between name (suc i) (x ∷ ms) new h less = rw h.0 (ap (member x.0.now (outline_node x.1)) (put_between name i ms new h.1 less))

-- ---- members that ascend, one after the other

name_above : (x : OutlineMember) (done : List OutlineMember) (m : OutlineMember) (left : List OutlineMember)
    → IsBelow x.0.now (named_outlines (done ++ m ∷ left)) → Stands m.0.now x Greater
name_above x [] m left h = nat_list_cmp_total.antisymm m.0.now x.0.now ∙ ap ordering_reverse h.0
name_above x (y ∷ done) m left h = name_above x done m left h.1

-- a name that is above those before it goes last
put_next : (done : List OutlineMember) (m : OutlineMember) (left : List OutlineMember)
    → AreAscending (named_outlines (done ++ m ∷ left)) → put m.0.now (outline_node m.1) (named_outlines done) ≡ named_outlines (done ++ m ∷ [])
put_next [] m left h = refl
put_next (x ∷ done) m left h = rw (name_above x done m left h.0) (ap (member x.0.now (outline_node x.1)) (put_next done m left h.1))

pub nth : {A : Type 0} (ms : List A) (i : ℕ) (m : A) → i < length ms → m ≡ slice_index_or ms i m → drop i ms ≡ m ∷ drop (i + 1) ms
nth ms i m few at =
    let one : suc i ≡ i + 1 = omega arith in
    drop-cons ms i m few ∙ ap (λ x. x ∷ drop (suc i) ms) (sym at) ∙ ap (λ j. m ∷ drop j ms) one

-- the next of a list's members
pub put_nth : (ms : List OutlineMember) (i : ℕ) (m : OutlineMember) → AreAscending (named_outlines ms)
    → i < length ms → m ≡ slice_index_or ms i m → put m.0.now (outline_node m.1) (named_outlines (take i ms)) ≡ named_outlines (take (i + 1) ms)
put_nth ms i m h few at =
    let all : ms ≡ take i ms ++ m ∷ drop (i + 1) ms = sym (take-append-drop i ms) ∙ ap (λ xs. take i ms ++ xs) (nth ms i m few at) in
    let more : take (suc i) ms ≡ take i ms ++ m ∷ [] = take-suc ms i m few ∙ ap (λ x. take i ms ++ x ∷ []) (sym at) in
    let one : suc i ≡ i + 1 = omega arith in
    put_next (take i ms) m (drop (i + 1) ms) (subst (λ xs. AreAscending (named_outlines xs)) all h)
    ∙ ap named_outlines (sym more) ∙ ap (λ j. named_outlines (take j ms)) one

-- an outline with one more member has the tree with one more entry
pub one_more : (ds : List OutlineMember) (es : List Entry) (d : OutlineMember) (e : Entry)
    → named_outlines ds ≡ members_node es → d.0.now ≡ string_bytes e.0 → outline_node d.1 ≡ node e.1
    → named_outlines (ds ++ d ∷ []) ≡ members_node (es ++ e ∷ [])
one_more [] [] d e same name is = rw (name, is)
one_more [] (f ∷ es) d e same name is = cc
one_more (c ∷ ds) [] d e same name is = cc
one_more (c ∷ ds) (f ∷ es) d e same name is =
    let rest : named_outlines ds ≡ members_node es = cc in
    let more : named_outlines (ds ++ d ∷ []) ≡ members_node (es ++ e ∷ []) = one_more ds es d e rest name is in
    let first : c.0.now ≡ string_bytes f.0 = cc in
    let value : outline_node c.1 ≡ node f.1 = cc in
    rw (first, value, more)

-- ---- members in a `BTreeMap`

named_outlines-match_ordering : (o : Ordering) (a b c : List OutlineMember)
    → named_outlines (match_ordering o a b c) ≡ match_ordering o (named_outlines a) (named_outlines b) (named_outlines c)
named_outlines-match_ordering Less a b c = refl
named_outlines-match_ordering Equal a b c = refl
named_outlines-match_ordering Greater a b c = refl

pub named_outlines-insert_entry : (ms : List OutlineMember) (k : Name) (d : Outline)
    → named_outlines (insert_entry by_name ms k d) ≡ put k.now (outline_node d) (named_outlines ms)
named_outlines-insert_entry [] k d = refl
named_outlines-insert_entry (m ∷ ms) k d = named_outlines-match_ordering (slice_cmp nat_cmp k.now m.0.now) _ _ _ ∙ rw (named_outlines-insert_entry ms k d)

-- ---- the order of the names

IsBelow-named_outlines : (k : Name) (ms : List OutlineMember) → AllByRecursion (λ y. by_name k y ≡ Less) (keys_of ms) → IsBelow k.now (named_outlines ms)
IsBelow-named_outlines k [] h = tt
IsBelow-named_outlines k (m ∷ ms) h = (h.0, IsBelow-named_outlines k ms h.1)

pub AreAscending-named_outlines : (ms : List OutlineMember) → IsStrictlySortedBy by_name (keys_of ms) → AreAscending (named_outlines ms)
unfolding IsStrictlySortedBy
AreAscending-named_outlines [] h = tt
AreAscending-named_outlines (m ∷ ms) h = (IsBelow-named_outlines m.0 ms h.0, AreAscending-named_outlines ms h.1)

below_names : (k : Name) (ms : List OutlineMember) → IsBelow k.now (named_outlines ms) → AllByRecursion (λ y. by_name k y ≡ Less) (keys_of ms)
below_names k [] h = tt
below_names k (m ∷ ms) h = (h.0, below_names k ms h.1)

pub sorted_names : (ms : List OutlineMember) → AreAscending (named_outlines ms) → IsStrictlySortedBy by_name (keys_of ms)
unfolding IsStrictlySortedBy
sorted_names [] h = tt
sorted_names (m ∷ ms) h = (below_names m.0 ms h.0, sorted_names ms h.1)

-- members that ascend do so after one is put in
pub sorted_put : (ms ns : List OutlineMember) (k : List ℕ) (new : Outline)
    → IsStrictlySortedBy by_name (keys_of ms) → named_outlines ns ≡ put k (outline_node new) (named_outlines ms) → IsStrictlySortedBy by_name (keys_of ns)
sorted_put ms ns k new h e =
    sorted_names ns (subst AreAscending (sym e) (AreAscending-put k (outline_node new) (named_outlines ms) (AreAscending-named_outlines ms h)))

pub sorted_if : (b : Bool) (ms ns : List OutlineMember)
    → IsStrictlySortedBy by_name (keys_of ms) → IsStrictlySortedBy by_name (keys_of ns) → IsStrictlySortedBy by_name (keys_of (cond b ms ns))
sorted_if true ms ns h k = h
sorted_if false ms ns h k = k

-- ---- one level

pub outline_node-List : (v : Vec Outline Global) → outline_node (ListOf v) ≡ tree.list (outline_items v.items)
outline_node-List v = search (rules, the_lemmas)

-- ---- every outline is sound: its numbers are in range, and the names of each map ascend

abbrev Sound : Type 0
Sound = (d : Outline) × IsSound (outline_node d)

sound_items : (ds : List Sound) → ItemsAreSound (outline_items (map (λ d. d.0) ds))
sound_items [] = tt
sound_items (d ∷ ds) = (d.1, sound_items ds)

sound_members : (ms : List (Name × Sound)) → MembersAreSound (named_outlines (map (λ m. (m.0, m.1.0)) ms))
sound_members [] = tt
sound_members (m ∷ ms) = (m.1.1, sound_members ms)

-- one level is sound if each outline inside is sound
sound_step : (x : Outline-F Sound) → IsSound (outline_step (map-Outline Outline Node outline_node (map-Outline Sound Outline (λ d. d.0) x)))
sound_step Outline-F.Null = tt
sound_step (Outline-F.Bool b) = tt
sound_step (Outline-F.Int z) = z.in_range
sound_step Outline-F.Odd = tt
sound_step (Outline-F.Text s) = tt
sound_step (Outline-F.List v) = sound_items v.items
sound_step (Outline-F.Map ms) =
    (AreAscending-named_outlines (map (λ m. (m.0, m.1.0)) ms.entries.items) (Ascend-map (λ d. d.0) ms.entries.items ms.ascend), sound_members ms.entries.items)

pub IsSound-outline_node : (d : Outline) → IsSound (outline_node d)
IsSound-outline_node = ind-Outline (λ d. IsSound (outline_node d)) (λ x y is.
    subst IsSound (sym (fold-roll-Outline Node outline_step x)) (subst (λ z. IsSound (outline_step (map-Outline Outline Node outline_node z))) is (sound_step y)))

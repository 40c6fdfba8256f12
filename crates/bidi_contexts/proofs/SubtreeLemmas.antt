-- Contexts in hand that are subtrees, one after another: the first, what stands below it, and the rest.
use Rattle.std.proofs.Common.{◌≡◌, ◌∙◌, ◌≤◌, ◌<◌, ◌+◌, ◌-◌, ◌*◌, ℕ, zero, suc, true, false, List, [], ◌∷◌, ◌++◌, map, take, drop, length, get_or, append-nil}
use Rattle.std.proofs.Common.{Option, Some, None, refl, sym, ap, ap₂, subst, arith}
use Rattle.std.specs.Prelude.{◌==◌, nat_le, nat_eq, flat_map}
use Rattle.std.specs.List.{position, position_or_len}
use Rattle.std.specs.Option.{option_eq}
use Rattle.std.proofs.lemmas.List.{take-map, drop-map, take_all, append_assoc}
use Rattle.std.proofs.lemmas.List.Quantifiers.{position-Some}
use Rattle.std.proofs.Math.Seq.{take-append_seam, drop-append_seam}
use Rattle.bidi_tree.specs.Node.{Node}
use Rattle.bidi_contexts.specs.declared.context.Context.{Context}
use Rattle.bidi_contexts.specs.Acts.{Act}
use Rattle.bidi_contexts.specs.Accepted.{AreAccepted}
use Rattle.bidi_contexts.specs.Contexts.{contexts, parent_of, level_of, is_alive, children_of, subtree_within, subtree_of, tops, tree_order}
use Rattle.bidi_contexts.specs.ContextRows.{ContextRow, row_of, row_at, rows, inner_info}
use Rattle.bidi_contexts.specs.Info.{children_tree, depth_below, info_within}
use Rattle.bidi_contexts.specs.Subtrees.{AreSubtrees, end_in}
use Rattle.bidi_handles.specs.Maps.{listed}
use Rattle.bidi_contexts.proofs.AcceptedLemmas.{levels-accepted, parents-alive}
use Rattle.bidi_contexts.proofs.RemovalLemmas.{level-above, any-contexts, option-same}
use Rattle.bidi_contexts.proofs.MemberLemmas.{has, has-first, has-later, fails, no-truth, map-in, filter-none, by-cases}
use Rattle.bidi_contexts.proofs.ForestLemmas.{EndsAt, deeper-joined, tree, all-swapped}
use Rattle.bidi_contexts.proofs.TreeLemmas.{children-at, tops-at, below-is, lower-in, subtrees-end, order-has, order-placed}
use Rattle.bidi_contexts.proofs.EditLemmas.{somewhere}
use Rattle.bidi_contexts.proofs.RowLemmas.{first-map, levels-rows, place-stands}

-- ---- the first of several subtrees

-- the first of each of two lists, and the rest
parted : {A : Type 0} (x y : A) (xs ys : List A) → x ∷ xs ≡ y ∷ ys → (x ≡ y) × (xs ≡ ys)
parted x y xs ys same = (cc, cc)

not-empty : {A B : Type 0} (x : A) (xs : List A) → x ∷ xs ≡ [] → B
not-empty x xs same = absurd (cc)

-- how many of the contexts behind it stand below a context
abbrev pub below_count : Context → List Context → ℕ
below_count context behind = position_or_len (λ x. nat_le x.details.value.level context.details.value.level) behind

-- the first context is the root of the first subtree, below it stand its children's, and behind these the other subtrees
pub record First (context : Context) (behind : List Context) (past : List Act) (l : ℕ) (cs : List ℕ) : Type 0 where
  pub root : ℕ
  pub rest : List ℕ
  pub is : cs ≡ root ∷ rest
  pub row : row_of context ≡ row_at past root
  pub below : AreSubtrees (take (below_count context behind) behind) past (suc (level_of past root)) (children_of past root)
  pub next : AreSubtrees (drop (below_count context behind) behind) past l rest

pub first-subtree : (context : Context) (behind : List Context) (past : List Act) (l : ℕ) (cs : List ℕ)
    → AreSubtrees (context ∷ behind) past l cs → First context behind past l cs
first-subtree context behind past l [] s = not-empty (row_of context) (map row_of behind) s.rows
first-subtree context behind past l (c ∷ rest) s =
    let acc = s.accepted in
    let inner = flat_map (subtree_of past) (children_of past c) in
    let others = flat_map (subtree_of past) rest in
    let parts = parted (row_of context) (row_at past c) (map row_of behind)
    (map (row_at past) (flat_map (subtree_within 15 past) (children_of past c) ++ others)) s.rows in
    let behind-rows : map row_of behind ≡ map (row_at past) (inner ++ others) =
    parts.1 ∙ ap (λ xs. map (row_at past) (xs ++ others)) (below-is past acc c) in
    let same : context.details.value.level ≡ level_of past c = ap (λ (r : ContextRow). r.level) parts.0 in
    let each : (d : ℕ) → has rest d ≡ true → level_of past d ≡ l = (λ d listed. s.level d (has-later c d rest listed)) in
    let ends = subst (λ k. EndsAt (level_of past) k others) (sym (s.level c (has-first c rest))) (subtrees-end past acc l rest each) in
    let count : below_count context behind ≡ length inner =
    first-map (λ (x : Context). x.details.value.level) (λ k. nat_le k context.details.value.level) behind
    ∙ (ap (position_or_len (λ k. nat_le k context.details.value.level)) (levels-rows past behind (inner ++ others) behind-rows)
    ∙ (ap (λ m. position_or_len (λ k. nat_le k m) (map (level_of past) (inner ++ others))) same
    ∙ deeper-joined (level_of past) (level_of past c) inner others (lower-in past acc c) ends)) in
    record {
      root = c;
      rest = rest;
      is = refl;
      row = parts.0;
      below = record {
        rows = sym (take-map row_of (below_count context behind) behind) ∙ (ap₂ take count behind-rows
            ∙ (take-map (row_at past) (length inner) (inner ++ others) ∙ ap (map (row_at past)) (take-append_seam inner others)));
        level = λ d listed. (children-at past acc c d listed).1;
        accepted = acc;
      };
      next = record {
        rows = sym (drop-map row_of (below_count context behind) behind) ∙ (ap₂ drop count behind-rows
            ∙ (drop-map (row_at past) (length inner) (inner ++ others) ∙ ap (map (row_at past)) (drop-append_seam inner others)));
        level = each;
        accepted = acc;
      };
    }

-- ---- subtrees that are walked one after another

-- of some the list is told, and these are left
pub record Left {B : Type 0} (tell : ℕ → List B) (contexts : List Context) (past : List Act) (l : ℕ) (told whole : List B) : Type 0 where
  pub left : List ℕ
  pub stand : AreSubtrees contexts past l left
  pub joined : told ++ flat_map tell left ≡ whole

-- at the start all are left
pub left-all : {B : Type 0} (tell : ℕ → List B) (contexts : List Context) (past : List Act) (l : ℕ) (cs : List ℕ) (told : List B)
    → AreSubtrees contexts past l cs → Left tell contexts past l told (told ++ flat_map tell cs)
left-all tell contexts past l cs told s = record { left = cs; stand = s; joined = refl }

-- also where nothing is told yet
pub left-start : {B : Type 0} (tell : ℕ → List B) (contexts : List Context) (past : List Act) (l : ℕ) (cs : List ℕ) (told : List B)
    → told ≡ [] → AreSubtrees contexts past l cs → Left tell contexts past l told (flat_map tell cs)
left-start tell contexts past l cs told none s = record { left = cs; stand = s; joined = ap (λ xs. xs ++ flat_map tell cs) none }

-- then one fewer
pub left-more : {B : Type 0} (tell : ℕ → List B) (context : Context) (behind : List Context) (past : List Act) (l : ℕ) (told after whole : List B)
    → Left tell (context ∷ behind) past l told whole
    → ((c : ℕ) → level_of past c ≡ l → row_of context ≡ row_at past c
    → AreSubtrees (take (below_count context behind) behind) past (suc (level_of past c)) (children_of past c) → after ≡ told ++ tell c)
    → Left tell (drop (below_count context behind) behind) past l after whole
left-more tell context behind past l told after whole s made =
    let f = first-subtree context behind past l s.left s.stand in
    let level : level_of past f.root ≡ l = s.stand.level f.root (ap (λ cs. has cs f.root) f.is ∙ has-first f.root f.rest) in record {
      left = f.rest;
      stand = f.next;
      joined = ap (λ xs. xs ++ flat_map tell f.rest) (made f.root level f.row f.below)
          ∙ (append_assoc told (tell f.root) (flat_map tell f.rest) ∙ (ap (λ cs. told ++ flat_map tell cs) (sym f.is) ∙ s.joined));
    }

-- the same where what is walked is given by equations
pub left-next : {B : Type 0} (tell : ℕ → List B) (rest below next behind : List Context) (context : Context) (n : ℕ) (past : List Act) (l : ℕ)
    (told after whole : List B) → rest ≡ context ∷ behind → n ≡ below_count context behind → below ≡ take n behind → next ≡ drop n behind
    → Left tell rest past l told whole
    → ((c : ℕ) → level_of past c ≡ l → row_of context ≡ row_at past c → AreSubtrees below past (suc (level_of past c)) (children_of past c) → after ≡ told ++ tell c)
    → Left tell next past l after whole
left-next tell rest below next behind context n past l told after whole parts count front back s made =
    subst (λ xs. Left tell xs past l after whole) (sym (back ∙ ap (λ k. drop k behind) count))
    (left-more tell context behind past l told after whole (subst (λ xs. Left tell xs past l told whole) parts s)
    (λ c level row stand. made c level row
    (subst (λ xs. AreSubtrees xs past (suc (level_of past c)) (children_of past c)) (sym (front ∙ ap (λ k. take k behind) count)) stand)))

-- at the end none is left
pub left-none : {B : Type 0} (tell : ℕ → List B) (past : List Act) (l : ℕ) (told whole : List B) → Left tell [] past l told whole → told ≡ whole
left-none tell past l told whole s = sym (append-nil told) ∙ (ap (λ cs. told ++ flat_map tell cs) (sym (none s.left s.stand)) ∙ s.joined)
  where
    none : (cs : List ℕ) → AreSubtrees [] past l cs → cs ≡ []
    none [] s = refl
    none (c ∷ cs) s =
        not-empty (row_at past c) (map (row_at past) (flat_map (subtree_within 15 past) (children_of past c) ++ flat_map (subtree_of past) cs)) (sym s.rows)

-- and at the end
pub left-end : {B : Type 0} (tell : ℕ → List B) (rest : List Context) (past : List Act) (l : ℕ) (told whole : List B)
    → length rest ≡ 0 → Left tell rest past l told whole → told ≡ whole
left-end tell [] past l told whole empty s = left-none tell past l told whole s
left-end tell (x ∷ rest) past l told whole empty s = absurd (omega (arith, empty))

-- a list of one for each
pub each-one : {B : Type 0} (f : ℕ → B) (cs : List ℕ) → flat_map (λ c. f c ∷ []) cs ≡ map f cs
each-one f [] = refl
each-one f (c ∷ cs) = ap (λ xs. f c ∷ xs) (each-one f cs)

-- at the start, of what is told by one each
pub left-ones : {B : Type 0} (f : ℕ → B) (contexts : List Context) (past : List Act) (l : ℕ) (cs : List ℕ) (told : List B)
    → told ≡ [] → AreSubtrees contexts past l cs → Left (λ c. f c ∷ []) contexts past l told (map f cs)
left-ones f contexts past l cs told none s = record { left = cs; stand = s; joined = ap (λ xs. xs ++ flat_map (λ c. f c ∷ []) cs) none ∙ each-one f cs }

-- ---- Infos

-- an Info that goes deep enough goes no deeper
pub info-deep : (n : ℕ) (past : List Act) (depth : Option ℕ) (c : ℕ) → AreAccepted past → 17 ≤ n + level_of past c → info_within n past depth c ≡ info_within (suc n) past depth c
info-deep zero past depth c acc enough = let low = levels-accepted past acc c in absurd (omega (arith, low, enough))
info-deep (suc n) past depth c acc enough =
    ap (λ infos. inner_info (row_at past c) (children_tree depth infos))
    (map-in (info_within n past (depth_below depth)) (info_within (suc n) past (depth_below depth)) (children_of past c)
    (λ d listed. let level = (children-at past acc c d listed).1 in info-deep n past (depth_below depth) d acc (omega (arith, level, enough))))

-- the Info of a child, from those of its own children
pub info-made : (past : List Act) (depth : Option ℕ) (c : ℕ) → AreAccepted past
    → inner_info (row_at past c) (children_tree depth (map (info_within 16 past (depth_below depth)) (children_of past c))) ≡ info_within 16 past depth c
info-made past depth c acc = sym (info-deep 16 past depth c acc (let above = level-above past c in omega (arith, above)))

-- below the last level none is left
pub none-left : (past : List Act) (l : ℕ) (contexts : List Context) (cs : List ℕ) → AreSubtrees contexts past l cs → 17 ≤ l → cs ≡ []
none-left past l contexts [] s low = refl
none-left past l contexts (c ∷ cs) s low =
    let level = s.level c (has-first c cs) in
    let high = levels-accepted past s.accepted c in
    absurd (omega (arith, level, high, low))

-- the list of children is told at a depth that is not 0
pub some-children : (n : ℕ) (infos : List Node) → (n ≡ 0 → ⊥) → children_tree (Some n) infos ≡ listed infos
some-children zero infos some = absurd (some refl)
some-children (suc n) infos some = refl

-- each level has two
pub two-more : (n : ℕ) → (n ≡ 0 → ⊥) → 2 * (n - 1) + 2 ≡ 2 * n
two-more zero some = absurd (some refl)
two-more (suc n) some = omega arith

-- ---- the whole table

-- all live contexts are the subtrees of the top-level ones
pub tops-subtrees : (past : List Act) (items : List Context) → map row_of items ≡ rows past → AreAccepted past → AreSubtrees items past 1 (tops past)
tops-subtrees past items table acc = record { rows = table; level = λ c listed. (tops-at past c listed).1; accepted = acc }

-- the place behind another
next : (i : ℕ) → i + 1 ≡ suc i
next i = omega arith

-- a part of a list, seen
part-seen : {A B C : Type 0} (f : A → C) (g : B → C) (xs : List A) (ys : List B) (i n : ℕ) → map f xs ≡ map g ys → map f (take n (drop i xs)) ≡ map g (take n (drop i ys))
part-seen f g xs ys i n same =
    sym (take-map f n (drop i xs)) ∙ (ap (take n) (sym (drop-map f i xs) ∙ (ap (drop i) same ∙ drop-map g i ys)) ∙ take-map g n (drop i ys))

-- behind the first of a list
drop-one : {A : Type 0} (i : ℕ) (xs : List A) (x : A) (ys : List A) → drop i xs ≡ x ∷ ys → drop (suc i) xs ≡ ys
drop-one zero xs x ys same = ap (drop 1) same
drop-one (suc i) [] x ys same = not-empty x ys (sym same)
drop-one (suc i) (y ∷ xs) x ys same = drop-one i xs x ys same

-- below a live context stand its children's subtrees
pub below-subtrees : (past : List Act) (items : List Context) (c i e : ℕ) → map row_of items ≡ rows past → AreAccepted past → is_alive past c ≡ true
    → position (λ x. x.number == c) items ≡ Some i → e ≡ end_in (map (λ x. x.details.value.level) items) i
    → AreSubtrees (take (e - (i + 1)) (drop (i + 1) items)) past (suc (level_of past c)) (children_of past c)
below-subtrees past items c i e table acc alive at end =
    let order = tree_order past in
    let inner = flat_map (subtree_of past) (children_of past c) in
    let whole = tree (children_of past) (17 - level_of past c) c in
    let place = order-placed past acc c alive (children_of past) whole i
    (λ n d is other level. all-swapped (children_of past) c whole n (children_of past d)
    (λ k listed here.
    let lower = (children-at past acc d k listed).1 in
    let same = ap (level_of past) here in
    let depth : n ≡ 17 - level_of past c = omega (arith, level, lower, same) in
    ap₂ (tree (children_of past)) depth here))
    (sym (place-stands past items c table) ∙ at) in
    let after : drop (i + 1) order ≡ inner ++ drop (end_in (map (level_of past) order) i) order =
    ap (λ n. drop n order) (next i) ∙ drop-one i order c (inner ++ drop (end_in (map (level_of past) order) i) order) place.rest in
    let last = end ∙ ap (λ ls. end_in ls i) (levels-rows past items order table) ∙ place.end in
    let count : e - (i + 1) ≡ length inner = omega (arith, last) in
    record {
      rows = part-seen row_of (row_at past) items order (i + 1) (e - (i + 1)) table
          ∙ ap (map (row_at past)) (ap₂ take count after ∙ take-append_seam inner (drop (end_in (map (level_of past) order) i) order));
      level = λ d listed. (children-at past acc c d listed).1;
      accepted = acc;
    }

-- below what does not live stands nothing
pub none-below : (past : List Act) (c : ℕ) → AreAccepted past → is_alive past c ≡ false → AreSubtrees [] past (suc (level_of past c)) (children_of past c)
none-below past c acc dead =
    let none : children_of past c ≡ [] =
    filter-none (λ d. option_eq nat_eq (parent_of past d) (Some c)) (contexts past)
    (λ d listed. fails (option_eq nat_eq (parent_of past d) (Some c)) (λ is.
    no-truth (is_alive past c) (parents-alive past acc d c (sym (any-contexts past d) ∙ listed) (option-same (parent_of past d) c is)) dead)) in
    record {
      rows = ap (λ cs. map (row_at past) (flat_map (subtree_of past) cs)) (sym none);
      level = λ d listed. (children-at past acc c d listed).1;
      accepted = acc;
    }

-- what stands at a place lives
place-has : (xs : List ℕ) (c i : ℕ) → i < length xs → (get_or xs i 0 == c) ≡ true → has xs c ≡ true
place-has [] c i less here = absurd (omega (arith, less))
place-has (x ∷ xs) c zero less here = rw here refl
place-has (x ∷ xs) c (suc i) less here = has-later x c xs (place-has xs c i (omega (arith, less)) here)

stands-alive : (past : List Act) (items : List Context) (c i : ℕ) → map row_of items ≡ rows past → AreAccepted past
    → position (λ x. x.number == c) items ≡ Some i → is_alive past c ≡ true
stands-alive past items c i table acc at =
    let here = position-Some (λ d. d == c) (tree_order past) i 0 (sym (place-stands past items c table) ∙ at) in
    sym (order-has past acc c) ∙ place-has (tree_order past) c i here.0 here.1

-- so below it stand its children's subtrees
pub below-place : (past : List Act) (items lent : List Context) (number c i e : ℕ) → map row_of items ≡ rows past → AreAccepted past → items ≡ lent
    → number ≡ c → position (λ x. x.number == number) items ≡ Some i → e ≡ end_in (map (λ x. x.details.value.level) items) i
    → AreSubtrees (take (e - (i + 1)) (drop (i + 1) lent)) past (suc (level_of past c)) (children_of past c)
below-place past items lent number c i e table acc same is at end =
    let here : position (λ x. x.number == c) items ≡ Some i = subst (λ n. position (λ x. x.number == n) items ≡ Some i) is at in
    subst (λ xs. AreSubtrees (take (e - (i + 1)) (drop (i + 1) xs)) past (suc (level_of past c)) (children_of past c)) same
    (below-subtrees past items c i e table acc (stands-alive past items c i table acc here) here end)

-- where it does not live, it stands nowhere
pub below-none : (past : List Act) (items : List Context) (number c : ℕ) → map row_of items ≡ rows past → AreAccepted past → number ≡ c
    → (let none : Option ℕ = None in position (λ x. x.number == number) items ≡ none) → AreSubtrees [] past (suc (level_of past c)) (children_of past c)
below-none past items number c table acc is none =
    let here : (let none : Option ℕ = None in position (λ x. x.number == c) items ≡ none) =
    subst (λ n. (let none : Option ℕ = None in position (λ x. x.number == n) items ≡ none)) is none in
    by-cases (is_alive past c) (λ lives. somewhere past items c table acc lives here) (λ dead. none-below past c acc dead)

-- ---- where a subtree in hand ends

-- what a slice from a place on has
slice-rest : {A : Type 0} (i : ℕ) (xs : List A) → take (length xs - i) (drop i xs) ≡ drop i xs
slice-rest zero xs = take_all (length xs - 0) xs (omega arith)
slice-rest {A} (suc i) [] = let none : List A = [] in take_all (length none - suc i) none (omega arith)
slice-rest (suc i) (x ∷ xs) = ap (λ n. take n (drop i xs)) (less i (length xs)) ∙ slice-rest i xs
  where
    less : (i n : ℕ) → suc n - suc i ≡ n - i
    less i n = omega arith

drop-length : {A : Type 0} (i : ℕ) (xs : List A) → i ≤ length xs → length (drop i xs) + i ≡ length xs
drop-length zero xs le = omega arith
drop-length (suc i) [] le = absurd (omega (arith, le))
drop-length (suc i) (x ∷ xs) le = let ih = drop-length i xs (omega (arith, le)) in omega (arith, ih)

end-at-place : (items : List Context) (i : ℕ) (d : Context) → i < length items
    → end_in (map (λ x. x.details.value.level) items) i ≡ suc (i + position_or_len (λ x. nat_le x.details.value.level (get_or items i d).details.value.level) (drop (suc i) items))
end-at-place [] i d less = absurd (omega (arith, less))
end-at-place (x ∷ items) zero d less = let same = first-map (λ (y : Context). y.details.value.level) (λ k. nat_le k x.details.value.level) items in omega (arith, same)
end-at-place (x ∷ items) (suc i) d less = let ih = end-at-place items i d (omega (arith, less)) in omega (arith, ih)

pub range-end : (items : List Context) (i n : ℕ) (d : Context) → i < length items
    → n ≡ position_or_len (λ x. nat_le x.details.value.level (get_or items i d).details.value.level) (take (length items - (i + 1)) (drop (i + 1) items))
    → i + 1 + n ≡ end_in (map (λ x. x.details.value.level) items) i
range-end items i n d less is =
    let end = end-at-place items i d less in
    let same = ap (position_or_len (λ x. nat_le x.details.value.level (get_or items i d).details.value.level)) (slice-rest (i + 1) items ∙ ap (λ k. drop k items) (next i)) in
    omega (arith, end, same, is)

pub range-within : (items : List Context) (i n : ℕ) → i < length items → n ≤ length (take (length items - (i + 1)) (drop (i + 1) items)) → i + 1 + n ≤ length items
range-within items i n less le =
    let same = ap length (slice-rest (i + 1) items) in
    let all = drop-length (i + 1) items (omega (arith, less)) in
    omega (arith, le, same, all)

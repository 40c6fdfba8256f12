-- What edits of the table leave, by the rows of the past with the act added.
use Rattle.std.proofs.Common.{◌≡◌, ◌∙◌, ◌≤◌, ◌+◌, ℕ, true, List, [], ◌∷◌, ◌++◌, map, take, drop, length, get_or, Option, Some, None, refl, sym, ap, ap₂, subst, arith}
use Rattle.std.specs.Prelude.{◌==◌, not, filter, MatchOption, if◌then◌else◌, Result, Ok, Err, IsOk, is_ok}
use Rattle.std.specs.List.{position}
use Rattle.std.proofs.lemmas.Bool.Decides.{Decides-eqb}
use Rattle.std.proofs.lemmas.List.{map-append, append_assoc, take_more, take-map, drop-map, take_all, drop_all}
use Rattle.std.proofs.lemmas.List.Quantifiers.{position-Some}
use Rattle.url.specs.Parts.{Parts}
use Rattle.bidi_handles.specs.declared.id.IdKind.TheVariants.{Context}
use Rattle.bidi_contexts.specs.declared.context.Context as in_hand
use Rattle.bidi_contexts.specs.Acts.{Act, Made, Framed, Removed, Moved, UserRemoved, Move, gives, given, next_number}
use Rattle.bidi_contexts.specs.Accepted.{AreAccepted}
use Rattle.bidi_contexts.specs.Contexts.{is_alive, is_gone, parent_of, tree_order}
use Rattle.bidi_contexts.specs.ContextRows.{ContextRow, row_of, row_at, rows}
use Rattle.bidi_contexts.specs.Subtrees.{end_in}
use Rattle.bidi_handles.proofs.ListLemmas.{filter-map}
use Rattle.bidi_contexts.proofs.AcceptedLemmas.{act-sound, alive-below}
use Rattle.bidi_contexts.proofs.BirthLemmas.{row-older-made, row-older-framed, parent-unborn, same-number}
use Rattle.bidi_contexts.proofs.MemberLemmas.{map-in, no-truth, find-none}
use Rattle.bidi_contexts.proofs.MoveLemmas.{position-none}
use Rattle.bidi_contexts.proofs.OrderLemmas.{order-removed, order-moved, order-framed, order-made, order-left, end_at}
use Rattle.bidi_contexts.proofs.RowLemmas.{map-cut, levels-rows, place-of, place-stands}
use Rattle.bidi_contexts.proofs.TreeLemmas.{order-has}

-- what lives stands somewhere in tree order
pub nowhere : {A : Type 0} (past : List Act) (c : ℕ) → AreAccepted past
    → is_alive past c ≡ true → (let none : Option ℕ = None in position (λ d. d == c) (tree_order past) ≡ none) → A
nowhere past c acc alive none =
    let order = tree_order past in
    no-truth (c == c) ((Decides-eqb c c).1 refl)
    (find-none (λ d. d == c) order c (position-none (λ d. d == c) order none) (order-has past acc c ∙ alive))

-- and in the table
pub somewhere : {A : Type 0} (past : List Act) (items : List in_hand.Context) (c : ℕ) → map row_of items ≡ rows past → AreAccepted past
    → is_alive past c ≡ true → (let none : Option ℕ = None in position (λ x. x.number == c) items ≡ none) → A
somewhere past items c table acc alive none = nowhere past c acc alive (sym (place-stands past items c table) ∙ none)

-- the end of a subtree in hand
end-stands : (past : List Act) (items : List in_hand.Context) (i : ℕ) → map row_of items ≡ rows past → end_in (map (λ x. x.details.value.level) items) i ≡ end_at past i
end-stands past items i table = ap (λ ls. end_in ls i) (levels-rows past items (tree_order past) table)

-- a removal leaves the rows that the past has after it
pub removed-rows : (past : List Act) (a i e : ℕ) (items lent : List in_hand.Context) → AreAccepted (Removed a ∷ past) → map row_of items ≡ rows past → lent ≡ items
    → position (λ x. x.number == a) lent ≡ Some i → e ≡ end_in (map (λ x. x.details.value.level) lent) i
    → map row_of (take i items ++ drop e items) ≡ rows (Removed a ∷ past)
removed-rows past a i e items lent accepted table same place last =
    let at = subst (λ xs. position (λ x. x.number == a) xs ≡ Some i) same place in
    let end = subst (λ xs. e ≡ end_in (map (λ x. x.details.value.level) xs) i) same last in
    map-cut row_of (row_at past) items (tree_order past) i e table
    ∙ ap (map (row_at past)) (ap (λ n. take i (tree_order past) ++ drop n (tree_order past)) (end ∙ end-stands past items i table)
    ∙ sym (order-removed past a i accepted (sym (place-stands past items a table) ∙ at)))

-- a list up to what stands at a place
one-more : (xs : List ℕ) (a i : ℕ) → position (λ x. x == a) xs ≡ Some i → take (i + 1) xs ≡ take i xs ++ a ∷ []
one-more xs a i at =
    let here = position-Some (λ x. x == a) xs i 0 at in
    take_more xs i 0 here.0 ∙ ap (λ x. take i xs ++ x ∷ []) ((Decides-eqb (get_or xs i 0) a).0 here.1)

-- so does a navigation, once the row of its context has changed
pub moved-rows : (past : List Act) (a i e : ℕ) (move : Move) (items lent : List in_hand.Context) → AreAccepted (Moved a move ∷ past)
    → map row_of items ≡ map (row_at (Moved a move ∷ past)) (tree_order past) → lent ≡ items
    → position (λ x. x.number == a) lent ≡ Some i → e ≡ end_in (map (λ x. x.details.value.level) lent) i
    → map row_of (take (i + 1) items ++ drop e items) ≡ rows (Moved a move ∷ past)
moved-rows past a i e move items lent accepted table same place last =
    let order = tree_order past in
    let at : position (λ d. d == a) order ≡ Some i =
    sym (place-of (Moved a move ∷ past) items order a table) ∙ subst (λ xs. position (λ x. x.number == a) xs ≡ Some i) same place in
    let end = subst (λ xs. e ≡ end_in (map (λ x. x.details.value.level) xs) i) same last in
    map-cut row_of (row_at (Moved a move ∷ past)) items order (i + 1) e table
    ∙ ap (map (row_at (Moved a move ∷ past)))
    (ap₂ (λ xs n. xs ++ drop n order) (one-more order a i at) (end ∙ ap (λ ls. end_in ls i) (levels-rows (Moved a move ∷ past) items order table))
    ∙ (append_assoc (take i order) (a ∷ []) (drop (end_at past i) order) ∙ sym (order-moved past a i move accepted at)))

-- what lives was born before
lives-before : (past : List Act) (c : ℕ) → is_alive past c ≡ true → c ≤ given past Context
lives-before past c alive = let below = alive-below c (next_number past Context) (is_gone past c) alive in omega (arith, below)

-- a row that is put in at a place
put-in : (f : in_hand.Context → ContextRow) (g : ℕ → ContextRow) (items : List in_hand.Context) (context : in_hand.Context) (cs : List ℕ) (k e : ℕ)
    → map f items ≡ map g cs → f context ≡ g k → map f (take e items ++ (context ∷ drop e items)) ≡ map g (take e cs ++ (k ∷ drop e cs))
put-in f g items context cs k e same row =
    map-append f (take e items) (context ∷ drop e items)
    ∙ (ap₂ (λ us vs. us ++ vs) (map-take f g items cs e same) (ap₂ (λ r rs. r ∷ rs) row (map-drop f g items cs e same))
    ∙ sym (map-append g (take e cs) (k ∷ drop e cs)))
  where
    map-take : (f : in_hand.Context → ContextRow) (g : ℕ → ContextRow) (items : List in_hand.Context) (cs : List ℕ) (e : ℕ)
        → map f items ≡ map g cs → map f (take e items) ≡ map g (take e cs)
    map-take f g items cs e same = sym (take-map f e items) ∙ (ap (take e) same ∙ take-map g e cs)

    map-drop : (f : in_hand.Context → ContextRow) (g : ℕ → ContextRow) (items : List in_hand.Context) (cs : List ℕ) (e : ℕ)
        → map f items ≡ map g cs → map f (drop e items) ≡ map g (drop e cs)
    map-drop f g items cs e same = sym (drop-map f e items) ∙ (ap (drop e) same ∙ drop-map g e cs)

-- a new child leaves them too, where the subtree of its parent ends
pub framed-rows : (past : List Act) (p : ℕ) (url : Parts) (i e : ℕ) (items : List in_hand.Context) (context : in_hand.Context)
    → AreAccepted (Framed p url ∷ past) → map row_of items ≡ rows past → row_of context ≡ row_at (Framed p url ∷ past) (next_number past Context)
    → position (λ x. x.number == p) items ≡ Some i → e ≡ end_in (map (λ x. x.details.value.level) items) i
    → map row_of (take e items ++ (context ∷ drop e items)) ≡ rows (Framed p url ∷ past)
framed-rows past p url i e items context accepted table row at end =
    let after = Framed p url ∷ past in
    let order = tree_order past in
    put-in row_of (row_at after) items context order (next_number past Context) e
    (table ∙ map-in (row_at past) (row_at after) order
    (λ c there. sym (row-older-framed past p url c (lives-before past c (sym (order-has past accepted.2 c) ∙ there))))) row
    ∙ ap (map (row_at after)) (ap (λ n. take n order ++ (next_number past Context ∷ drop n order)) (end ∙ end-stands past items i table)
    ∙ sym (order-framed past p i url accepted (sym (place-stands past items p table) ∙ at)))

-- and a new top-level context at the end
pub made-rows : (past : List Act) (w : Option ℕ) (u : ℕ) (items : List in_hand.Context) (context : in_hand.Context) (e : ℕ)
    → AreAccepted (Made w u ∷ past) → map row_of items ≡ rows past → row_of context ≡ row_at (Made w u ∷ past) (next_number past Context) → e ≡ length items
    → map row_of (take e items ++ (context ∷ drop e items)) ≡ rows (Made w u ∷ past)
made-rows past w u items context e accepted table row end =
    let after = Made w u ∷ past in
    ap (λ n. map row_of (take n items ++ (context ∷ drop n items))) end
    ∙ (ap₂ (λ xs ys. map row_of (xs ++ (context ∷ ys))) (take_all (length items) items (omega arith)) (drop_all (length items) items (omega arith))
    ∙ (map-append row_of items (context ∷ [])
    ∙ (ap₂ (λ rs r. rs ++ r ∷ []) (table ∙ map-in (row_at past) (row_at after) (tree_order past)
    (λ c there. sym (row-older-made past w u c (lives-before past c (sym (order-has past accepted.2 c) ∙ there))))) row
    ∙ (sym (map-append (row_at after) (tree_order past) (next_number past Context ∷ [])) ∙ ap (map (row_at after)) (sym (order-made past w u accepted))))))

-- so either birth leaves them
pub born-rows : (past : List Act) (act : Act) (items : List in_hand.Context) (context : in_hand.Context) (e : ℕ)
    → AreAccepted (act ∷ past) → gives Context act ≡ true → map row_of items ≡ rows past → row_of context ≡ row_at (act ∷ past) (next_number past Context)
    → MatchOption context.details.value.parent (e ≡ length items) (λ p. (i : ℕ) → position (λ x. x.number == p) items ≡ Some i → e ≡ end_in (map (λ x. x.details.value.level) items) i)
    → map row_of (take e items ++ (context ∷ drop e items)) ≡ rows (act ∷ past)
born-rows past (Made w u) items context e accepted born table row place =
    let none = ap (λ (r : ContextRow). r.parent) row ∙ parent-unborn past (next_number past Context) (omega arith) in
    made-rows past w u items context e accepted table row
    (subst (λ o. MatchOption o (e ≡ length items) (λ p. (i : ℕ) → position (λ x. x.number == p) items ≡ Some i → e ≡ end_in (map (λ x. x.details.value.level) items) i)) none place)
born-rows past (Framed p url) items context e accepted born table row place =
    let acc = accepted.2 in
    let lives = (act-sound past accepted.0 (Framed p url) accepted.1).alive in
    let parent = ap (λ (r : ContextRow). r.parent) row ∙ ap (λ b. if b then Some p else parent_of past (next_number past Context)) (same-number (next_number past Context)) in
    let end = subst (λ o. MatchOption o (e ≡ length items) (λ p. (i : ℕ) → position (λ x. x.number == p) items ≡ Some i → e ≡ end_in (map (λ x. x.details.value.level) items) i)) parent place in
    elim (position (λ x. x.number == p) items) as (λ o. position (λ x. x.number == p) items ≡ o
    → map row_of (take e items ++ (context ∷ drop e items)) ≡ rows (Framed p url ∷ past)) [
      | None ↦ λ none. somewhere past items p table acc lives none
      | Some i ↦ λ at. framed-rows past p url i e items context accepted table row at (end i at)
    ] refl
born-rows past act items context e accepted born table row place = absurd (cc)

-- what succeeds is Ok
pub ok-is : {A E : Type 0} (r : Result A E) → IsOk r → is_ok r ≡ true
ok-is (Ok x) ok = refl
ok-is (Err e) ok = ok

-- the removal of a user context leaves the rows of the others
pub left-rows : (past : List Act) (u : ℕ) (items : List in_hand.Context) → AreAccepted (UserRemoved u ∷ past) → map row_of items ≡ rows past
    → map row_of (filter (λ x. not (x.details.value.user == u)) items) ≡ rows (UserRemoved u ∷ past)
left-rows past u items accepted table =
    let other = λ (r : ContextRow). not (r.user == u) in
    sym (filter-map row_of other items)
    ∙ (ap (filter other) table ∙ (filter-map (row_at past) other (tree_order past) ∙ ap (map (row_at past)) (sym (order-left past accepted.2 u))))

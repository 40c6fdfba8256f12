-- The entries of a link of the code by place: their ids, which are pending, and a change of one fate.
use Rattle.std.proofs.Common.{◌≡◌, ◌∙◌, ◌<◌, ◌+◌, ℕ, suc, zero, Bool, true, false, true≢false, cond, not, List, [], ◌∷◌, map, length}
use Rattle.std.proofs.Common.{Option, Some, None, option_map, refl, sym, ap, ap₂, subst, arith, rules, filter, find, unwrap_or}
use Rattle.std.specs.Prelude.{◌==◌, slice_get, slice_set, if◌then◌else◌}
use Rattle.std.proofs.lemmas.Bool.{ne_eqb}
use Rattle.bidi_tree.specs.Node.{Node, null}
use Rattle.bidi_contexts.specs.Actions.{is_text}
use Rattle.bidi_handles.specs.Params.{tree_if_at, text_if_at, text_at}
use Rattle.bidi_tree.specs.declared.number.JsUint.{JsUint}
use Rattle.bidi_methods.specs.declared.method.Method.{Method}
use Rattle.bidi_methods.specs.Method.{method_text}
use Rattle.bidi_local.specs.Pending.{Pending, ids, method_of, without}
use Rattle.bidi_ledger.specs.declared.ledger.Entry.{Entry}
use Rattle.bidi_ledger.specs.declared.ledger.Fate.{Fate}
use Rattle.bidi_ledger.specs.declared.ledger.Fate.TheVariants as in_hand
use Rattle.bidi_ledger.specs.Pairing.{Sending}
use Rattle.bidi_ledger.specs.Link as seen
use Rattle.bidi_ledger.specs.Link.{Link, is_waiting, is_reply_to, messages, fate_with, fate_of, entries_from}
use Rattle.bidi_link.specs.Rows.{waiting_among, with_cut}
use Rattle.bidi_ledger.specs.Steps.{fate_seen, entry_seen}

-- ---- ids

-- the ids of the entries count on from the first
abbrev pub AreNumbered : ℕ → List Entry → Type 0
AreNumbered k [] = Unit {0}
AreNumbered k (e ∷ es) = (e.id.value ≡ k) × AreNumbered (suc k) es

-- a list of no length is empty
pub no_length : {A : Type 0} (xs : List A) → length xs ≡ 0 → xs ≡ []
no_length [] none = refl
no_length (x ∷ xs) none = absurd (omega (arith, none))

pub same_head : {A : Type 0} {x y : A} {xs ys : List A} → x ∷ xs ≡ y ∷ ys → x ≡ y
same_head e = cc

pub same_tail : {A : Type 0} {x y : A} {xs ys : List A} → x ∷ xs ≡ y ∷ ys → xs ≡ ys
same_tail e = cc

pub are_numbered : (k : ℕ) (v : Link) (es : List Entry) (cs : List Sending) → map entry_seen es ≡ entries_from k v cs → AreNumbered k es
are_numbered k v [] cs is = tt
are_numbered k v (e ∷ es) [] is = cc
are_numbered k v (e ∷ es) (c ∷ cs) is = (ap (λ x. x.id) (same_head is), are_numbered (suc k) v es cs (same_tail is))

-- ---- an entry at a place

pub record IsEntry (v : Link) (n : ℕ) (c : Sending) (e : Entry) : Type 0 where
  pub id : e.id.value ≡ n
  pub method : method_text e.method ≡ c.method
  pub fate : fate_seen e.fate ≡ fate_of v n

pub entry_at : (p k n : ℕ) (v : Link) (es : List Entry) (cs : List Sending) (c : Sending)
    → n ≡ k + p → map entry_seen es ≡ entries_from k v cs → slice_get cs p ≡ Some c
    → (e : Entry) × (slice_get es p ≡ Some e) × IsEntry v n c e
entry_at p k n v es [] c place is at = cc
entry_at p k n v [] (d ∷ cs) c place is at = cc
entry_at zero k n v (e ∷ es) (d ∷ cs) c place is at =
    let h = same_head is in
    let same : d ≡ c = cc at in
    let here : k ≡ n = omega (arith, place) in
    (e, refl, record { id = ap (λ x. x.id) h ∙ here; method = ap (λ x. x.method) h ∙ ap (λ x. x.method) same; fate = ap (λ x. x.fate) h ∙ ap (fate_of v) here })
entry_at (suc p) k n v (e ∷ es) (d ∷ cs) c place is at = entry_at p (suc k) n v es cs c (omega (arith, place)) (same_tail is) at

-- the entries after one fate has changed
pub entries-set : (p k n : ℕ) (v w : Link) (f : Fate) (e : Entry) (es : List Entry) (cs : List Sending)
    → n ≡ k + p → map entry_seen es ≡ entries_from k v cs → slice_get es p ≡ Some e
    → fate_seen f ≡ fate_of w n → ((id : ℕ) → (id ≡ n → ⊥) → fate_of v id ≡ fate_of w id)
    → map entry_seen (slice_set es p (record e { fate = f })) ≡ entries_from k w cs
entries-set p k n v w f e [] cs place is at here others = cc
entries-set p k n v w f e (x ∷ es) [] place is at here others = cc
entries-set zero k n v w f e (x ∷ es) (c ∷ cs) place is at here others =
    let h = same_head is in
    let same : x ≡ e = cc at in
    let first : n ≡ k = omega (arith, place) in
    ap₂ {B = List seen.Entry} (λ y ys. y ∷ ys)
    (ap₂ {B = seen.Fate} (λ (y : seen.Entry) g. record y { fate = g }) (ap entry_seen (sym same) ∙ h) (here ∙ ap (fate_of w) first))
    (same_tail is ∙ later (suc k) cs (omega (arith, first)))
  where
    later : (j : ℕ) (ds : List Sending) → n < j → entries_from j v ds ≡ entries_from j w ds
    later j [] above = refl
    later j (d ∷ ds) above =
        ap₂ {B = List seen.Entry} (λ g ys. record { id = j; method = d.method; fate = g } ∷ ys)
        (others j (λ same. omega (arith, same, above))) (later (suc j) ds (omega (arith, above)))
entries-set (suc p) k n v w f e (x ∷ es) (c ∷ cs) place is at here others =
    ap₂ {B = List seen.Entry} (λ y ys. y ∷ ys)
    (same_head is ∙ ap (λ g. record { id = k; method = c.method; fate = g }) (others k (λ same. omega (arith, same, place))))
    (entries-set p (suc k) n v w f e es cs (omega (arith, place)) (same_tail is) at here others)

-- ---- which wait

-- an entry as a command that waits
abbrev pub row : Entry → ℕ × Method
row e = (e.id.value, e.method)

waiting-if : (b : Bool) (e : Entry) (es : List Entry) → map row (cond b (e ∷ es) es) ≡ cond b (row e ∷ map row es) (map row es)
waiting-if true e es = refl
waiting-if false e es = refl

-- the first waits, or not
waiting-cons : (e : Entry) (es : List Entry)
    → waiting_among (e ∷ es) ≡ cond (is_waiting (fate_seen e.fate)) ((e.id.value, e.method) ∷ waiting_among es) (waiting_among es)
waiting-cons e es = waiting-if (is_waiting (fate_seen e.fate)) e (filter (λ x. is_waiting (fate_seen x.fate)) es)

pub waits : (e : Entry) (es : List Entry) (b : Bool)
    → is_waiting (fate_seen e.fate) ≡ b → waiting_among (e ∷ es) ≡ cond b ((e.id.value, e.method) ∷ waiting_among es) (waiting_among es)
waits e es b is = waiting-cons e es ∙ ap (λ d. cond d ((e.id.value, e.method) ∷ waiting_among es) (waiting_among es)) is

keeps : (id : ℕ) (w : ℕ × Method) (waiting : Pending) (b : Bool)
    → (id == w.0) ≡ b → without (w ∷ waiting) id ≡ cond (not b) (w ∷ without waiting id) (without waiting id)
keeps id w waiting b is = ap (λ d. cond (not d) (w ∷ without waiting id) (without waiting id)) is

finds : (id : ℕ) (w : ℕ × Method) (waiting : Pending) (b : Bool)
    → (id == w.0) ≡ b → method_of (w ∷ waiting) id ≡ option_map (λ x. x.1) (cond b (Some w) (find (λ x. id == x.0) waiting))
finds id w waiting b is = ap (λ d. option_map (λ x. x.1) (cond d (Some w) (find (λ x. id == x.0) waiting))) is

itself : (n m : ℕ) → m ≡ n → (n == m) ≡ true
itself n m is = search (rules, is)

apart : (n m k : ℕ) → m ≡ k → (n ≡ k → ⊥) → (n == m) ≡ false
apart n m k is differ = ne_eqb n m (λ same. differ (same ∙ is))

-- an id before all others is not among them
none-without : (j id : ℕ) (es : List Entry) → AreNumbered j es → id < j → without (waiting_among es) id ≡ waiting_among es
none-without j id [] numbered before = refl
none-without j id (e ∷ es) numbered before = by_case (is_waiting (fate_seen e.fate)) refl (none-without (suc j) id es numbered.1 (omega (arith, before)))
  where
    by_case : (b : Bool) → is_waiting (fate_seen e.fate) ≡ b
        → without (waiting_among es) id ≡ waiting_among es → without (waiting_among (e ∷ es)) id ≡ waiting_among (e ∷ es)
    by_case true is rest =
        ap (λ ws. without ws id) (waits e es true is)
        ∙ (keeps id (row e) (waiting_among es) false (apart id e.id.value j numbered.0 (λ same. omega (arith, same, before)))
        ∙ (ap (λ ws. row e ∷ ws) rest ∙ sym (waits e es true is)))
    by_case false is rest = ap (λ ws. without ws id) (waits e es false is) ∙ (rest ∙ sym (waits e es false is))

-- the command at a place waits no longer
pub waiting-set : (p k n : ℕ) (f : Fate) (e : Entry) (es : List Entry)
    → n ≡ k + p → AreNumbered k es → slice_get es p ≡ Some e → is_waiting (fate_seen f) ≡ false
    → waiting_among (slice_set es p (record e { fate = f })) ≡ without (waiting_among es) n
waiting-set p k n f e [] place numbered at settled = cc
waiting-set zero k n f e (x ∷ es) place numbered at settled =
    waits (record e { fate = f }) es false settled
    ∙ sym (by_case (is_waiting (fate_seen x.fate)) refl (none-without (suc k) n es numbered.1 (omega (arith, place))))
  where
    by_case : (b : Bool) → is_waiting (fate_seen x.fate) ≡ b
        → without (waiting_among es) n ≡ waiting_among es → without (waiting_among (x ∷ es)) n ≡ waiting_among es
    by_case true is rest =
        ap (λ ws. without ws n) (waits x es true is)
        ∙ (keeps n (row x) (waiting_among es) true (itself n x.id.value (omega (arith, numbered.0, place))) ∙ rest)
    by_case false is rest = ap (λ ws. without ws n) (waits x es false is) ∙ rest
waiting-set (suc p) k n f e (x ∷ es) place numbered at settled =
    by_case (is_waiting (fate_seen x.fate)) refl (waiting-set p (suc k) n f e es (omega (arith, place)) numbered.1 at settled)
  where
    by_case : (b : Bool) → is_waiting (fate_seen x.fate) ≡ b → waiting_among (slice_set es p (record e { fate = f })) ≡ without (waiting_among es) n
        → waiting_among (x ∷ slice_set es p (record e { fate = f })) ≡ without (waiting_among (x ∷ es)) n
    by_case true is rest =
        waits x (slice_set es p (record e { fate = f })) true is
        ∙ (ap (λ ws. row x ∷ ws) rest
        ∙ sym (ap (λ ws. without ws n) (waits x es true is)
        ∙ keeps n (row x) (waiting_among es) false (apart n x.id.value k numbered.0 (λ same. omega (arith, same, place)))))
    by_case false is rest = waits x (slice_set es p (record e { fate = f })) false is ∙ (rest ∙ sym (ap (λ ws. without ws n) (waits x es false is)))

-- a command that waits is found by its id
pub method_of-waiting : (p k n : ℕ) (e : Entry) (es : List Entry) → n ≡ k + p
    → AreNumbered k es → slice_get es p ≡ Some e → is_waiting (fate_seen e.fate) ≡ true → method_of (waiting_among es) n ≡ Some e.method
method_of-waiting p k n e [] place numbered at waiting = cc
method_of-waiting zero k n e (x ∷ es) place numbered at waiting =
    let same : x ≡ e = cc at in
    ap (λ ws. method_of ws n) (waits x es true (ap (λ y. is_waiting (fate_seen y.fate)) same ∙ waiting))
    ∙ (finds n (row x) (waiting_among es) true (itself n x.id.value (omega (arith, numbered.0, place))) ∙ ap (λ y. Some y.method) same)
method_of-waiting (suc p) k n e (x ∷ es) place numbered at waiting =
    by_case (is_waiting (fate_seen x.fate)) refl (method_of-waiting p (suc k) n e es (omega (arith, place)) numbered.1 at waiting)
  where
    by_case : (b : Bool) → is_waiting (fate_seen x.fate) ≡ b
        → method_of (waiting_among es) n ≡ Some e.method → method_of (waiting_among (x ∷ es)) n ≡ Some e.method
    by_case true is rest =
        ap (λ ws. method_of ws n) (waits x es true is)
        ∙ (finds n (row x) (waiting_among es) false (apart n x.id.value k numbered.0 (λ same. omega (arith, same, place))) ∙ rest)
    by_case false is rest = ap (λ ws. method_of ws n) (waits x es false is) ∙ rest

-- ---- those that a cut loses

-- a command that is pending is lost
abbrev pub lost_fate : seen.Fate → seen.Fate
lost_fate f = if is_waiting f then seen.Lost else f

abbrev pub lost_entry : seen.Entry → seen.Entry
lost_entry e = record e { fate = lost_fate e.fate }

-- the entries so far, and the ids of those that are still to be lost
pub record AreLost (old es : List Entry) (rest : List JsUint) : Type 0 where
  pub numbered : AreNumbered 1 es
  pub left : map (λ n. n.value) rest ≡ ids (waiting_among es)
  pub lost : map lost_entry (map entry_seen es) ≡ map lost_entry (map entry_seen old)

record IsFirst (k r : ℕ) (rs : List ℕ) (es : List Entry) (p : ℕ) (e : Entry) : Type 0 where
  id : r ≡ k + p
  at : slice_get es p ≡ Some e
  numbered : AreNumbered k (slice_set es p (record e { fate = in_hand.Lost }))
  left : ids (waiting_among (slice_set es p (record e { fate = in_hand.Lost }))) ≡ rs
  lost : map lost_entry (map entry_seen (slice_set es p (record e { fate = in_hand.Lost }))) ≡ map lost_entry (map entry_seen es)

abbrev HasFirst : ℕ → ℕ → List ℕ → List Entry → Type 0
HasFirst k r rs es = (p : ℕ) × (e : Entry) × IsFirst k r rs es p e

first_lost : (k r : ℕ) (rs : List ℕ) (es : List Entry) → AreNumbered k es → r ∷ rs ≡ ids (waiting_among es) → HasFirst k r rs es
first_lost k r rs [] numbered is = cc
first_lost k r rs (x ∷ es) numbered is = by_case (is_waiting (fate_seen x.fate)) refl (first_lost (suc k) r rs es numbered.1)
  where
    by_case : (b : Bool) → is_waiting (fate_seen x.fate) ≡ b → (r ∷ rs ≡ ids (waiting_among es) → HasFirst (suc k) r rs es) → HasFirst k r rs (x ∷ es)
    by_case true waiting rest =
        let whole : r ∷ rs ≡ x.id.value ∷ ids (waiting_among es) = is ∙ ap ids (waits x es true waiting) in
        let first : r ≡ x.id.value = same_head whole in
        let left : rs ≡ ids (waiting_among es) = same_tail whole in (
          0,
          x,
          record {
            id = omega (arith, first, numbered.0);
            at = refl;
            numbered = numbered;
            left = ap ids (waits (record x { fate = in_hand.Lost }) es false refl) ∙ sym left;
            lost =
                ap (λ g. record { id = x.id.value; method = method_text x.method; fate = g } ∷ map lost_entry (map entry_seen es))
                (sym (ap (λ b. if b then seen.Lost else fate_seen x.fate) waiting));
          },
        )
    by_case false settled rest =
        let below = rest (is ∙ ap ids (waits x es false settled)) in
        let q = below.0 in
        let e = below.1 in
        let b = below.2 in (
          suc q,
          e,
          record {
            id = omega (arith, b.id);
            at = b.at;
            numbered = (numbered.0, b.numbered);
            left = ap ids (waits x (slice_set es q (record e { fate = in_hand.Lost })) false settled) ∙ b.left;
            lost = ap (λ ys. lost_entry (entry_seen x) ∷ ys) b.lost;
          },
        )

-- the next of them is lost
pub lost-next : (old es new : List Entry) (r : JsUint) (rest : List JsUint) → AreLost old es (r ∷ rest)
    → ((p : ℕ) (e : Entry) → r.value ≡ suc p → slice_get es p ≡ Some e → new ≡ slice_set es p (record e { fate = in_hand.Lost })) → AreLost old new rest
lost-next old es new r rest a settled =
    let found = first_lost 1 r.value (map (λ n. n.value) rest) es a.numbered a.left in
    let f = found.2 in
    let is = settled found.0 found.1 (omega (arith, f.id)) f.at in
    record {
      numbered = subst (AreNumbered 1) (sym is) f.numbered;
      left = sym (ap (λ xs. ids (waiting_among xs)) is ∙ f.left);
      lost = ap (λ xs. map lost_entry (map entry_seen xs)) is ∙ (f.lost ∙ a.lost);
    }

-- with none left all that waited are lost
none-waits : (es : List Entry) → [] ≡ ids (waiting_among es) → map entry_seen es ≡ map lost_entry (map entry_seen es)
none-waits [] none = refl
none-waits (x ∷ es) none = by_case (is_waiting (fate_seen x.fate)) refl (none-waits es)
  where
    by_case : (b : Bool) → is_waiting (fate_seen x.fate) ≡ b
        → ([] ≡ ids (waiting_among es) → map entry_seen es ≡ map lost_entry (map entry_seen es))
        → map entry_seen (x ∷ es) ≡ map lost_entry (map entry_seen (x ∷ es))
    by_case true waiting rest = let whole : [] ≡ x.id.value ∷ ids (waiting_among es) = none ∙ ap ids (waits x es true waiting) in cc
    by_case false settled rest =
        ap₂ {B = List seen.Entry} (λ g ys. record { id = x.id.value; method = method_text x.method; fate = g } ∷ ys)
        (sym (ap (λ b. if b then seen.Lost else fate_seen x.fate) settled)) (rest (none ∙ ap ids (waits x es false settled)))

replied : (b : Bool) (answered refused : seen.Fate) → is_waiting answered ≡ false
    → is_waiting refused ≡ false → lost_fate (if b then answered else refused) ≡ (if b then answered else refused)
replied true answered refused a r = ap (λ b. if b then seen.Lost else answered) a
replied false answered refused a r = ap (λ b. if b then seen.Lost else refused) r

-- a command with a reply keeps its fate, and one without is lost
fate-cut : (o : Option Node) (b : Bool) → b ≡ false → lost_fate (fate_with o b) ≡ fate_with o true
fate-cut o true is = absurd (true≢false is)
fate-cut None false is = refl
fate-cut (Some t) false is =
    replied (is_text "success" (text_if_at "type" t)) (seen.Answered (unwrap_or (tree_if_at "result" t) null))
    (seen.Refused (text_at "error" t)) refl refl

lost-entries : (k : ℕ) (v : Link) (cs : List Sending) → v.is_cut ≡ false → map lost_entry (entries_from k v cs) ≡ entries_from k (with_cut v) cs
lost-entries k v [] whole = refl
lost-entries k v (c ∷ cs) whole =
    ap₂ {B = List seen.Entry} (λ g ys. record { id = k; method = c.method; fate = g } ∷ ys)
    (fate-cut (find (is_reply_to k) (messages v)) v.is_cut whole) (lost-entries (suc k) v cs whole)

pub all_lost : (old es : List Entry) (v : Link) → AreLost old es []
    → v.is_cut ≡ false → map entry_seen old ≡ entries_from 1 v v.commands → map entry_seen es ≡ entries_from 1 (with_cut v) v.commands
all_lost old es v a whole is = none-waits es a.left ∙ (a.lost ∙ (ap (map lost_entry) is ∙ lost-entries 1 v v.commands whole))

-- How what is told is counted, and how the sum is written.
use Rattle.std.proofs.Common.{◌≡◌, ℕ, zero, suc, drop, slice_index_or, ◌+◌, ◌<◌, ◌≤◌, ◌^◌, Bool, true, false, List, [], ◌∷◌, ◌++◌, length, map, take, length-append, append_assoc, append-nil, slice_set, arith, inl, inr, refl, sym, ◌∙◌, ap, subst}
use Rattle.std.specs.Prelude.{◌||◌, ◌&&◌, ◌==◌, nat_le, nat_lt, codes, Result, Ok, Err, OnOk, OnErr, Option, Some, None, cond, position, replicate, decimal, if◌then◌else◌}
use Rattle.std.specs.List.{flat_map, list_any, position_from}
use Rattle.std.specs.Borrow.{Bor}
use Rattle.std.specs.Cmp.{IsTotalOrder}
use Rattle.std.specs.Fn.{Called, Mut}
use Rattle.std.specs.List.Sorted.{IsPermutation, IsSorted, IsSortedBy, IsSortedByClosure}
use Rattle.std.specs.Ordering.{is_lt}
use Rattle.std.specs.declared.cmp.Ordering.{Ordering}
use Rattle.std.proofs.lemmas.Cmp.{back_total, nat_cmp_total, on_total, then_total}
use Rattle.std.proofs.lemmas.Fn.{always_returns_same}
use Rattle.std.proofs.lemmas.List.MinMax.{ranks_by}
use Rattle.std.specs.Str.{bytes_eq}
use Rattle.std.proofs.lemmas.List.{get_or-map, length-map, length-replicate, map-append, take-append-le, at_drop_more}
use Rattle.std.proofs.lemmas.List.Quantifiers.{position-Some}
use Rattle.std.proofs.Math.Seq.{take-append-add}
use Rattle.std.proofs.lemmas.Bool.Decides.{nat_tests}
use Rattle.std.proofs.lemmas.Iterator.Adapters.{position_from-zero}
use Rattle.std.proofs.lemmas.List.Folds.{list_any-append}
use Rattle.std.proofs.lemmas.List.Sorted.{IsPermutation-map}
use Rattle.std.proofs.lemmas.List.Sums.{count_by-le-length, sum_by-append}
use Rattle.std.specs.Io.KnownBytes.{Appends}
use Rattle.std.proofs.KnownBytes.{Appends-trans}
use Rattle.bidi_lines.specs.Devices.{AppendsBeginning, CountsFailure}
use Rattle.bidi_remarks.specs.declared.telling.CountedAs.{CountedAs}
use Rattle.bidi_remarks.specs.declared.telling.CountedAs.TheVariants.{Refused, Beyond, Failed, Unanswered}
use Rattle.bidi_why.specs.Counting.{Counts, IsRanking, Row, count_line, counted_in, counts_after, counts_of, counts_with, is_of, is_told_apart, new_row, lines_counted, no_counts, once_more, others_line, row_line, row_of, row_order}
use Rattle.bidi_why.specs.Summary.{Entry, IsGiven, IsSum, SumsUp, causes, counted, head_line, hint_line, is_fault, is_log, is_same, some_words, sum_text}
use Rattle.bidi_why.specs.declared.counting.Cause.{Cause}
use Rattle.bidi_why.specs.declared.counting.Causes.{Causes}
use Rattle.bidi_why.specs.declared.sum.Sum.{Sum}

-- ---- one more is counted

or_false : (b : Bool) → (b || false) ≡ b
or_false true = refl
or_false false = refl

-- whether one of them passes a test
any_more : (p : Entry → Bool) (told : List Entry) (e : Entry) → (list_any p told || p e) ≡ list_any p (told ++ e ∷ [])
any_more p told e = sym (list_any-append p told (e ∷ []) ∙ ap (λ (b : Bool). list_any p told || b) (or_false (p e)))

-- how many are counted so
counted_more : (k : CountedAs) (told : List Entry) (e : Entry) → counted k told + (if is_same k e.counted_as then 1 else 0) ≡ counted k (told ++ e ∷ [])
counted_more k told e =
    ap (λ (n : ℕ). counted k told + n) (one (is_same k e.counted_as)) ∙ sym (sum_by-append (λ (x : Entry). cond (is_same k x.counted_as) 1 0) told (e ∷ []))
  where
    one : (b : Bool) → (if b then 1 else 0) ≡ 0 + cond b 1 0
    one true = refl
    one false = refl

-- their causes
causes_more : (told : List Entry) (e : Entry) → causes (told ++ e ∷ []) ≡ causes told ++ e.cause ∷ []
causes_more [] e = refl
causes_more (x ∷ told) e = ap (λ (cs : List (List ℕ)). x.cause ∷ cs) (causes_more told e)

counts_more : (n : Counts) (cs : List (List ℕ)) (c : List ℕ) → counts_after n (cs ++ c ∷ []) ≡ counts_with (counts_after n cs) c
counts_more n [] c = refl
counts_more n (d ∷ cs) c = counts_more (counts_with n d) cs c

-- all of that is the sum of one more
pub sum_more : (s s' : Sum) (n : ℕ) (told : List Entry) (e : Entry) → length told + 1 < 2 ^ 64 → IsSum s n told
    → s'.lines ≡ s.lines → s'.has_fault ≡ (s.has_fault || is_fault e.counted_as) → s'.has_log ≡ (s.has_log || e.is_log)
    → (s.refused + 1 < 2 ^ 64 → s'.refused ≡ s.refused + (if is_same Refused e.counted_as then 1 else 0))
    → (s.beyond + 1 < 2 ^ 64 → s'.beyond ≡ s.beyond + (if is_same Beyond e.counted_as then 1 else 0))
    → (s.failed + 1 < 2 ^ 64 → s'.failed ≡ s.failed + (if is_same Failed e.counted_as then 1 else 0))
    → (s.unanswered + 1 < 2 ^ 64 → s'.unanswered ≡ s.unanswered + (if is_same Unanswered e.counted_as then 1 else 0))
    → (lines_counted s.causes + 1 < 2 ^ 64 → counts_of s'.causes ≡ counts_with (counts_of s.causes) e.cause)
    → (lines_counted s.causes + 1 < 2 ^ 64 → lines_counted s'.causes ≡ lines_counted s.causes + 1)
    → IsSum s' n (told ++ e ∷ [])
sum_more s s' n told e room p lines fault log refused beyond failed never met more = record {
  lines = lines ∙ p.lines;
  fault = fault ∙ ap (λ (b : Bool). b || is_fault e.counted_as) p.fault ∙ any_more (λ (x : Entry). is_fault x.counted_as) told e;
  log = log ∙ ap (λ (b : Bool). b || e.is_log) p.log ∙ any_more (λ (x : Entry). x.is_log) told e;
  refused = one Refused s.refused s'.refused p.refused refused;
  beyond = one Beyond s.beyond s'.beyond p.beyond beyond;
  failed = one Failed s.failed s'.failed p.failed failed;
  unanswered = one Unanswered s.unanswered s'.unanswered p.unanswered never;
  causes = met (let c = p.lines_counted in omega (arith, c, room)) ∙ ap (λ (c : Counts). counts_with c e.cause) p.causes
      ∙ sym (counts_more no_counts (causes told) e.cause) ∙ ap (counts_after no_counts) (sym (causes_more told e));
  lines_counted = let c = p.lines_counted in more (omega (arith, c, room)) ∙ ap (λ (m : ℕ). m + 1) c ∙ sym (length-append told (e ∷ []));
}
  where
    one : (k : CountedAs) (was is : ℕ) → was ≡ counted k told → (was + 1 < 2 ^ 64 → is ≡ was + (if is_same k e.counted_as then 1 else 0))
        → is ≡ counted k (told ++ e ∷ [])
    one k was is same more =
        let few = count_by-le-length (λ (x : Entry). is_same k x.counted_as) told in
        let room' : was + 1 < 2 ^ 64 = omega (arith, same, few, room) in
        more room' ∙ ap (λ (m : ℕ). m + (if is_same k e.counted_as then 1 else 0)) same ∙ counted_more k told e

-- the sum of one more line, of which nothing is told
pub sum_line : (s s' : Sum) (n : ℕ) (told : List Entry) → IsSum s n told → s'.lines ≡ s.lines + 1 → s'.has_fault ≡ s.has_fault → s'.has_log ≡ s.has_log
    → s'.refused ≡ s.refused → s'.beyond ≡ s.beyond → s'.failed ≡ s.failed → s'.unanswered ≡ s.unanswered → s'.causes ≡ s.causes → IsSum s' (n + 1) told
sum_line s s' n told p lines fault log refused beyond failed never same = record {
  lines = lines ∙ ap (λ (m : ℕ). m + 1) p.lines;
  fault = fault ∙ p.fault;
  log = log ∙ p.log;
  refused = refused ∙ p.refused;
  beyond = beyond ∙ p.beyond;
  failed = failed ∙ p.failed;
  unanswered = never ∙ p.unanswered;
  causes = ap counts_of same ∙ p.causes;
  lines_counted = ap lines_counted same ∙ p.lines_counted;
}

-- one more command without an answer
last_replicated : (k : ℕ) (e : Entry) → replicate k e ++ e ∷ [] ≡ replicate (suc k) e
last_replicated zero e = refl
last_replicated (suc k) e = ap (λ (es : List Entry). e ∷ es) (last_replicated k e)

pub replicated_more : (told : List Entry) (k : ℕ) (e : Entry) → (told ++ replicate k e) ++ e ∷ [] ≡ told ++ replicate (k + 1) e
replicated_more told k e =
    let next : suc k ≡ k + 1 = omega arith in
    append_assoc told (replicate k e) (e ∷ []) ∙ ap (λ (es : List Entry). told ++ es) (last_replicated k e ∙ ap (λ (m : ℕ). replicate m e) next)

pub replicated_room : (told : List Entry) (k count : ℕ) (e : Entry) → k < count → length told + count < 2 ^ 64 → length (told ++ replicate k e) + 1 < 2 ^ 64
replicated_room told k count e less room =
    let long = length-append told (replicate k e) in
    let here = length-replicate k e in
    omega (arith, long, here, less, room)

-- ---- lines of logs

pub log_line : (is text : List ℕ) (b : Bool) → is ≡ text → length is ≤ 2097152 → b ≡ bytes_eq (codes "{\"dir\":") (take 7 text) → b ≡ is_log is
log_line is text b same short e =
    let within : nat_le (length is) 2097152 ≡ true = grind (arith, nat_tests, short) in
    e ∙ ap (λ (t : List ℕ). bytes_eq (codes "{\"dir\":") (take 7 t)) (sym same)
    ∙ sym (ap (λ (x : Bool). x && bytes_eq (codes "{\"dir\":") (take 7 is)) within)

-- one that is too long is none
pub no_log_line : (is : List ℕ) → 2097152 < length is → false ≡ is_log is
no_log_line is long =
    let past : nat_le (length is) 2097152 ≡ false = grind (arith, nat_tests, long) in
    sym (ap (λ (x : Bool). x && bytes_eq (codes "{\"dir\":") (take 7 is)) past)

-- ---- rows

-- a cause that has a row
pub row_met : (rows : List Cause) (c : List ℕ) (i : ℕ) (d : Cause) → i < length rows → bytes_eq (slice_index_or rows i d).text.items c ≡ true
    → list_any (is_of c) (map row_of rows) ≡ true
row_met [] c i d within met = absurd (omega (arith, within))
row_met (r ∷ rows) c zero d within met = ap (λ (b : Bool). b || list_any (is_of c) (map row_of rows)) met
row_met (r ∷ rows) c (suc i) d within met = or_true (bytes_eq r.text.items c) (row_met rows c i d (omega (arith, within)) met)
  where
    or_true : (b : Bool) {x : Bool} → x ≡ true → (b || x) ≡ true
    or_true true e = refl
    or_true false e = e

-- within the list the default does not matter
pub any_default : (rows : List Cause) (i : ℕ) (d e : Cause) → i < length rows → slice_index_or rows i d ≡ slice_index_or rows i e
any_default [] i d e within = absurd (omega (arith, within))
any_default (r ∷ rows) zero d e within = refl
any_default (r ∷ rows) (suc i) d e within = any_default rows i d e (omega (arith, within))

-- its row is counted once more, and no other
pub row_counted : (rows : List Cause) (c : List ℕ) (i : ℕ) (d x : Cause) → i < length rows → bytes_eq (slice_index_or rows i d).text.items c ≡ true
    → ((k : ℕ) → k < i → bytes_eq (slice_index_or rows k d).text.items c ≡ false) → row_of x ≡ once_more (row_of (slice_index_or rows i d))
    → map row_of (slice_set rows i x) ≡ counted_in c (map row_of rows)
row_counted [] c i d x within met before same = absurd (omega (arith, within))
row_counted (r ∷ rows) c zero d x within met before same =
    ap (λ (y : Row). y ∷ map row_of rows) same
    ∙ sym (ap (λ (b : Bool). if b then once_more (row_of r) ∷ map row_of rows else row_of r ∷ counted_in c (map row_of rows)) met)
row_counted (r ∷ rows) c (suc i) d x within met before same =
    ap (λ (l : List Row). row_of r ∷ l) (row_counted rows c i d x (omega (arith, within)) met (λ k less. before (suc k) (omega (arith, less))) same)
    ∙ sym (ap (λ (b : Bool). if b then once_more (row_of r) ∷ map row_of rows else row_of r ∷ counted_in c (map row_of rows)) (before 0 (omega arith)))

-- nothing that passes a test is found where nothing does
from_none : (p : Cause → Bool) (i : ℕ) (xs : List Cause) → position_from p i xs ≡ None → list_any p xs ≡ false
from_none p i [] e = refl
from_none p i (x ∷ xs) e = go (p x) e (from_none p (i + 1) xs)
  where
    go : (b : Bool) → cond b (Some i) (position_from p (i + 1) xs) ≡ None → (position_from p (i + 1) xs ≡ None → list_any p xs ≡ false)
        → (b || list_any p xs) ≡ false
    go true e f = absurd cc
    go false e f = f e

pub none_found : (p : Cause → Bool) (xs : List Cause) → position p xs ≡ None → list_any p xs ≡ false
none_found p xs e = from_none p 0 xs (sym (position_from-zero p xs) ∙ e)

-- a cause that has no row
pub row_unmet : (rows : List Cause) (c : List ℕ) → list_any (λ (r : Cause). bytes_eq r.text.items c) rows ≡ false → list_any (is_of c) (map row_of rows) ≡ false
row_unmet [] c none = refl
row_unmet (r ∷ rows) c none = go (bytes_eq r.text.items c) none (row_unmet rows c)
  where
    go : (b : Bool) → (b || list_any (λ (r : Cause). bytes_eq r.text.items c) rows) ≡ false
        → (list_any (λ (r : Cause). bytes_eq r.text.items c) rows ≡ false → list_any (is_of c) (map row_of rows) ≡ false)
        → (b || list_any (is_of c) (map row_of rows)) ≡ false
    go true e f = absurd cc
    go false e f = f e

-- whether a cause is told apart, by lengths of other names
pub apart_by : (rows : List Cause) (c : List ℕ) (n m : ℕ) → n ≡ length rows → m ≡ length c → is_told_apart c (map row_of rows) ≡ (nat_lt n 1000 && nat_le m 4096)
apart_by rows c n m e f = (λ i. nat_lt ((length-map rows row_of ∙ sym e) i) 1000 && nat_le (sym f i) 4096)

-- a cause is told apart if there is room for its row and it is not too long
pub apart_room : (rows : List Cause) (c : List ℕ) (n m : ℕ) → n ≡ length rows → m ≡ length c → n < 1000 → m ≤ 4096 → is_told_apart c (map row_of rows) ≡ true
apart_room rows c n m e f few short =
    let a : nat_lt n 1000 ≡ true = grind (arith, nat_tests, few) in
    let b : nat_le m 4096 ≡ true = grind (arith, nat_tests, short) in
    apart_by rows c n m e f ∙ (λ i. a i && b i)

-- it is not if there is no room
pub apart_full : (rows : List Cause) (c : List ℕ) (n : ℕ) → n ≡ length rows → 1000 ≤ n → is_told_apart c (map row_of rows) ≡ false
apart_full rows c n e full =
    let a : nat_lt n 1000 ≡ false = grind (arith, nat_tests, full) in
    apart_by rows c n (length c) e refl ∙ (λ i. a i && nat_le (length c) 4096)

-- nor if it is too long
pub apart_long : (rows : List Cause) (c : List ℕ) (m : ℕ) → m ≡ length c → 4096 < m → is_told_apart c (map row_of rows) ≡ false
apart_long rows c m f long =
    let b : nat_le m 4096 ≡ false = grind (arith, nat_tests, long) in
    apart_by rows c (length rows) m refl f ∙ (λ i. nat_lt (length rows) 1000 && b i) ∙ neither (nat_lt (length rows) 1000)
  where
    neither : (b : Bool) → (b && false) ≡ false
    neither true = refl
    neither false = refl

module _ (s : Causes) (c : List ℕ) where
  -- the cause has a row
  pub add_some : (i : ℕ) (d x : Cause) → position (λ (r : Cause). bytes_eq r.text.items c) s.rows.items ≡ Some i
      → row_of x ≡ once_more (row_of (slice_index_or s.rows.items i d))
      → (let to : Counts = record { rows = map row_of (slice_set s.rows.items i x); others = s.others } in to) ≡ counts_with (counts_of s) c
  add_some i d x at one =
      let found = position-Some (λ (r : Cause). bytes_eq r.text.items c) s.rows.items i d at in
      let rows = row_counted s.rows.items c i d x found.0 found.1 found.2 one in
      let n = counts_of s in
      ap (λ (rs : List Row). let to : Counts = record { rows = rs; others = n.others } in to) rows
      ∙ sym (ap (λ (b : Bool). let to : Counts = if b then record { rows = counted_in c n.rows; others = n.others }
      else if is_told_apart c n.rows then record { rows = n.rows ++ new_row c n.rows ∷ []; others = n.others }
      else record { rows = n.rows; others = n.others + 1 } in to) (row_met s.rows.items c i d found.0 found.1))

  -- it gets one
  pub add_new : (x : Cause) (rows' : List Cause) → rows' ≡ s.rows.items ++ x ∷ []
      → position (λ (r : Cause). bytes_eq r.text.items c) s.rows.items ≡ None → is_told_apart c (counts_of s).rows ≡ true
      → row_of x ≡ new_row c (counts_of s).rows
      → (let to : Counts = record { rows = map row_of rows'; others = s.others } in to) ≡ counts_with (counts_of s) c
  add_new x rows' is none apart one =
      let n = counts_of s in
      let rows = ap (map row_of) is ∙ map-append row_of s.rows.items (x ∷ []) ∙ ap (λ (r : Row). n.rows ++ r ∷ []) one in
      let unmet = row_unmet s.rows.items c (none_found (λ (r : Cause). bytes_eq r.text.items c) s.rows.items none) in
      ap (λ (rs : List Row). let to : Counts = record { rows = rs; others = n.others } in to) rows
      ∙ sym (λ j. let to : Counts = if unmet j then record { rows = counted_in c n.rows; others = n.others }
      else if apart j then record { rows = n.rows ++ new_row c n.rows ∷ []; others = n.others }
      else record { rows = n.rows; others = n.others + 1 } in to)

  -- it is among the others
  pub add_other : (others' : ℕ) → others' ≡ s.others + 1
      → position (λ (r : Cause). bytes_eq r.text.items c) s.rows.items ≡ None → is_told_apart c (counts_of s).rows ≡ false
      → (let to : Counts = record { rows = map row_of s.rows.items; others = others' } in to) ≡ counts_with (counts_of s) c
  add_other others' one none apart =
      let n = counts_of s in
      let unmet = row_unmet s.rows.items c (none_found (λ (r : Cause). bytes_eq r.text.items c) s.rows.items none) in
      ap (λ (m : ℕ). let to : Counts = record { rows = n.rows; others = m } in to) one
      ∙ sym (λ j. let to : Counts = if unmet j then record { rows = counted_in c n.rows; others = n.others }
      else if apart j then record { rows = n.rows ++ new_row c n.rows ∷ []; others = n.others }
      else record { rows = n.rows; others = n.others + 1 } in to)

-- ---- what is written

-- a beginning of a text is one of a longer text
pub begins_longer : (a b : Option (List ℕ)) (text more : List ℕ) → AppendsBeginning a b text → AppendsBeginning a b (text ++ more)
begins_longer a b text more (n, less, appends) =
    let long = length-append text more in
    let within : n ≤ length text = omega (arith, less) in
    (n, omega (arith, long, less), subst (Appends a b) (sym (take-append-le n text more within)) appends)

-- a text and a beginning of another behind it are a beginning of both
pub begins_later : (a b c : Option (List ℕ)) (text more : List ℕ) → Appends a b text → AppendsBeginning b c more → AppendsBeginning a c (text ++ more)
begins_later a b c text more all (n, less, appends) =
    let long = length-append text more in
    (length text + n, omega (arith, long, less), subst (Appends a c) (sym (take-append-add text more n)) (Appends-trans a b c text (take n more) all appends))

-- what a call writes stands behind what was written
pub ok_later : {T E : Type 0} (r : Result T E) (a b c : Option (List ℕ)) (text more : List ℕ) → Appends a b text → OnOk r (Appends b c more)
    → OnOk r (Appends a c (text ++ more))
ok_later (Ok x) a b c text more all p = Appends-trans a b c text more all p
ok_later (Err e) a b c text more all p = tt

pub err_later : {T E : Type 0} (r : Result T E) (a b c : Option (List ℕ)) (text more : List ℕ) → Appends a b text → OnErr r (AppendsBeginning b c more)
    → OnErr r (AppendsBeginning a c (text ++ more))
err_later (Ok x) a b c text more all p = tt
err_later (Err e) a b c text more all p = begins_later a b c text more all p

-- a text with these parts behind it
abbrev pub with_parts : List ℕ → List (List ℕ) → List ℕ
with_parts text [] = text
with_parts text (part ∷ parts) = with_parts (text ++ part) parts

pub begins_parts : (a b : Option (List ℕ)) (text : List ℕ) (parts : List (List ℕ)) → AppendsBeginning a b text → AppendsBeginning a b (with_parts text parts)
begins_parts a b text [] begins = begins
begins_parts a b text (part ∷ parts) begins = begins_parts a b (text ++ part) parts (begins_longer a b text part begins)

-- a count that is not 0 is written
pub some_are : (n : ℕ) (what : List ℕ) → (n ≡ 0 → ⊥) → codes ", " ++ decimal n ++ what ≡ some_words n what
some_are zero what some = absurd (some refl)
some_are (suc n) what some =
    let none : (suc n == 0) ≡ false = grind (arith, nat_tests) in
    sym (ap (λ (b : Bool). if b then [] else codes ", " ++ decimal (suc n) ++ what) none)

pub others_are : (n : ℕ) → (n ≡ 0 → ⊥) → count_line n (codes "other causes") ≡ others_line n
others_are zero some = absurd (some refl)
others_are (suc n) some =
    let none : (suc n == 0) ≡ false = grind (arith, nat_tests) in
    sym (ap (λ (b : Bool). if b then [] else count_line (suc n) (codes "other causes")) none)

-- ---- parts

module _ {X : Type 0} (f : X → List ℕ) (done all : List ℕ) where
  -- the next part was written
  pub parts_more : (xs : List X) (i : ℕ) (d : X) (text : List ℕ) → i < length xs → text ≡ f (slice_index_or xs i d) → done ++ flat_map f (drop i xs) ≡ all
      → (done ++ text) ++ flat_map f (drop (i + 1) xs) ≡ all
  parts_more xs i d text few is whole =
      let rest = flat_map f (drop (i + 1) xs) in
      append_assoc done text rest ∙ ap (λ (t : List ℕ). done ++ (t ++ rest)) is
      ∙ sym (at_drop_more (λ (ys : List X). done ++ flat_map f ys) xs i d few) ∙ whole

  -- all were
  pub parts_end : (xs : List X) (i : ℕ) → length xs ≤ i → done ++ flat_map f (drop i xs) ≡ all → done ≡ all
  parts_end xs i none whole = sym (append-nil done) ∙ ap (λ (ys : List X). done ++ flat_map f ys) (sym (drop_none xs i none)) ∙ whole
    where
      drop_none : (xs : List X) (i : ℕ) → length xs ≤ i → drop i xs ≡ []
      drop_none [] zero none = refl
      drop_none [] (suc i) none = refl
      drop_none (x ∷ xs) zero none = absurd (omega (arith, none))
      drop_none (x ∷ xs) (suc i) none = drop_none xs i (omega (arith, none))

  -- the next part was written in part
  pub parts_fail : (a b c : Option (List ℕ)) (xs : List X) (i : ℕ) (d : X) (text : List ℕ) → i < length xs → text ≡ f (slice_index_or xs i d)
      → done ++ flat_map f (drop i xs) ≡ all → Appends a b done → AppendsBeginning b c text → AppendsBeginning a c all
  parts_fail a b c xs i d text few is whole appends begins =
      subst (AppendsBeginning a c) (parts_more xs i d text few is whole)
      (begins_longer a c (done ++ text) (flat_map f (drop (i + 1) xs)) (begins_later a b c done text appends begins))

-- the lines of rows
pub row_lines : (rows : List Cause) → flat_map (λ (r : Cause). row_line (row_of r)) rows ≡ flat_map row_line (map row_of rows)
row_lines [] = refl
row_lines (r ∷ rows) = ap (λ (t : List ℕ). row_line (row_of r) ++ t) (row_lines rows)

-- a sink was given the text of a call
pub given : {T E : Type 0} (r : Result T E) (a b : Option (List ℕ)) (f g : ℕ) (text : List ℕ) → OnOk r (Appends a b text) → OnErr r (AppendsBeginning a b text)
    → CountsFailure r f g → IsGiven a b f g text
given (Ok x) a b f g text all part same = inl (same, all)
given (Err e) a b f g text all part one = inr (one, part)

-- rows are in a total order
row_order-total : IsTotalOrder row_order
row_order-total = then_total (back_total (on_total (λ (r : Row). r.count) nat_cmp_total)) (on_total (λ (r : Row). r.place) nat_cmp_total)

-- the same rows in their order, from what a sort says
pub ranked : {F : Type 0} {g : Mut F (Bor Cause × (Bor Cause × Unit {0})) Ordering} {f : F} (rows rows' : List Cause) → IsPermutation rows rows'
    → IsSortedByClosure g f rows'
    → ((a : Bor Cause × (Bor Cause × Unit {0})) (r : Ordering) (f' : F) → Called g f a r f'
    → (r ≡ row_order (row_of a.0.now) (row_of a.1.0.now)) × (f' ≡ f))
    → IsRanking (map row_of rows') (map row_of rows)
ranked {g = g} {f = f} rows rows' same sorted h = record {
  same = IsPermutation-map row_of rows rows' same;
  order = up rows' (sorted comes_first (ranks_by row_order-total row_of)
      (always_returns_same g (λ a r. is_lt r ≡ comes_first a.0.now a.1.0.now) f (λ a r f' k. (ap is_lt (h a r f' k).0, (h a r f' k).1))));
}
  where
    comes_first : Cause → Cause → Bool
    comes_first x y = is_lt (row_order (row_of x) (row_of y))

    up : (rs : List Cause) → IsSortedBy comes_first rs → IsSorted row_order (map row_of rs)
    up [] h = λ k d low less. absurd (omega (arith, less))
    up (r ∷ rs) h = λ k d low less.
        let long = length-map (r ∷ rs) row_of in
        let at_next : k + 1 < length (r ∷ rs) = omega (arith, long, less) in
        let at_row : k < length (r ∷ rs) = omega (arith, at_next) in
        subst (λ (x : Row). is_lt (row_order (slice_index_or (map row_of (r ∷ rs)) (k + 1) d) x) ≡ false) (sym (get_or-map row_of (r ∷ rs) k r d at_row))
        (subst (λ (x : Row). is_lt (row_order x (row_of (slice_index_or (r ∷ rs) k r))) ≡ false) (sym (get_or-map row_of (r ∷ rs) (k + 1) r d at_next))
        (h k r low at_next))

-- what a sum is written as is the summary
pub sums_up : (s s' : Sum) (n : ℕ) (told : List Entry) (a b : Option (List ℕ)) (f g : ℕ) → IsSum s n told
    → IsRanking (counts_of s'.causes).rows (counts_of s.causes).rows → (counts_of s'.causes).others ≡ (counts_of s.causes).others
    → s'.lines ≡ s.lines → s'.has_log ≡ s.has_log → s'.refused ≡ s.refused → s'.beyond ≡ s.beyond → s'.failed ≡ s.failed → s'.unanswered ≡ s.unanswered
    → IsGiven a b f g (sum_text s') → SumsUp a b f g n told
sums_up s s' n told a b f g p ranking same lines log refused beyond failed never is_given =
    let rows = (counts_of s'.causes).rows in
    let n_of = lines ∙ p.lines in
    let r = refused ∙ p.refused in
    let y = beyond ∙ p.beyond in
    let d = failed ∙ p.failed in
    let u = never ∙ p.unanswered in
    let others = same ∙ ap (λ (c : Counts). c.others) p.causes in
    let hint = log ∙ p.log in (
      sum_text s',
      (
        rows,
        subst (λ (c : Counts). IsRanking rows c.rows) p.causes ranking,
        (λ i. head_line (n_of i) (r i) (y i) (d i) (u i) ++ (flat_map row_line rows ++ others_line (others i)) ++ hint_line (hint i)),
      ),
      is_given,
    )

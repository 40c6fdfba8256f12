-- One byte more of a name or a string.
use Rattle.std.proofs.Common.{◌≡◌, ◌∙◌, ℕ, zero, suc, ◌+◌, ◌-◌, ◌<◌, ◌≤◌, Bool, true, false, List, arith, length, drop, get_or, ap, sym, subst, inl, inr, refl, if◌then◌else◌, ◌==◌, ◌&&◌, IsUtf8, IsCharBoundary}
use Rattle.std.specs.Prelude.{Option, Some, None, option_map, not}
use Rattle.std.proofs.lemmas.Bool.{cases_lt}
use Rattle.std.proofs.lemmas.List.{drop_more, get_or-drop}
use Rattle.std.proofs.lemmas.Str.{IsCharBoundary-after_ascii}
use Rattle.bidi_cddl.specs.Bytes.{is_control, is_name_part}
use Rattle.bidi_cddl.specs.Sizes.{name_rest, one_more, string_rest}

-- the size of a name, from how many of its bytes are sure, how many were seen, and how many of the others belong to it
abbrev pub sure_or : ℕ → ℕ → ℕ → ℕ
sure_or sure seen zero = sure
sure_or sure seen (suc n) = seen + suc n

-- what belongs to a name, from a byte on
pub name_rest_next : (dot : Bool) (s : List ℕ) (i : ℕ) → i < length s → name_rest dot (drop i s)
    ≡ (if is_name_part (get_or s i 0) then suc (name_rest false (drop (i + 1) s))
    else (if get_or s i 0 == 45 then one_more (name_rest false (drop (i + 1) s))
    else (if (get_or s i 0 == 46) && not dot then one_more (name_rest true (drop (i + 1) s)) else 0)))
name_rest_next dot s i lt = ap (name_rest dot) (drop_more s i 0 lt)

-- a byte that belongs to a name and may end it
pub sure_part : (sure i : ℕ) (n : ℕ) → sure_or (i + 1) (i + 1) n ≡ sure_or sure i (suc n)
sure_part sure i zero = omega arith
sure_part sure i (suc n) = omega arith

-- a byte that belongs to a name if it goes on
pub sure_inside : (sure i : ℕ) (n : ℕ) → sure_or sure (i + 1) n ≡ sure_or sure i (one_more n)
sure_inside sure i zero = refl
sure_inside sure i (suc n) = omega arith

-- what is before the end of a string, from a byte on
pub string_rest_next : (escaped : Bool) (s : List ℕ) (i : ℕ) → i < length s → string_rest escaped (drop i s)
    ≡ (if is_control (get_or s i 0) then None
    else (if (get_or s i 0 == 34) && not escaped then Some 0 else option_map suc (string_rest ((get_or s i 0 == 92) && not escaped) (drop (i + 1) s))))
string_rest_next escaped s i lt = ap (string_rest escaped) (drop_more s i 0 lt)

-- a byte more of a string
pub add_more : (i : ℕ) (o : Option ℕ) → option_map (λ n. i + 1 + n) o ≡ option_map (λ n. i + n) (option_map suc o)
add_more i None = refl
add_more i (Some n) = ap Some (omega arith)

-- bytes that are ASCII, and others behind them
pub ascii_append : (s rest : List ℕ) (m n : ℕ) → rest ≡ drop m s → ((k : ℕ) → k < m → get_or s k 0 < 128) → ((k : ℕ) → k < n → get_or rest k 0 < 128)
    → (k : ℕ) → k < m + n → get_or s k 0 < 128
ascii_append s rest m n e front back k h =
    elim (cases_lt k m) [
      | inl low ↦ front k low
      | inr high ↦
          let there : get_or rest (k - m) 0 ≡ get_or s (m + (k - m)) 0 = ap (λ (xs : List ℕ). get_or xs (k - m) 0) e ∙ get_or-drop m s (k - m) 0 in
          let same : m + (k - m) ≡ k = omega arith in
          let ascii : get_or rest (k - m) 0 < 128 = back (k - m) (omega arith) in
          subst (λ (j : ℕ). get_or s j 0 < 128) same (subst (λ (b : ℕ). b < 128) there ascii)
    ]

-- a text may be cut behind bytes whose last one is ASCII
pub boundary_after : (text rest : List ℕ) (at size : ℕ) → IsUtf8 text → rest ≡ drop at text → at + size ≤ length text → IsCharBoundary text at
    → ((k : ℕ) → k + 1 ≡ size → get_or rest k 0 < 128) → IsCharBoundary text (at + size)
boundary_after text rest at zero u e fits from last =
    let same : at ≡ at + 0 = omega arith in subst (IsCharBoundary text) same from
boundary_after text rest at (suc n) u e fits from last =
    let there : get_or rest n 0 ≡ get_or text (at + n) 0 = ap (λ (xs : List ℕ). get_or xs n 0) e ∙ get_or-drop at text n 0 in
    let ascii : get_or rest n 0 < 128 = last n (omega arith) in
    let same : at + n + 1 ≡ at + suc n = omega arith in
    subst (IsCharBoundary text) same (IsCharBoundary-after_ascii text (at + n) u (omega arith) (subst (λ (b : ℕ). b < 128) there ascii))

-- the byte at a place is the first one of what is left
pub front_byte : (text rest : List ℕ) (at b : ℕ) → rest ≡ drop at text → b ≡ get_or rest 0 0 → get_or text at 0 ≡ b
front_byte text rest at b e is =
    let there : get_or rest 0 0 ≡ get_or text (at + 0) 0 = ap (λ (xs : List ℕ). get_or xs 0 0) e ∙ get_or-drop at text 0 0 in
    let same : at + 0 ≡ at = omega arith in
    sym (is ∙ there ∙ ap (λ (k : ℕ). get_or text k 0) same)

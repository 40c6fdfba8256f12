-- The first word of a line that is not one of a play.
use Rattle.std.proofs.Common.{◌≡◌, ℕ, ◌<◌, ◌^◌, ◌||◌, Bool, true, false, true≢false, List, [], ◌∷◌, ◌++◌, Result, Ok, Err, Option, Some, None, refl, sym, ap, ◌∙◌}
use Rattle.std.specs.Prelude.{◌==◌, bytes_eq, codes, decimal, IfOk, IfNone}
use Rattle.std.specs.List.{list_any}
use Rattle.std.proofs.lemmas.Bool.{eqb-true}
use Rattle.std.proofs.lemmas.Slice.Eq.{bytes_eq-Decides}
use Rattle.bidi_sessions.specs.Step.{Step}
use Rattle.bidi_play.specs.Lines.{line_of, IsSayable}
use Rattle.bidi_script_lines.specs.ScriptLines.{Line, Plain, Answer, Hold, Release, ReleaseWith, Unanswer, Emit, On, Names, Send, Bytes, Raw, Stall, Resume, Cut, CutAfter, Close, Refuse, is_plain, word_of, rest_of, script_line_of, IsWord, IsWritable}

-- ---- spaces in a list

or_true : (b : Bool) → (b || true) ≡ true
or_true true = refl
or_true false = refl

has_one : (xs ys : List ℕ) → list_any (λ b. b == 32) (xs ++ 32 ∷ ys) ≡ true
has_one [] ys = refl
has_one (x ∷ xs) ys = ap (λ b. (x == 32) || b) (has_one xs ys) ∙ or_true (x == 32)

-- bytes with a space in them are not bytes without one
pub no_space_in : (xs ys zs : List ℕ) {all : List ℕ} → all ≡ xs ++ 32 ∷ ys → all ≡ zs → list_any (λ b. b == 32) zs ≡ false → ⊥
no_space_in xs ys zs split same none =
    true≢false (sym (has_one xs ys) ∙ (ap (list_any (λ b. b == 32)) (sym split ∙ same) ∙ none))

-- the parts before and after the first space
record First (all : List ℕ) : Type 0 where
  word : List ℕ
  rest : List ℕ
  is : all ≡ word ++ 32 ∷ rest
  none : list_any (λ b. b == 32) word ≡ false

first_in : (x : ℕ) (t : Bool) → (x == 32) ≡ t → (xs ys : List ℕ) → First (xs ++ 32 ∷ ys) → First (x ∷ xs ++ 32 ∷ ys)
first_in x true e xs ys f = record { word = []; rest = xs ++ 32 ∷ ys; is = ap (λ (b : ℕ). b ∷ xs ++ 32 ∷ ys) (eqb-true x 32 e); none = refl }
first_in x false e xs ys f = record {
  word = x ∷ f.word;
  rest = f.rest;
  is = ap (λ (zs : List ℕ). x ∷ zs) f.is;
  none = ap (λ b. b || list_any (λ b. b == 32) f.word) e ∙ f.none;
}

first_of : (xs ys : List ℕ) → First (xs ++ 32 ∷ ys)
first_of [] ys = record { word = []; rest = ys; is = refl; none = refl }
first_of (x ∷ xs) ys = first_in x (x == 32) refl xs ys (first_of xs ys)

-- the part before the space at which bytes are split has none, if they are split at the first one
pub first_word : (all word rest : List ℕ) → all ≡ word ++ 32 ∷ rest
    → ((xs ys : List ℕ) → all ≡ xs ++ 32 ∷ ys → list_any (λ b. b == 32) xs ≡ false → (word ≡ xs) × (rest ≡ ys))
    → list_any (λ b. b == 32) word ≡ false
first_word all word rest split first =
    let f = first_of word rest in
    ap (list_any (λ b. b == 32)) (first f.word f.rest (split ∙ f.is) f.none).0 ∙ f.none

-- ---- what a line is

-- what follows from what no line is
pub none_of : {X E : Type 0} {A B : Type 0} (r : Result (Option X) E) → (A → B) → IfOk r (λ found. IfNone found A) → IfOk r (λ found. IfNone found B)
none_of (Err e) f h = tt
none_of (Ok None) f h = f h
none_of (Ok (Some x)) f h = tt

-- the word has no space
pub word_has_no_space : (l : Line) → is_plain l ≡ false → list_any (λ b. b == 32) (word_of l) ≡ false
word_has_no_space (Plain step) p = absurd (true≢false p)
word_has_no_space l p = refl

-- it is one of fifteen
pub known_order : (word : List ℕ)
    → (word ≡ codes "answer" → ⊥) → (word ≡ codes "hold" → ⊥) → (word ≡ codes "release" → ⊥) → (word ≡ codes "unanswer" → ⊥) → (word ≡ codes "emit" → ⊥)
    → (word ≡ codes "on" → ⊥) → (word ≡ codes "names" → ⊥) → (word ≡ codes "send" → ⊥) → (word ≡ codes "bytes" → ⊥) → (word ≡ codes "raw" → ⊥)
    → (word ≡ codes "stall" → ⊥) → (word ≡ codes "resume" → ⊥) → (word ≡ codes "cut" → ⊥) → (word ≡ codes "close" → ⊥) → (word ≡ codes "refuse" → ⊥)
    → (l : Line) → is_plain l ≡ false → word ≡ word_of l → ⊥
known_order word a h r u e o n s b w t v c l f (Plain step) p is = absurd (true≢false p)
known_order word a h r u e o n s b w t v c l f (Answer row) p is = a is
known_order word a h r u e o n s b w t v c l f (Hold row) p is = h is
known_order word a h r u e o n s b w t v c l f (Release number) p is = r is
known_order word a h r u e o n s b w t v c l f (ReleaseWith number row) p is = r is
known_order word a h r u e o n s b w t v c l f (Unanswer method) p is = u is
known_order word a h r u e o n s b w t v c l f (Emit event) p is = e is
known_order word a h r u e o n s b w t v c l f (On method events) p is = o is
known_order word a h r u e o n s b w t v c l f (Names names) p is = n is
known_order word a h r u e o n s b w t v c l f (Send conn text) p is = s is
known_order word a h r u e o n s b w t v c l f (Bytes conn digits) p is = b is
known_order word a h r u e o n s b w t v c l f (Raw conn digits) p is = w is
known_order word a h r u e o n s b w t v c l f (Stall conn) p is = t is
known_order word a h r u e o n s b w t v c l f (Resume conn) p is = v is
known_order word a h r u e o n s b w t v c l f (Cut conn) p is = c is
known_order word a h r u e o n s b w t v c l f (CutAfter conn bytes) p is = c is
known_order word a h r u e o n s b w t v c l f (Close conn code) p is = l is
known_order word a h r u e o n s b w t v c l f (Refuse number code) p is = f is

-- a line is that of a step, or its word and what follows it
pub no_line : (line : List ℕ) → ((s : Step) → IsSayable s → line ≡ line_of s → ⊥)
    → ((l : Line) → is_plain l ≡ false → IsWritable l → line ≡ word_of l ++ 32 ∷ rest_of l → ⊥) → (l : Line) → IsWritable l → line ≡ script_line_of l → ⊥
no_line line step order (Plain s) w e = step s w e
no_line line step order l w e = order l refl w e

-- the line of one that is not one of a play is its word and what follows it
pub order_line : (l : Line) → is_plain l ≡ false → script_line_of l ≡ word_of l ++ 32 ∷ rest_of l
order_line (Plain step) p = absurd (true≢false p)
order_line l p = refl

-- two words that differ are not one
other_word : (a b : List ℕ) → bytes_eq a b ≡ false → a ≡ b → ⊥
other_word a b f e = true≢false (sym ((bytes_eq-Decides a b).1 e) ∙ f)

-- no line has the word `release` if its fields are wrong
pub no_release : (word rest : List ℕ) → word ≡ codes "release"
    → ((n : ℕ) → n < 2 ^ 53 → ((row : List ℕ) → rest ≡ decimal n ++ 32 ∷ row → ⊥) × (rest ≡ decimal n → ⊥))
    → (l : Line) → is_plain l ≡ false → IsWritable l → word ≡ word_of l → rest ≡ rest_of l → ⊥
no_release word rest is none (Release n) p w e r = (none n w).1 r
no_release word rest is none (ReleaseWith n row) p w e r = (none n w).0 row r
no_release word rest is none l p w e r = other_word (codes "release") (word_of l) refl (sym is ∙ e)

-- no line has the word `on` if its fields are wrong
pub no_on : (word rest : List ℕ) → word ≡ codes "on"
    → ((method events : List ℕ) → IsWord method → rest ≡ method ++ 32 ∷ events → ⊥)
    → (l : Line) → is_plain l ≡ false → IsWritable l → word ≡ word_of l → rest ≡ rest_of l → ⊥
no_on word rest is none (On method events) p w e r = none method events w r
no_on word rest is none l p w e r = other_word (codes "on") (word_of l) refl (sym is ∙ e)

-- no line has the word `send` if its fields are wrong
pub no_send : (word rest : List ℕ) → word ≡ codes "send"
    → ((n : ℕ) (text : List ℕ) → n < 2 ^ 53 → rest ≡ decimal n ++ 32 ∷ text → ⊥)
    → (l : Line) → is_plain l ≡ false → IsWritable l → word ≡ word_of l → rest ≡ rest_of l → ⊥
no_send word rest is none (Send c text) p w e r = none c text w r
no_send word rest is none l p w e r = other_word (codes "send") (word_of l) refl (sym is ∙ e)

-- no line has the word `bytes` if its fields are wrong
pub no_bytes : (word rest : List ℕ) → word ≡ codes "bytes"
    → ((n : ℕ) (digits : List ℕ) → n < 2 ^ 53 → rest ≡ decimal n ++ 32 ∷ digits → ⊥)
    → (l : Line) → is_plain l ≡ false → IsWritable l → word ≡ word_of l → rest ≡ rest_of l → ⊥
no_bytes word rest is none (Bytes c digits) p w e r = none c digits w r
no_bytes word rest is none l p w e r = other_word (codes "bytes") (word_of l) refl (sym is ∙ e)

-- no line has the word `raw` if its fields are wrong
pub no_raw : (word rest : List ℕ) → word ≡ codes "raw"
    → ((n : ℕ) (digits : List ℕ) → n < 2 ^ 53 → rest ≡ decimal n ++ 32 ∷ digits → ⊥)
    → (l : Line) → is_plain l ≡ false → IsWritable l → word ≡ word_of l → rest ≡ rest_of l → ⊥
no_raw word rest is none (Raw c digits) p w e r = none c digits w r
no_raw word rest is none l p w e r = other_word (codes "raw") (word_of l) refl (sym is ∙ e)

-- no line has the word `stall` if its field is wrong
pub no_stall : (word rest : List ℕ) → word ≡ codes "stall"
    → ((n : ℕ) → n < 2 ^ 53 → rest ≡ decimal n → ⊥)
    → (l : Line) → is_plain l ≡ false → IsWritable l → word ≡ word_of l → rest ≡ rest_of l → ⊥
no_stall word rest is none (Stall c) p w e r = none c w r
no_stall word rest is none l p w e r = other_word (codes "stall") (word_of l) refl (sym is ∙ e)

-- no line has the word `resume` if its field is wrong
pub no_resume : (word rest : List ℕ) → word ≡ codes "resume"
    → ((n : ℕ) → n < 2 ^ 53 → rest ≡ decimal n → ⊥)
    → (l : Line) → is_plain l ≡ false → IsWritable l → word ≡ word_of l → rest ≡ rest_of l → ⊥
no_resume word rest is none (Resume c) p w e r = none c w r
no_resume word rest is none l p w e r = other_word (codes "resume") (word_of l) refl (sym is ∙ e)

-- no line has the word `cut` if its fields are wrong
pub no_cut : (word rest : List ℕ) → word ≡ codes "cut"
    → ((n : ℕ) → n < 2 ^ 53 → rest ≡ decimal n → ⊥)
    × ((n bytes : ℕ) → n < 2 ^ 53 → bytes < 2 ^ 53 → rest ≡ decimal n ++ 32 ∷ decimal bytes → ⊥)
    → (l : Line) → is_plain l ≡ false → IsWritable l → word ≡ word_of l → rest ≡ rest_of l → ⊥
no_cut word rest is none (Cut c) p w e r = none.0 c w r
no_cut word rest is none (CutAfter c bytes) p w e r = none.1 c bytes w.0 w.1 r
no_cut word rest is none l p w e r = other_word (codes "cut") (word_of l) refl (sym is ∙ e)

-- no line has the word `close` if its fields are wrong
pub no_close : (word rest : List ℕ) → word ≡ codes "close"
    → ((n code : ℕ) → n < 2 ^ 53 → code < 2 ^ 53 → rest ≡ decimal n ++ 32 ∷ decimal code → ⊥)
    → (l : Line) → is_plain l ≡ false → IsWritable l → word ≡ word_of l → rest ≡ rest_of l → ⊥
no_close word rest is none (Close c code) p w e r = none c code w.0 w.1 r
no_close word rest is none l p w e r = other_word (codes "close") (word_of l) refl (sym is ∙ e)

-- no line has the word `refuse` if its fields are wrong
pub no_refuse : (word rest : List ℕ) → word ≡ codes "refuse"
    → ((n code : ℕ) → n < 2 ^ 53 → code < 2 ^ 53 → rest ≡ decimal n ++ 32 ∷ decimal code → ⊥)
    → (l : Line) → is_plain l ≡ false → IsWritable l → word ≡ word_of l → rest ≡ rest_of l → ⊥
no_refuse word rest is none (Refuse n code) p w e r = none n code w.0 w.1 r
no_refuse word rest is none l p w e r = other_word (codes "refuse") (word_of l) refl (sym is ∙ e)

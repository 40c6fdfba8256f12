-- JSON treats a carriage return like a line feed, so replacing line feeds keeps the tokens of a text.
use Rattle.std.proofs.Common.{◌≡◌, ℕ, suc, ◌+◌, ◌-◌, ◌*◌, ◌≤◌, ◌==◌, nat_lt, nat_eq, Bool, true, false, cond, ◌&&◌, ◌||◌, List, [], ◌∷◌, ◌++◌, length, take, drop, flat_map}
use Rattle.std.proofs.Common.{Option, Some, None, option_and_then, encode_utf8_all, refl, sym, ap, ap₂, ◌∙◌, subst, arith}
use Rattle.std.proofs.Math.Seq.{take-append_seam}
use Rattle.std.proofs.lemmas.Bool.{true≢false, false≢true, and_parts, eqb-true, ne_eqb}
use Rattle.std.proofs.lemmas.List.{append_assoc, drop-map, length-append, map-append, take-append-drop}
use Rattle.std.specs.Char.{digit_value, encode_utf8, is_ascii_digit, is_digit}
use Rattle.std.specs.List.{list_any, prefix_len}
use Rattle.std.specs.Prelude.{⊤}
use lib.Pointwise.{pointwise}
use Rattle.json.specs.Lex.{Class, quote, backslash, operator, space, other, class, Lexeme, token, operator_lexeme, string_token, Mode, between, in_word, in_string, in_escape}
use Rattle.json.specs.Lex.{lex_byte, lex, fresh, punctuate, tokens}
use Rattle.json.specs.Text.{Within, plain, after_backslash, after_u, after_high, content, code_unit, short_escape, prepend, is_high_surrogate, is_low_surrogate, surrogate_pair}
use Rattle.json.specs.Token.{Token, boolean, null, number, bad}
use Rattle.json.specs.Word.{is_operator, is_space, head, ends_word, after_digits, after_minus, after_sign, after_whole, after_fraction, after_exponent, after_number, number_before, literal, word}
use Rattle.json.specs.Ascii.{true_text, false_text, null_text}
use Rattle.bidi_recorder.specs.OneLine.{return_for, with_returns}

-- ---- a byte and the one in its place

-- a fact about the two blanks, and about each other byte with itself, holds of each byte and its replacement
by_byte : (P : ℕ → ℕ → Type 0) → P 10 13 → ((b : ℕ) → (b == 10) ≡ false → P b b) → (b : ℕ) → P b (return_for b)
by_byte P feed same b = at (b == 10) refl
  where
    at : (t : Bool) → (b == 10) ≡ t → P b (cond t 13 b)
    at true e = subst (λ x. P x 13) (sym (eqb-true b 10 e)) feed
    at false e = same b e

stays : (b : ℕ) → (b == 10) ≡ false → return_for b ≡ b
stays b e = ap (λ t. cond t 13 b) e

-- no line feed is left
pub no_feed : (xs : List ℕ) → list_any (λ b. b == 10) (with_returns xs) ≡ false
no_feed [] = refl
no_feed (x ∷ xs) = λ i. by_byte (λ b c. (c == 10) ≡ false) refl (λ b e. e) x i || no_feed xs i

-- a byte is asked for that is neither of the two
asked : (c : ℕ) → (13 == c) ≡ (10 == c) → (b : ℕ) → (return_for b == c) ≡ (b == c)
asked c e = by_byte (λ b d. (d == c) ≡ (b == c)) e (λ b h. refl)

-- the value under an equal condition
guarded : {A : Type 0} (t u : Bool) (x y z : A) → t ≡ u → (u ≡ true → x ≡ y) → cond t x z ≡ cond u y z
guarded true true x y z e h = h refl
guarded true false x y z e h = absurd (true≢false e)
guarded false true x y z e h = absurd (false≢true e)
guarded false false x y z e h = refl

-- ---- the content of a string

digit_same : (b : ℕ) → is_digit (return_for b) 16 ≡ is_digit b 16
digit_same = by_byte (λ b c. is_digit c 16 ≡ is_digit b 16) refl (λ b e. refl)

digit_stays : (b : ℕ) → is_digit b 16 ≡ true → return_for b ≡ b
digit_stays = by_byte (λ b c. is_digit b 16 ≡ true → c ≡ b) (λ h. absurd (false≢true h)) (λ b e h. refl)

unit_same : (a b c d : ℕ) → code_unit (return_for a) (return_for b) (return_for c) (return_for d) ≡ code_unit a b c d
unfolding code_unit
unit_same a b c d =
    guarded _ _ _ _ _ (λ i. digit_same a i && digit_same b i && digit_same c i && digit_same d i)
    (λ h.
    let p = and_parts (is_digit a 16 && is_digit b 16 && is_digit c 16) (is_digit d 16) h in
    let q = and_parts (is_digit a 16 && is_digit b 16) (is_digit c 16) p.0 in
    let r = and_parts (is_digit a 16) (is_digit b 16) q.0 in
    λ i. Some (digit_value (digit_stays a r.0 i) * 4096 + digit_value (digit_stays b r.1 i) * 256 + digit_value (digit_stays c q.1 i) * 16 + digit_value (digit_stays d p.1 i)))

content_same : (w : Within) (xs : List ℕ) → content w (with_returns xs) ≡ content w xs
unfolding content short_escape
content_same plain [] = refl
content_same plain (x ∷ xs) =
    let tail = content_same plain xs in
    let escape = content_same after_backslash xs in
    by_byte (λ b c. content plain (c ∷ with_returns xs) ≡ content plain (b ∷ xs)) refl
    (λ b e i. cond (b == 34) (Some []) (cond (b == 92) (escape i) (cond (nat_lt b 32) None (prepend (b ∷ []) (tail i))))) x
content_same after_backslash [] = refl
content_same after_backslash (x ∷ xs) =
    let tail = content_same plain xs in
    let hex = content_same after_u xs in
    by_byte (λ b c. content after_backslash (c ∷ with_returns xs) ≡ content after_backslash (b ∷ xs)) refl
    (λ b e i. cond (b == 117) (hex i) (option_and_then (λ c. prepend (c ∷ []) (tail i)) (short_escape b))) x
content_same after_u [] = refl
content_same after_u (a ∷ []) = refl
content_same after_u (a ∷ b ∷ []) = refl
content_same after_u (a ∷ b ∷ c ∷ []) = refl
content_same after_u (a ∷ b ∷ c ∷ d ∷ xs) =
    let tail = content_same plain xs in
    let low = λ (u : ℕ). content_same (after_high u) xs in
    λ i. option_and_then (λ u. cond (is_high_surrogate u) (low u i) (cond (is_low_surrogate u) None (prepend (encode_utf8 u) (tail i)))) (unit_same a b c d i)
content_same (after_high h) [] = refl
content_same (after_high h) (s ∷ []) = refl
content_same (after_high h) (s ∷ u ∷ []) = refl
content_same (after_high h) (s ∷ u ∷ a ∷ []) = refl
content_same (after_high h) (s ∷ u ∷ a ∷ b ∷ []) = refl
content_same (after_high h) (s ∷ u ∷ a ∷ b ∷ c ∷ []) = refl
content_same (after_high h) (s ∷ u ∷ a ∷ b ∷ c ∷ d ∷ xs) =
    let tail = content_same plain xs in
    λ i. cond (asked 92 refl s i && asked 117 refl u i)
    (option_and_then (λ l. cond (is_low_surrogate l) (prepend (encode_utf8 (surrogate_pair h l)) (tail i)) None) (unit_same a b c d i)) None

-- ---- a word, part by part

head_same : (c : ℕ) → (13 == c) ≡ (10 == c) → (t : List ℕ) → (head (with_returns t) == c) ≡ (head t == c)
head_same c e [] = refl
head_same c e (x ∷ xs) = asked c e x

ends_same : (t : List ℕ) → ends_word (with_returns t) ≡ ends_word t
ends_same [] = refl
ends_same (x ∷ xs) = by_byte (λ b c. (is_operator c || is_space c) ≡ (is_operator b || is_space b)) refl (λ b e. refl) x

drop_same : (n : ℕ) (t : List ℕ) → drop n (with_returns t) ≡ with_returns (drop n t)
drop_same n t = drop-map return_for n t

-- no byte of the name is a line feed or a carriage return
IsWord : List ℕ → Type 0
IsWord [] = ⊤
IsWord (c ∷ cs) = ((c == 13) ≡ (c == 10)) × IsWord cs

name_same : (name t : List ℕ) → IsWord name → pointwise nat_eq name (take (length name) (with_returns t)) ≡ pointwise nat_eq name (take (length name) t)
unfolding IsWord
name_same [] t w = refl
name_same (c ∷ cs) [] w = refl
name_same (c ∷ cs) (x ∷ xs) w =
    let tail = name_same cs xs w.1 in
    λ i. by_byte (λ b d. (c == d) ≡ (c == b)) w.0 (λ b e. refl) x i && tail i

literal_same : (name : List ℕ) (k : Token) (t : List ℕ) → IsWord name → literal name k (with_returns t) ≡ literal name k t
literal_same name k t w =
    λ i. cond (name_same name t w i && (ap ends_word (drop_same (length name) t) ∙ ends_same (drop (length name) t)) i) k bad

-- bytes without a line feed come before the rest of t
Passed : List ℕ → List ℕ → Type 0
Passed t r = (front : List ℕ) × (t ≡ front ++ r) × (with_returns front ≡ front)

passed_on : (t r s : List ℕ) → Passed t r → Passed r s → Passed t s
unfolding Passed
passed_on t r s (a, e, h) (b, g, k) = (
  a ++ b,
  e ∙ ap (λ x. a ++ x) g ∙ sym (append_assoc a b s),
  map-append return_for a b ∙ ap₂ (λ x y. x ++ y) h k,
)

-- the rest of t after a part, and the rest of t without its line feeds
Goes : List ℕ → Option (List ℕ) → Option (List ℕ) → Type 0
Goes t None p = p ≡ None
Goes t (Some r) p = (p ≡ Some (with_returns r)) × Passed t r

further : (t r : List ℕ) → Passed t r → (o p : Option (List ℕ)) → Goes r o p → Goes t o p
unfolding Goes
further t r before None p e = e
further t r before (Some s) p e = (e.0, passed_on t r s before e.1)

then : (t : List ℕ) (g : List ℕ → Option (List ℕ)) (o p : Option (List ℕ)) → Goes t o p
    → ((r : List ℕ) → Goes r (g r) (g (with_returns r))) → Goes t (option_and_then g o) (option_and_then g p)
unfolding Goes
then t g None p e h = ap (option_and_then g) e
then t g (Some r) p e h = subst (Goes t (g r)) (sym (ap (option_and_then g) e.0)) (further t r e.1 (g r) (g (with_returns r)) (h r))

either : (t : List ℕ) (b : Bool) (o p q s : Option (List ℕ)) → (b ≡ true → Goes t o p) → Goes t q s → Goes t (cond b o q) (cond b p s)
either t true o p q s f g = f refl
either t false o p q s f g = g

nothing : (t : List ℕ) → Goes t (Some t) (Some (with_returns t))
unfolding Goes Passed
nothing t = (refl, ([], refl, refl))

-- one byte is passed
one : (c : ℕ) → (32 == c) ≡ false → return_for c ≡ c → (t : List ℕ) → (head t == c) ≡ true → Passed t (drop 1 t)
unfolding Passed
one c free is [] e = absurd (false≢true (sym free ∙ e))
one c free is (x ∷ xs) e = (x ∷ [], refl, ap (λ y. y ∷ []) (subst (λ y. return_for y ≡ y) (sym (eqb-true x c e)) is))

one_of : (c d : ℕ) → (32 == c) ≡ false → return_for c ≡ c → (32 == d) ≡ false → return_for d ≡ d
    → (t : List ℕ) (b : Bool) → (head t == c) ≡ b → (b || (head t == d)) ≡ true → Passed t (drop 1 t)
one_of c d free is none also t true e h = one c free is t e
one_of c d free is none also t false e h = one d none also t h

moved : (b : Bool) (t : List ℕ) → cond b (drop 1 (with_returns t)) (with_returns t) ≡ with_returns (cond b (drop 1 t) t)
moved true t = drop_same 1 t
moved false t = refl

perhaps : (b : Bool) (t : List ℕ) → (b ≡ true → Passed t (drop 1 t)) → Passed t (cond b (drop 1 t) t)
unfolding Passed
perhaps true t h = h refl
perhaps false t h = ([], refl, refl)

minus_same : (t : List ℕ) → after_minus (with_returns t) ≡ with_returns (after_minus t)
minus_same t = (λ i. cond (head_same 45 refl t i) (drop 1 (with_returns t)) (with_returns t)) ∙ moved (head t == 45) t

signs_same : (t : List ℕ) → ((head (with_returns t) == 45) || (head (with_returns t) == 43)) ≡ ((head t == 45) || (head t == 43))
signs_same t = λ i. head_same 45 refl t i || head_same 43 refl t i

sign_same : (t : List ℕ) → after_sign (with_returns t) ≡ with_returns (after_sign t)
sign_same t = (λ i. cond (signs_same t i) (drop 1 (with_returns t)) (with_returns t)) ∙ moved ((head t == 45) || (head t == 43)) t

sign_passed : (t : List ℕ) → Passed t (after_sign t)
sign_passed t = perhaps ((head t == 45) || (head t == 43)) t (one_of 45 43 refl refl refl refl t (head t == 45) refl)

count_same : (t : List ℕ) → prefix_len is_ascii_digit (with_returns t) ≡ prefix_len is_ascii_digit t
count_same [] = refl
count_same (x ∷ xs) =
    let tail = count_same xs in
    λ i. cond (by_byte (λ b c. is_ascii_digit c ≡ is_ascii_digit b) refl (λ b e. refl) x i) (1 + tail i) 0

digits_more : (x n : ℕ) (xs : List ℕ) → with_returns (take n xs) ≡ take n xs → (b : Bool) → is_ascii_digit x ≡ b
    → with_returns (take (cond b (1 + n) 0) (x ∷ xs)) ≡ take (cond b (1 + n) 0) (x ∷ xs)
digits_more x n xs h true e =
    let next : 1 + n ≡ suc n = omega arith in
    let first : return_for x ≡ x = by_byte (λ b c. is_ascii_digit b ≡ true → c ≡ b) (λ h. absurd (false≢true h)) (λ b h d. refl) x e in
    rw next (ap₂ (λ y ys. y ∷ ys) first h)
digits_more x n xs h false e = refl

digits_stay : (t : List ℕ) → with_returns (take (prefix_len is_ascii_digit t) t) ≡ take (prefix_len is_ascii_digit t) t
digits_stay [] = refl
digits_stay (x ∷ xs) = digits_more x (prefix_len is_ascii_digit xs) xs (digits_stay xs) (is_ascii_digit x) refl

digits_left : (t : List ℕ) (n : ℕ) → with_returns (take n t) ≡ take n t → (b : Bool) → Goes t (cond b None (Some (drop n t))) (cond b None (Some (with_returns (drop n t))))
unfolding Goes Passed
digits_left t n h true = refl
digits_left t n h false = (refl, (take n t, sym (take-append-drop n t), h))

goes_digits : (t : List ℕ) → Goes t (after_digits t) (after_digits (with_returns t))
goes_digits t =
    let n = prefix_len is_ascii_digit t in
    let same : after_digits (with_returns t) ≡ cond (n == 0) None (Some (with_returns (drop n t))) =
    (λ i. cond (count_same t i == 0) None (Some (drop (count_same t i) (with_returns t)))) ∙ (λ i. cond (n == 0) None (Some (drop_same n t i))) in
    subst (Goes t (after_digits t)) (sym same) (digits_left t n (digits_stay t) (n == 0))

goes_whole : (t : List ℕ) → Goes t (after_whole t) (after_whole (with_returns t))
unfolding Goes
goes_whole t =
    subst (Goes t (after_whole t))
    (sym (λ i. cond (head_same 48 refl t i) (Some (drop_same 1 t i)) (after_digits (with_returns t))))
    (either t (head t == 48) _ _ _ _ (λ e. (refl, one 48 refl refl t e)) (goes_digits t))

goes_fraction : (t : List ℕ) → Goes t (after_fraction t) (after_fraction (with_returns t))
goes_fraction t =
    subst (Goes t (after_fraction t))
    (sym (λ i. cond (head_same 46 refl t i) (after_digits (drop_same 1 t i)) (Some (with_returns t))))
    (either t (head t == 46) _ _ _ _ (λ e. further t (drop 1 t) (one 46 refl refl t e) _ _ (goes_digits (drop 1 t))) (nothing t))

goes_exponent : (t : List ℕ) → Goes t (after_exponent t) (after_exponent (with_returns t))
goes_exponent t =
    let next = after_sign (drop 1 t) in
    let same : after_sign (drop 1 (with_returns t)) ≡ with_returns next = ap after_sign (drop_same 1 t) ∙ sign_same (drop 1 t) in
    subst (Goes t (after_exponent t))
    (sym (λ i. cond (head_same 101 refl t i || head_same 69 refl t i) (after_digits (same i)) (Some (with_returns t))))
    (either t ((head t == 101) || (head t == 69)) _ _ _ _
    (λ e. further t (drop 1 t) (one_of 101 69 refl refl refl refl t (head t == 101) refl e) _ _
    (further (drop 1 t) next (sign_passed (drop 1 t)) _ _ (goes_digits next))) (nothing t))

goes_number : (t : List ℕ) → Goes t (after_number t) (after_number (with_returns t))
unfolding after_number
goes_number t =
    let m = after_minus t in
    let whole = subst (λ x. Goes m (after_whole m) (after_whole x)) (sym (minus_same t)) (goes_whole m) in
    let before = perhaps (head t == 45) t (one 45 refl refl t) in
    further t m before _ _ (then m after_exponent _ _ (then m after_fraction _ _ whole goes_fraction) goes_exponent)

cut : (a r : List ℕ) → take (length (a ++ r) - length r) (a ++ r) ≡ a
cut a r =
    let n : length (a ++ r) - length r ≡ length a = omega (arith, length-append a r) in
    ap (λ k. take k (a ++ r)) n ∙ take-append_seam a r

number_same : (t : List ℕ) (o p : Option (List ℕ)) → Goes t o p → number_before (with_returns t) p ≡ number_before t o
unfolding Goes Passed
number_same t None p e = ap (number_before (with_returns t)) e
number_same t (Some r) p (e, (a, is, same)) =
    let left : with_returns t ≡ a ++ with_returns r = ap with_returns is ∙ map-append return_for a r ∙ ap (λ x. x ++ with_returns r) same in
    let mine : take (length (with_returns t) - length (with_returns r)) (with_returns t) ≡ a =
    (λ i. take (length (left i) - length (with_returns r)) (left i)) ∙ cut a (with_returns r) in
    let its : take (length t - length r) t ≡ a = (λ i. take (length (is i) - length r) (is i)) ∙ cut a r in
    ap (number_before (with_returns t)) e ∙ (λ i. cond (ends_same r i) (number ((mine ∙ sym its) i)) bad)

word_same : (t : List ℕ) → word (with_returns t) ≡ word t
unfolding word IsWord
word_same t =
    let truth = literal_same true_text (boolean true) t (refl, (refl, (refl, (refl, tt)))) in
    let falsehood = literal_same false_text (boolean false) t (refl, (refl, (refl, (refl, (refl, tt))))) in
    let nothing_at_all = literal_same null_text null t (refl, (refl, (refl, (refl, tt)))) in
    let numeral = number_same t (after_number t) (after_number (with_returns t)) (goes_number t) in
    λ i. cond (head_same 116 refl t i) (truth i) (cond (head_same 102 refl t i) (falsehood i) (cond (head_same 110 refl t i) (nothing_at_all i) (numeral i)))

-- ---- the tokens of a text

abbrev Rest : Type 0
Rest = Mode → List Lexeme

other_byte : (m : Mode) (c : Class) (x : ℕ) (xs ys : List ℕ) (j k : Rest) → content plain ys ≡ content plain xs → word (x ∷ ys) ≡ word (x ∷ xs)
    → ((n : Mode) → j n ≡ k n) → lex_byte m c x ys j ≡ lex_byte m c x xs k
other_byte between quote x xs ys j k s w h = λ i. token (string_token (s i)) ∷ h in_string i
other_byte between backslash x xs ys j k s w h = ap (λ l. token bad ∷ l) (h in_word)
other_byte between operator x xs ys j k s w h = ap (λ l. operator_lexeme x ∷ l) (h between)
other_byte between space x xs ys j k s w h = h between
other_byte between other x xs ys j k s w h = λ i. token (w i) ∷ h in_word i
other_byte in_word quote x xs ys j k s w h = h in_word
other_byte in_word backslash x xs ys j k s w h = h in_word
other_byte in_word operator x xs ys j k s w h = ap (λ l. operator_lexeme x ∷ l) (h between)
other_byte in_word space x xs ys j k s w h = h between
other_byte in_word other x xs ys j k s w h = h in_word
other_byte in_string quote x xs ys j k s w h = h between
other_byte in_string backslash x xs ys j k s w h = h in_escape
other_byte in_string operator x xs ys j k s w h = h in_string
other_byte in_string space x xs ys j k s w h = h in_string
other_byte in_string other x xs ys j k s w h = h in_string
other_byte in_escape c x xs ys j k s w h = h in_string

blank : (m : Mode) (xs ys : List ℕ) (j k : Rest) → ((n : Mode) → j n ≡ k n) → lex_byte m space 13 ys j ≡ lex_byte m space 10 xs k
blank between xs ys j k h = h between
blank in_word xs ys j k h = h between
blank in_string xs ys j k h = h in_string
blank in_escape xs ys j k h = h in_string

lex_same : (m : Mode) (xs : List ℕ) → lex m (with_returns xs) ≡ lex m xs
unfolding lex
lex_same m [] = refl
lex_same m (x ∷ xs) =
    let ys = with_returns xs in
    let rest = λ (n : Mode). lex_same n xs in
    by_byte (λ b c. word (c ∷ ys) ≡ word (b ∷ xs) → lex m (c ∷ ys) ≡ lex m (b ∷ xs)) (λ w. blank m xs ys _ _ rest)
    (λ b e w. other_byte m (class b) b xs ys _ _ (content_same plain xs) w rest) x (word_same (x ∷ xs))

-- both texts have the same tokens
pub tokens_same : (text : List ℕ) → tokens (with_returns text) ≡ tokens text
tokens_same text = ap (punctuate fresh) (lex_same between text)

-- ---- the characters of a text

high : (n : ℕ) → 128 ≤ n → return_for n ≡ n
high n h = stays n (ne_eqb n 10 (λ e. omega (arith, e)))

four : (p q r : Bool) (b x y z u v w k l m : ℕ) → return_for b ≡ b → 128 ≤ x → 128 ≤ y → 128 ≤ z → 128 ≤ u → 128 ≤ v → 128 ≤ w → 128 ≤ k → 128 ≤ l → 128 ≤ m
    → cond p (b ∷ []) (cond q (x ∷ y ∷ []) (cond r (z ∷ u ∷ v ∷ []) (w ∷ k ∷ l ∷ m ∷ [])))
    ≡ with_returns (cond p (b ∷ []) (cond q (x ∷ y ∷ []) (cond r (z ∷ u ∷ v ∷ []) (w ∷ k ∷ l ∷ m ∷ []))))
four true q r b x y z u v w k l m h i1 i2 i3 i4 i5 i6 i7 i8 i9 = λ i. sym h i ∷ []
four false true r b x y z u v w k l m h i1 i2 i3 i4 i5 i6 i7 i8 i9 = λ i. sym (high x i1) i ∷ sym (high y i2) i ∷ []
four false false true b x y z u v w k l m h i1 i2 i3 i4 i5 i6 i7 i8 i9 = λ i. sym (high z i3) i ∷ sym (high u i4) i ∷ sym (high v i5) i ∷ []
four false false false b x y z u v w k l m h i1 i2 i3 i4 i5 i6 i7 i8 i9 = λ i. sym (high w i6) i ∷ sym (high k i7) i ∷ sym (high l i8) i ∷ sym (high m i9) i ∷ []

encode_stays : (b : ℕ) → (b == 10) ≡ false → encode_utf8 b ≡ with_returns (encode_utf8 b)
unfolding encode_utf8
encode_stays b e =
    four (nat_lt b 128) (nat_lt b 2048) (nat_lt b 65536) b _ _ _ _ _ _ _ _ _ (stays b e) (omega arith) (omega arith) (omega arith) (omega arith)
    (omega arith) (omega arith) (omega arith) (omega arith) (omega arith)

pub encode_same : (c : ℕ) → encode_utf8 (return_for c) ≡ with_returns (encode_utf8 c)
unfolding encode_utf8
encode_same = by_byte (λ b c. encode_utf8 c ≡ with_returns (encode_utf8 b)) refl encode_stays

-- characters with returns in place of line feeds make the text with returns
pub encodes_same : (cs : List ℕ) → flat_map (λ c. encode_utf8 (return_for c)) cs ≡ with_returns (encode_utf8_all cs)
encodes_same [] = refl
encodes_same (c ∷ cs) = ap₂ (λ x y. x ++ y) (encode_same c) (encodes_same cs) ∙ sym (map-append return_for (encode_utf8 c) (encode_utf8_all cs))

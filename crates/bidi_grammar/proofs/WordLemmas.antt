-- What pointers, told words and counts are made of.
use Rattle.std.proofs.Common.{◌≡◌, ◌≢◌, ◌∙◌, ℕ, suc, ◌<◌, List, [], ◌∷◌, ◌++◌, flat_map, length, get_or, codes, decimal, eqb, false, rules}
use Rattle.std.proofs.Common.{Some, refl, sym, ap, ap₂, append_assoc, append-nil, arith, lit<, ne_eqb, encode_utf8, encode_utf8_all, Vec, Global}
use Rattle.std.proofs.lemmas.List.Concat.{flat_map-append}
use Rattle.std.proofs.lemmas.Str.{inside_one}
use Rattle.std.specs.Borrow.{Bor}
use Rattle.json.specs.Print.{print, print_from, quoted}
use Rattle.json.specs.Token as token
use Rattle.json.specs.Json as json
use Rattle.json.specs.Value.{value_view, items_view, members_view}
use Rattle.json.specs.declared.value.Value.{Value, Array as ArrayOf, Object as ObjectOf, the_lemmas as the_values}
use Rattle.bidi_grammar.specs.Term.{Term, either}
use Rattle.bidi_grammar.specs.Words.{choice_in, escaped_byte, escaped, told_with, each_once, count_words, count_members}

-- ---- pointers

-- a byte that has no escape stands for itself
escaped_byte_plain : (b : ℕ) → b ≢ 126 → b ≢ 47 → escaped_byte b ≡ b ∷ []
escaped_byte_plain b p q =
    let no_tilde : eqb b 126 ≡ false = ne_eqb b 126 p in
    let no_slash : eqb b 47 ≡ false = ne_eqb b 47 q in
    rw (no_tilde, no_slash)

-- and so does a text of such bytes
escaped_plain : (bs : List ℕ) → ((k : ℕ) → k < length bs → (get_or bs k 0 ≢ 126) × (get_or bs k 0 ≢ 47)) → escaped bs ≡ bs
escaped_plain [] h = refl
escaped_plain (b ∷ bs) h =
    let here = h 0 (omega arith) in
    ap₂ (λ (x y : List ℕ). x ++ y) (escaped_byte_plain b here.0 here.1) (escaped_plain bs (λ k l. h (suc k) (omega arith)))

-- an ASCII byte stands in one letter alone, the one that has it as its code
in_letter : (c k n : ℕ) → k < length (encode_utf8 c) → n < 128 → get_or (encode_utf8 c) k 0 ≡ n → c ≡ n
in_letter c k n few small e =
    inside_one c [] (encode_utf8 c) k (sym (append-nil (encode_utf8 c))) few (omega (arith, e, small)) ∙ e

-- a letter that has no escape stands for itself
pub escaped-encode_utf8 : (c : ℕ) → c ≢ 126 → c ≢ 47 → escaped (encode_utf8 c) ≡ encode_utf8 c
escaped-encode_utf8 c p q =
    escaped_plain (encode_utf8 c) (λ k l. (λ e. p (in_letter c k 126 l (lit< tt) e), λ e. q (in_letter c k 47 l (lit< tt) e)))

-- the escapes of a text, letter by letter
pub escaped-encode_utf8_all : (cs : List ℕ) → flat_map (λ c. escaped (encode_utf8 c)) cs ≡ escaped (encode_utf8_all cs)
escaped-encode_utf8_all [] = refl
escaped-encode_utf8_all (c ∷ cs) =
    ap (λ (t : List ℕ). escaped (encode_utf8 c) ++ t) (escaped-encode_utf8_all cs) ∙ sym (flat_map-append escaped_byte (encode_utf8 c) (encode_utf8_all cs))

-- ---- told words

-- what is told after some is told after the first of it
pub each_once-append : (told vs ws : List (List ℕ)) → each_once told (vs ++ ws) ≡ each_once (each_once told vs) ws
each_once-append told [] ws = refl
each_once-append told (v ∷ vs) ws = each_once-append (told_with told v) vs ws

-- ---- counts

-- an object has as many members as the code's
pub length-members_view : {A : Type 0} (ms : List (Bor (List ℕ) × Value A)) → length ms ≡ count_members (members_view ms)
length-members_view [] = refl
length-members_view (m ∷ ms) = ap suc (length-members_view ms)

-- one level of a value
pub value_view-Array : (v : Vec (Value Global) Global) → value_view (ArrayOf v) ≡ json.array (items_view v.items)
value_view-Array v = search (rules, the_values)

pub value_view-Object : (v : Vec (Bor (List ℕ) × Value Global) Global) → value_view (ObjectOf v) ≡ json.object (members_view v.items)
value_view-Object v = search (rules, the_values)

-- the words of a count as a format joins them
pub one_part : (kind part : List ℕ) (n : ℕ) → n ≡ 1 → codes "an " ++ (kind ++ (codes " of one " ++ part)) ≡ count_words kind part n
one_part kind part n e = rw e (ap (λ (t : List ℕ). codes "an " ++ t) (sym (append_assoc kind (codes " of one ") part)))

pub more_parts : (kind part : List ℕ) (n : ℕ) → n ≢ 0 → n ≢ 1
    → codes "an " ++ (kind ++ (codes " of " ++ (decimal n ++ (codes " " ++ (part ++ codes "s"))))) ≡ count_words kind part n
more_parts kind part n p q =
    let not_none : eqb n 0 ≡ false = ne_eqb n 0 p in
    let not_one : eqb n 1 ≡ false = ne_eqb n 1 q in
    rw (not_none, not_one) (simp append_assoc)

-- a string alone is written in quotes
pub print-string : (s : List ℕ) → print (token.string s ∷ []) ≡ quoted s
unfolding print_from
print-string s = append-nil (quoted s)

-- ---- choices

some_pair : (p q : ℕ × ℕ) → Some p ≡ Some q → p ≡ q
some_pair p q e = cc

-- a term with two parts is the choice of them
pub choice_of : (τ : Term) (m n : ℕ) → Some (m, n) ≡ choice_in τ → τ ≡ either m n
choice_of (either a b) m n e =
    let same = some_pair (m, n) (a, b) e in
    ap₂ either (sym (ap (λ p. p.0) same)) (sym (ap (λ p. p.1) same))
choice_of τ m n e = absurd (cc)

-- ---- lists

pub none_of : (xs : List ℕ) → length xs ≡ 0 → xs ≡ []
none_of [] e = refl
none_of (x ∷ xs) e = absurd (omega (arith, e))

-- What pointers, told words and counts are made of.
use Rattle.std.proofs.Common.{◌≡◌, ◌≢◌, ℕ, zero, suc, ◌+◌, ◌<◌, List, [], ◌∷◌, ◌++◌, map, flat_map, length, get_or, drop, codes, decimal, eqb, false, rules}
use Rattle.std.proofs.Common.{refl, sym, ap, ap₂, subst, ◌∙◌, append_assoc, append-nil, arith, lit<, ne_eqb, encode_utf8, encode_utf8_all, take}
use Rattle.std.proofs.Common.{◌≤◌, ◌⊎◌, inl, inr, Bool, true, cond, nat_lt, length-append, bytes_eq, Some}
use Rattle.std.proofs.lemmas.Bool.{lt-ltb}
use Rattle.std.proofs.Math.Seq.{drop-cons}
use Rattle.std.proofs.lemmas.Bool.Decides.{same_from_decides}
use Rattle.std.proofs.lemmas.Slice.Eq.{bytes_eq-Decides}
use Rattle.json.specs.Print.{escape, escape_byte, escape_letter, quoted}
use Rattle.json.proofs.Printed.Strings.{escape_byte_plain}
use Rattle.bidi_tree.specs.Text.{tree_of}
use Rattle.bidi_tree.proofs.RoundTrip.{tree_of-compact_text}
use Rattle.std.proofs.lemmas.List.{at_drop_more}
use Rattle.std.proofs.lemmas.List.Concat.{flat_map-append}
use Rattle.std.proofs.lemmas.Str.{inside_one}
use Rattle.bidi_tree.specs.Named.{Named}
use Rattle.bidi_tree.specs.Node as node
use Rattle.bidi_tree.specs.Outline.{outline_node, outline_items, outline_members, named_outlines}
use Rattle.bidi_tree.specs.declared.outline.Outline.{Outline, Map as MapOf, the_lemmas as the_outlines}
use Rattle.bidi_tree.proofs.OutlineLemmas.{OutlineMember}
use Rattle.bidi_shape.specs.Fits.{count}
use Rattle.bidi_shape.specs.Term.{Term, bool, js_uint, js_int, any}
use Rattle.bidi_rules.specs.Grammar.{grammar, one_of}
use Rattle.bidi_blame.specs.Words.{escaped_byte, escaped, alternatives, told_with, each_once, choice_text, count_words, count_members}
use Rattle.bidi_rules.specs.declared.term.Term as code_term
use Rattle.bidi_rules.specs.declared.term.Term.{the_lemmas}
use Rattle.bidi_blame.proofs.JudgeLemmas.{count-items_of}

-- ---- pointers

-- a byte that has no escape stands for itself
escaped_byte_plain : (b : ℕ) → b ≢ 126 → b ≢ 47 → escaped_byte b ≡ b ∷ []
escaped_byte_plain b p q =
    let no_tilde : eqb b 126 ≡ false = ne_eqb b 126 p in
    let no_slash : eqb b 47 ≡ false = ne_eqb b 47 q in
    rw (no_tilde, no_slash)

-- and so does a text of such bytes
escaped_plain : (bs : List ℕ) → ((k : ℕ) → k < length bs → (get_or bs k 0 ≢ 126) × (get_or bs k 0 ≢ 47)) → escaped bs ≡ bs
escaped_plain [] h = refl
escaped_plain (b ∷ bs) h =
    let here = h 0 (omega arith) in
    ap₂ (λ (x y : List ℕ). x ++ y) (escaped_byte_plain b here.0 here.1) (escaped_plain bs (λ k l. h (suc k) (omega arith)))

-- so does a byte that has no escape, before bytes that do
pub escaped_more : (bs : List ℕ) (i : ℕ) → i < length bs → get_or bs i 0 ≢ 126 → get_or bs i 0 ≢ 47
    → escaped (drop (i + 1) bs) ≡ drop (i + 1) bs → escaped (drop i bs) ≡ drop i bs
escaped_more bs i few tilde slash rest =
    let next : suc i ≡ i + 1 = omega arith in
    let here : drop i bs ≡ get_or bs i 0 ∷ drop (i + 1) bs = drop-cons bs i 0 few ∙ ap (λ j. get_or bs i 0 ∷ drop j bs) next in
    subst (λ (xs : List ℕ). escaped xs ≡ xs) (sym here) (ap₂ (λ (x y : List ℕ). x ++ y) (escaped_byte_plain (get_or bs i 0) tilde slash) rest)

-- an ASCII byte stands in one letter alone, the one that has it as its code
in_letter : (c k n : ℕ) → k < length (encode_utf8 c) → n < 128 → get_or (encode_utf8 c) k 0 ≡ n → c ≡ n
in_letter c k n few small e =
    inside_one c [] (encode_utf8 c) k (sym (append-nil (encode_utf8 c))) few (omega (arith, e, small)) ∙ e

-- a letter that has no escape stands for itself
pub escaped-encode_utf8 : (c : ℕ) → c ≢ 126 → c ≢ 47 → escaped (encode_utf8 c) ≡ encode_utf8 c
escaped-encode_utf8 c p q =
    escaped_plain (encode_utf8 c) (λ k l. (λ e. p (in_letter c k 126 l (lit< tt) e), λ e. q (in_letter c k 47 l (lit< tt) e)))

-- the escapes of a text, letter by letter
pub escaped-encode_utf8_all : (cs : List ℕ) → flat_map (λ c. escaped (encode_utf8 c)) cs ≡ escaped (encode_utf8_all cs)
escaped-encode_utf8_all [] = refl
escaped-encode_utf8_all (c ∷ cs) =
    ap (λ (t : List ℕ). escaped (encode_utf8 c) ++ t) (escaped-encode_utf8_all cs) ∙ sym (flat_map-append escaped_byte (encode_utf8 c) (encode_utf8_all cs))

-- ---- told words

-- what is told after some is told after the first of it
pub each_once-append : (told vs ws : List (List ℕ)) → each_once told (vs ++ ws) ≡ each_once (each_once told vs) ws
each_once-append told [] ws = refl
each_once-append told (v ∷ vs) ws = each_once-append (told_with told v) vs ws

-- the alternatives of a choice
pub alternatives-one_of : (σ : Term) (τs : List Term) → alternatives (one_of σ τs) ≡ alternatives σ ++ flat_map alternatives τs
alternatives-one_of σ [] = sym (append-nil (alternatives σ))
alternatives-one_of σ (τ ∷ τs) = ap (λ (ws : List (List ℕ)). alternatives σ ++ ws) (alternatives-one_of τ τs)

-- they are told one after another
pub choice_told : (told mid now : List (List ℕ)) (σ : Term) (τs : List Term)
    → mid ≡ each_once told (alternatives σ) → now ≡ each_once mid (flat_map alternatives τs) → now ≡ each_once told (alternatives (one_of σ τs))
choice_told told mid now σ τs first rest =
    rest
    ∙ ap (λ (ws : List (List ℕ)). each_once ws (flat_map alternatives τs)) first
    ∙ sym (each_once-append told (alternatives σ) (flat_map alternatives τs))
    ∙ ap (each_once told) (sym (alternatives-one_of σ τs))

-- one more of some is told
pub told_one_more : {A : Type 0} (g : A → Term) (before now all : List (List ℕ)) (xs : List A) (i : ℕ) (d : A) → i < length xs
    → each_once before (flat_map alternatives (map g (drop i xs))) ≡ all → now ≡ each_once before (alternatives (g (get_or xs i d)))
    → each_once now (flat_map alternatives (map g (drop (i + 1) xs))) ≡ all
told_one_more {A} g before now all xs i d few so_far one =
    let rest = flat_map alternatives (map g (drop (i + 1) xs)) in
    ap (λ (ws : List (List ℕ)). each_once ws rest) one
    ∙ sym (each_once-append before (alternatives (g (get_or xs i d))) rest)
    ∙ sym (at_drop_more (λ (ys : List A). each_once before (flat_map alternatives (map g ys))) xs i d few)
    ∙ so_far

-- ---- texts as JSON writes them

-- texts that JSON writes alike are the same
quoted-same : (s u : List ℕ) → quoted s ≡ quoted u → s ≡ u
quoted-same s u e =
    let here = tree_of-compact_text (node.text s) tt (refl, omega arith) in
    let there = tree_of-compact_text (node.text u) tt (refl, omega arith) in
    let same : Some (node.text s) ≡ Some (node.text u) = sym here ∙ (ap tree_of e ∙ there) in cc

-- the words of some alternatives begin as those of the first
pub text_begins : (w : List ℕ) (ws : List (List ℕ)) → bytes_eq (34 ∷ []) (take 1 w) ≡ bytes_eq (34 ∷ []) (take 1 (choice_text (w ∷ ws)))
text_begins [] [] = refl
text_begins [] (x ∷ ws) = refl
text_begins (b ∷ bs) ws = refl

pub quoted-eq : (s u : List ℕ) → bytes_eq s u ≡ bytes_eq (quoted s) (quoted u)
quoted-eq s u =
    let d = bytes_eq-Decides s u in
    let q = bytes_eq-Decides (quoted s) (quoted u) in
    same_from_decides {P = s ≡ u} (bytes_eq s u) (bytes_eq (quoted s) (quoted u)) d (λ e. quoted-same s u (q.0 e), λ e. q.1 (ap quoted e))

-- a byte that is written by no escape
abbrev pub Unescaped : ℕ → Type 0
Unescaped b = (32 ≤ b) × (b ≢ 34) × (b ≢ 92)

-- it stands for itself, before bytes that do
pub escape_more : (bs : List ℕ) (i : ℕ) → i < length bs → Unescaped (get_or bs i 0)
    → escape (drop (i + 1) bs) ≡ drop (i + 1) bs → escape (drop i bs) ≡ drop i bs
escape_more bs i few plain rest =
    let next : suc i ≡ i + 1 = omega arith in
    let here : drop i bs ≡ get_or bs i 0 ∷ drop (i + 1) bs = drop-cons bs i 0 few ∙ ap (λ j. get_or bs i 0 ∷ drop j bs) next in
    subst (λ (xs : List ℕ). escape xs ≡ xs) (sym here) (ap₂ (λ (x y : List ℕ). x ++ y) (escape_byte_plain (get_or bs i 0) plain.1 plain.2 plain.0) rest)

-- a byte that is
abbrev pub Escaped : ℕ → Type 0
Escaped b = (b < 32) ⊎ ((b ≡ 34) ⊎ (b ≡ 92))

-- a choice of two texts, each of so many bytes
either-long : (n : ℕ) (x : Bool) (us vs : List ℕ) → n ≤ length us → n ≤ length vs → n ≤ length (cond x us vs)
either-long n true us vs p q = p
either-long n false us vs p q = q

-- the bytes that stand for one are one or more
escape_byte-some : (b : ℕ) → 1 ≤ length (escape_byte b)
unfolding escape_byte
escape_byte-some b = either-long 1 (nat_lt 0 (escape_letter b)) _ _ (omega arith) (either-long 1 (nat_lt b 32) _ _ (omega arith) (omega arith))

-- of one that is written by an escape they are more
escape_byte-long : (b : ℕ) → Escaped b → 2 ≤ length (escape_byte b)
unfolding escape_byte
escape_byte-long b (inr (inl e)) = subst (λ (x : ℕ). 2 ≤ length (escape_byte x)) (sym e) (omega arith)
escape_byte-long b (inr (inr e)) = subst (λ (x : ℕ). 2 ≤ length (escape_byte x)) (sym e) (omega arith)
escape_byte-long b (inl few) = rw (lt-ltb b 32 few) (either-long 2 (nat_lt 0 (escape_letter b)) _ _ (omega arith) (omega arith))

-- so no text is shorter where JSON writes it
escape-long : (bs : List ℕ) → length bs ≤ length (escape bs)
escape-long [] = omega arith
escape-long (b ∷ bs) = omega (arith, length-append (escape_byte b) (escape bs), escape_byte-some b, escape-long bs)

-- and one of whose bytes one is escaped is longer
escape-longer : (bs : List ℕ) (i : ℕ) → i < length bs → 2 ≤ length (escape_byte (get_or bs i 0)) → length bs < length (escape bs)
escape-longer [] i few long = absurd (omega (arith, few))
escape-longer (b ∷ bs) zero few long = omega (arith, length-append (escape_byte b) (escape bs), long, escape-long bs)
escape-longer (b ∷ bs) (suc i) few long =
    omega (arith, length-append (escape_byte b) (escape bs), escape_byte-some b, escape-longer bs i (omega (arith, few)) long)

-- so it does not stand as it is
pub escape-other : (bs : List ℕ) (i : ℕ) → i < length bs → Escaped (get_or bs i 0) → escape bs ≢ bs
escape-other bs i few some same = absurd (omega (arith, ap length same, escape-longer bs i few (escape_byte-long (get_or bs i 0) some)))

-- ---- terms of the code

pub grammar-Bool : grammar code_term.Bool ≡ bool
grammar-Bool = search (rules, the_lemmas)

pub grammar-JsUint : grammar code_term.JsUint ≡ js_uint
grammar-JsUint = search (rules, the_lemmas)

pub grammar-JsInt : grammar code_term.JsInt ≡ js_int
grammar-JsInt = search (rules, the_lemmas)

pub grammar-Any : grammar code_term.Any ≡ any
grammar-Any = search (rules, the_lemmas)

-- ---- counts

-- a list has as many items as its tree
pub length-outline_items : (ds : List Outline) → length ds ≡ count (outline_items ds)
length-outline_items ds = sym (count-items_of outline_node ds)

-- and a map as many members
pub length-named_outlines : (ms : List OutlineMember) → length ms ≡ count_members (named_outlines ms)
length-named_outlines [] = refl
length-named_outlines (m ∷ ms) = ap suc (length-named_outlines ms)

-- one level of an outline
pub outline_node-Map : (ms : Named Outline) → outline_node (MapOf ms) ≡ node.map (outline_members ms)
outline_node-Map ms = search (rules, the_outlines)

-- the words of a count as a format joins them
pub one_part : (kind part : List ℕ) (n : ℕ) → n ≡ 1 → codes "an " ++ (kind ++ (codes " of one " ++ part)) ≡ count_words kind part n
one_part kind part n e = rw e (ap (λ (t : List ℕ). codes "an " ++ t) (sym (append_assoc kind (codes " of one ") part)))

pub more_parts : (kind part : List ℕ) (n : ℕ) → n ≢ 0 → n ≢ 1
    → codes "an " ++ (kind ++ (codes " of " ++ (decimal n ++ (codes " " ++ (part ++ codes "s"))))) ≡ count_words kind part n
more_parts kind part n p q =
    let not_none : eqb n 0 ≡ false = ne_eqb n 0 p in
    let not_one : eqb n 1 ≡ false = ne_eqb n 1 q in
    rw (not_none, not_one) (simp append_assoc)

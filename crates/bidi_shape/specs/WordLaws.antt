-- Types whose values are a few strings: the table of strings and values, and its laws. After RFC 8610, 2.2.2.
use Rattle.std.specs.Prelude.{◌≡◌, ℕ, List, [], ◌∷◌, map, Bool, true, false, Option, Some, None, if◌then◌else◌, refl}
use Rattle.std.proofs.Common.{sym, ap, ◌∙◌, subst, bytes_eq, true≢false, zero-le}
use Rattle.std.proofs.lemmas.Slice.Eq.{bytes_eq-Decides}
use Rattle.bidi_tree.specs.Node as tree
use Rattle.bidi_tree.specs.Node.{Node}
use Rattle.bidi_shape.specs.Term.{Term, exactly, text, either}
use Rattle.bidi_shape.specs.Fits.{Fits, fits_exactly, fits_text, fits_first, fits_second}
use Rattle.bidi_shape.specs.KindLaws.{text_one}
use Rattle.bidi_shape.specs.Value.{ShapeOf}
use Rattle.bidi_shape.specs.Table.{unfolded, fits_unfolded, unfolded_fits}

-- a string and the value that it names
pub record Word (V : Type 0) : Type 0 where
  pub text : List ℕ
  pub value : V

-- a value with its string
abbrev pub word : {V : Type 0} → (V → List ℕ) → V → Word V
word text_of v = record { text = text_of v; value = v }

-- the choice of these strings, as a term
abbrev pub one_of : {V : Type 0} → Word V → List (Word V) → Term
one_of w [] = exactly w.text
one_of w (x ∷ xs) = either (exactly w.text) (one_of x xs)

-- the first value that the string names, or None
abbrev pub value_named : {V : Type 0} → Word V → List (Word V) → List ℕ → Option V
value_named w [] s = if bytes_eq s w.text then Some w.value else None
value_named w (x ∷ xs) s = if bytes_eq s w.text then Some w.value else value_named x xs s

fits_at : {V : Type 0} (b : Bool) (s : List ℕ) (w : Word V) (rest : Option V) (σ : Term) (v : V)
    → bytes_eq s w.text ≡ b → (if b then Some w.value else rest) ≡ Some v
    → (rest ≡ Some v → Fits (tree.text s) σ) → Fits (tree.text s) (either (exactly w.text) σ)
fits_at true s w rest σ v same e later =
    fits_first (tree.text s) (exactly w.text) σ (subst (λ x. Fits (tree.text s) (exactly x)) ((bytes_eq-Decides s w.text).0 same) (fits_exactly s))
fits_at false s w rest σ v same e later = fits_second (tree.text s) (exactly w.text) σ (later e)

last_fits : {V : Type 0} (b : Bool) (s : List ℕ) (w : Word V) (v : V)
    → bytes_eq s w.text ≡ b → (if b then Some w.value else None) ≡ Some v → Fits (tree.text s) (exactly w.text)
last_fits true s w v same e = subst (λ x. Fits (tree.text s) (exactly x)) ((bytes_eq-Decides s w.text).0 same) (fits_exactly s)
last_fits false s w v same e = cc

-- a string that names a value fits the choice
pub named_fits : {V : Type 0} (w : Word V) (xs : List (Word V)) (s : List ℕ) (v : V) → value_named w xs s ≡ Some v → Fits (tree.text s) (one_of w xs)
named_fits w [] s v e = last_fits (bytes_eq s w.text) s w v refl e
named_fits w (x ∷ xs) s v e = fits_at (bytes_eq s w.text) s w (value_named x xs s) (one_of x xs) v refl e (named_fits x xs s v)

exactly_same : {s t : List ℕ} → Fits (tree.text s) (exactly t) → s ≡ t
exactly_same f = text_one _ _ (inside f)
  where
    inside : {n : Node} {u : List ℕ} → Fits n (exactly u) → n ≡ tree.text u
    inside (fits_exactly u) = refl

split : {t : Node} {σ τ : Term} (P : Type 0) → (Fits t σ → P) → (Fits t τ → P) → Fits t (either σ τ) → P
split P f g (fits_first t σ τ h) = f h
split P f g (fits_second t σ τ h) = g h

none_at : {V : Type 0} (b : Bool) (s : List ℕ) (w : Word V) (rest : Option V)
    → bytes_eq s w.text ≡ b → (if b then Some w.value else rest) ≡ None → (s ≡ w.text → ⊥) × (rest ≡ None)
none_at true s w rest same e = cc
none_at false s w rest same e = (λ is. true≢false (sym ((bytes_eq-Decides s w.text).1 is) ∙ same), e)

-- a string that names no value does not fit the choice
pub unnamed_misfit : {V : Type 0} (w : Word V) (xs : List (Word V)) (s : List ℕ) → value_named w xs s ≡ None → Fits (tree.text s) (one_of w xs) → ⊥
unnamed_misfit w [] s e f = (none_at (bytes_eq s w.text) s w None refl e).0 (exactly_same f)
unnamed_misfit w (x ∷ xs) s e f =
    let p = none_at (bytes_eq s w.text) s w (value_named x xs s) refl e in
    split ⊥ (λ g. p.0 (exactly_same g)) (unnamed_misfit x xs s p.1) f

a_text : {t : Node} {s : List ℕ} → Fits t (exactly s) → Fits t text
a_text (fits_exactly s) = fits_text s

-- a tree that fits the choice is a string
pub word_text : {V : Type 0} {t : Node} (w : Word V) (xs : List (Word V)) → Fits t (one_of w xs) → Fits t text
word_text w [] f = a_text f
word_text w (x ∷ xs) f = split _ (λ g. a_text g) (word_text x xs) f

same_some : {A : Type 0} {a b : A} → Some a ≡ Some b → a ≡ b
same_some e = cc

-- the string of each value is the one that the table has for it
abbrev pub HasTexts : {V : Type 0} → (V → List ℕ) → Word V → List (Word V) → Type 0
HasTexts text_of w [] = text_of w.value ≡ w.text
HasTexts text_of w (x ∷ xs) = (text_of w.value ≡ w.text) × HasTexts text_of x xs

-- the specification of a type whose values are a few strings: its rule, the table of its strings, and that each value's string names it
pub record Words (V : Type 0) : Type 1 where
  pub rule : Term
  pub first : Word V
  pub rest : List (Word V)
  pub text_of : V → List ℕ
  pub is_rule : unfolded rule ≡ one_of first rest
  pub has_texts : HasTexts text_of first rest
  pub names_it : (v : V) → value_named first rest (text_of v) ≡ Some v

pub word_fits : {V : Type 0} (w : Words V) (v : V) → Fits (tree.text (w.text_of v)) w.rule
word_fits w v =
    fits_unfolded (tree.text (w.text_of v)) w.rule
    (subst (λ σ. Fits (tree.text (w.text_of v)) σ) (sym w.is_rule) (named_fits w.first w.rest (w.text_of v) v (w.names_it v)))

pub word_one : {V : Type 0} (w : Words V) (v u : V) → tree.text (w.text_of v) ≡ tree.text (w.text_of u) → v ≡ u
word_one w v u e = same_some (sym (w.names_it v) ∙ ap (value_named w.first w.rest) (text_one (w.text_of v) (w.text_of u) e) ∙ w.names_it u)

-- the shape of a type whose values are a few strings
abbrev pub word_shape : {V : Type 0} → Words V → ShapeOf V
word_shape w = record {
  rule = w.rule;
  tree_of = λ v. tree.text (w.text_of v);
  well = λ v. Unit {0};
  same = λ v u. v ≡ u;
  fits = λ v u. word_fits w v;
  one_value = λ v u a b e. word_one w v u e;
  deepest = 0;
  whole = λ v u. (refl, zero-le);
}

-- ---- laws for reading

named_at : {V : Type 0} (b : Bool) (s : List ℕ) (w : Word V) (rest : Option V) (text_of : V → List ℕ) (v : V) → bytes_eq s w.text ≡ b → text_of w.value ≡ w.text
    → (rest ≡ Some v → text_of v ≡ s) → (if b then Some w.value else rest) ≡ Some v → text_of v ≡ s
named_at true s w rest text_of v same is later e = ap text_of (sym (same_some e)) ∙ is ∙ sym ((bytes_eq-Decides s w.text).0 same)
named_at false s w rest text_of v same is later e = later e

none_v : {V : Type 0} {v : V} {P : Type 0} → None ≡ Some v → P
none_v e = cc

-- the first of these values whose string this is, or None
abbrev pub value_among : {V : Type 0} → (V → List ℕ) → List V → List ℕ → Option V
value_among text_of [] s = None
value_among text_of (v ∷ vs) s = if bytes_eq s (text_of v) then Some v else value_among text_of vs s

among_words : {V : Type 0} (text_of : V → List ℕ) (v : V) (vs : List V) (s : List ℕ)
    → value_named (word text_of v) (map (word text_of) vs) s ≡ value_among text_of (v ∷ vs) s
among_words text_of v [] s = refl
among_words text_of v (u ∷ us) s = ap (λ o. if bytes_eq s (text_of v) then Some v else o) (among_words text_of u us s)

-- looking a string up in the table or among the values gives the same
pub value_named-all : {V : Type 0} (text_of : V → List ℕ) (w : Word V) (ws : List (Word V)) (vs : List V) (s : List ℕ)
    → map (word text_of) vs ≡ w ∷ ws → value_named w ws s ≡ value_among text_of vs s
value_named-all text_of w ws [] s e = cc
value_named-all text_of w ws (v ∷ vs) s e =
    let first = among_words text_of v vs s in
    let head : word text_of v ≡ w = cc in
    let rest : map (word text_of) vs ≡ ws = cc in
    cc

-- the value that a string names has that string
pub text_of-value_named : {V : Type 0} (text_of : V → List ℕ) (w : Word V) (xs : List (Word V)) (s : List ℕ) (v : V)
    → HasTexts text_of w xs → value_named w xs s ≡ Some v → text_of v ≡ s
text_of-value_named text_of w [] s v h e = named_at (bytes_eq s w.text) s w None text_of v refl h none_v e
text_of-value_named text_of w (x ∷ xs) s v h e =
    named_at (bytes_eq s w.text) s w (value_named x xs s) text_of v refl h.0 (text_of-value_named text_of x xs s v h.1) e

-- a string that names no value does not fit the rule
pub word_misfit : {V : Type 0} (w : Words V) (s : List ℕ) → value_named w.first w.rest s ≡ None → Fits (tree.text s) w.rule → ⊥
word_misfit w s e f = unnamed_misfit w.first w.rest s e (subst (λ σ. Fits (tree.text s) σ) w.is_rule (unfolded_fits (tree.text s) w.rule f))

pub word_is_text : {V : Type 0} (w : Words V) (t : Node) → Fits t w.rule → Fits t text
word_is_text w t f = word_text w.first w.rest (subst (λ σ. Fits t σ) w.is_rule (unfolded_fits t w.rule f))

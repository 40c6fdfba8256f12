-- What fits a term is a tree that the term takes; and a plain tree that a plain term takes fits it.
use Rattle.std.proofs.Common.{◌≡◌, ℕ, pos, List, true, false, not, nat_le, refl, subst, le-leb, ltb-true, lt-ltb}
use Rattle.std.proofs.lemmas.Bool.{and_from}
use Rattle.std.proofs.lemmas.Slice.Eq.{bytes_eq-Decides}
use Rattle.std.specs.Prelude.{◌^◌}
use Rattle.bidi_tree.specs.Node as node
use Rattle.bidi_tree.specs.Node.{Node, levels, has_odd}
use Rattle.bidi_shape.specs.Term.{Term, exactly, text, bool, null, js_uint, js_int}
use Rattle.bidi_shape.specs.Fits.{count, Fits, fits_exactly, fits_text, fits_bool, fits_null, fits_js_uint, fits_js_int, fits_any}
use Rattle.bidi_shape.specs.Fits.{fits_list, fits_pair, fits_map, fits_first, fits_second, fits_rule, fits_capped}
use Rattle.bidi_blame.specs.Blames.{takes, is_odd}

-- an Odd is one that has an Odd
not_odd : (t : Node) → has_odd t ≡ false → not (is_odd t) ≡ true
not_odd node.odd e = absurd (cc)
not_odd node.null e = refl
not_odd (node.boolean b) e = refl
not_odd (node.whole z) e = refl
not_odd (node.text s) e = refl
not_odd (node.list ts) e = refl
not_odd (node.map ms) e = refl

-- what fits is taken
pub taken : {t : Node} {τ : Term} → Fits t τ → takes t τ ≡ true
taken (fits_exactly s) = (bytes_eq-Decides s s).1 refl
taken (fits_text s) = refl
taken (fits_bool b) = refl
taken fits_null = refl
taken (fits_js_uint n h) = lt-ltb n (2 ^ 53) h
taken (fits_js_int z h) = lt-ltb _ (2 ^ 53) h
taken (fits_any t h) = and_from (not (is_odd t)) (nat_le (levels t) 60) (not_odd t h.0) (le-leb (levels t) 60 h.1)
taken (fits_list ts least τ h f) = le-leb least (count ts) h
taken (fits_pair t u σ τ f g) = refl
taken (fits_map ms rows o f h) = refl
taken (fits_first t σ τ f) = refl
taken (fits_second t σ τ f) = refl
taken (fits_rule t n f) = refl
taken (fits_capped t τ h f) = le-leb (levels t) 60 h

-- ---- what is taken by a plain term fits

pub exactly_taken : (t : Node) (u : List ℕ) → takes t (exactly u) ≡ true → Fits t (exactly u)
exactly_taken (node.text s) u e = subst (λ x. Fits (node.text s) (exactly x)) ((bytes_eq-Decides s u).0 e) (fits_exactly s)
exactly_taken t u e = absurd (cc)

pub text_taken : (t : Node) → takes t text ≡ true → Fits t text
text_taken (node.text s) e = fits_text s
text_taken t e = absurd (cc)

pub bool_taken : (t : Node) → takes t bool ≡ true → Fits t bool
bool_taken (node.boolean b) e = fits_bool b
bool_taken t e = absurd (cc)

pub null_taken : (t : Node) → takes t null ≡ true → Fits t null
null_taken node.null e = fits_null
null_taken t e = absurd (cc)

pub js_uint_taken : (t : Node) → takes t js_uint ≡ true → Fits t js_uint
js_uint_taken (node.whole (pos n)) e = fits_js_uint n (ltb-true n (2 ^ 53) e)
js_uint_taken t e = absurd (cc)

pub js_int_taken : (t : Node) → takes t js_int ≡ true → Fits t js_int
js_int_taken (node.whole z) e = fits_js_int z (ltb-true _ (2 ^ 53) e)
js_int_taken t e = absurd (cc)

-- Local values: a plain one, a list of values or a list of pairs is what the rule says. After WebDriver BiDi, "The script.LocalValue Type".
use Rattle.std.proofs.Common.{◌⊎◌, inl, inr, ℕ, List, refl}
use Rattle.bidi_tree.specs.Node as node
use Rattle.bidi_tree.specs.Node.{Node}
use Rattle.bidi_shape.specs.Name.{local_value, local_pair, reference, primitive, reg_exp_value}
use Rattle.bidi_shape.specs.Term.{Term, text, rule, any_number_of, closed_map, ◌or◌, ◌is◌and◌, no_more}
use Rattle.bidi_shape.specs.Profile.{typed_value}
use Rattle.bidi_shape.specs.Fits.{Fits, fits_first, fits_second}
use Rattle.bidi_shape.specs.TagLaws.{typed_tree}
use Rattle.bidi_shape.proofs.FitsTest.{misfits_by}
use Rattle.bidi_values.specs.Kinds.{list_kind, list_text, pairs_kind, pairs_text}
use Rattle.bidi_values.specs.ChoiceOfMaps.{wider, one_of_two, to_first, to_second}
use Rattle.bidi_values.specs.declared.kinds.ListKind.{ListKind}
use Rattle.bidi_values.specs.declared.kinds.ListKind.TheVariants.{Array, Set}
use Rattle.bidi_values.specs.declared.kinds.PairsKind.{PairsKind}
use Rattle.bidi_values.specs.declared.kinds.PairsKind.TheVariants.{Map, Object}

-- the plain alternatives of the rule: a reference, a primitive value, a date or a regular expression
abbrev pub local_plain : Term
local_plain = rule reference or rule primitive or typed_value "date" text or typed_value "regexp" (rule reg_exp_value)

-- a list of values: an array or a set
abbrev pub local_list : Term
local_list = closed_map (
    "type" is list_kind and
    "value" is any_number_of (rule local_value) and no_more)

-- a list of pairs: an object or a map
abbrev pub local_pairs : Term
local_pairs = closed_map (
    "type" is pairs_kind and
    "value" is any_number_of (rule local_pair) and no_more)

-- the eight alternatives of the rule, in its order
-- example: `{"type":"array","value":[],"handle":"h"}` is a reference and no list
abbrev pub local_alternatives : Term
local_alternatives =
    rule reference or rule primitive
    or typed_value "array" (any_number_of (rule local_value))
    or typed_value "date" text
    or typed_value "map" (any_number_of (rule local_pair))
    or typed_value "object" (any_number_of (rule local_pair))
    or typed_value "regexp" (rule reg_exp_value)
    or typed_value "set" (any_number_of (rule local_value))

-- ---- the alternatives are these three

-- what fits a plain alternative fits the rule
pub plain_local : (t : Node) → Fits t local_plain → Fits t local_alternatives
plain_local t (fits_first u a b f) = fits_first u _ _ f
plain_local t (fits_second u a b (fits_first v c d f)) = fits_second u _ _ (fits_first v _ _ f)
plain_local t (fits_second u a b (fits_second v c d (fits_first w x y f))) = fits_second u _ _ (fits_second v _ _ (fits_second w _ _ (fits_first w _ _ f)))
plain_local t (fits_second u a b (fits_second v c d (fits_second w x y f))) =
    fits_second u _ _ (fits_second v _ _ (fits_second w _ _ (fits_second w _ _ (fits_second w _ _ (fits_second w _ _ (fits_first w _ _ f))))))

-- what fits a list of values fits the rule
pub list_local : (t : Node) → Fits t local_list → Fits t local_alternatives
list_local t f = by_kind (one_of_two f)
  where
    by_kind : Fits t (typed_value "array" (any_number_of (rule local_value)))
        ⊎ Fits t (typed_value "set" (any_number_of (rule local_value))) → Fits t local_alternatives
    by_kind (inl f) = fits_second t _ _ (fits_second t _ _ (fits_first t _ _ f))
    by_kind (inr f) =
        fits_second t _ _ (fits_second t _ _ (fits_second t _ _ (fits_second t _ _ (fits_second t _ _ (fits_second t _ _ (fits_second t _ _ f))))))

-- what fits a list of pairs fits the rule
pub pairs_local : (t : Node) → Fits t local_pairs → Fits t local_alternatives
pairs_local t f = by_kind (one_of_two f)
  where
    by_kind : Fits t (typed_value "object" (any_number_of (rule local_pair))) ⊎ Fits t (typed_value "map" (any_number_of (rule local_pair)))
        → Fits t local_alternatives
    by_kind (inl f) = fits_second t _ _ (fits_second t _ _ (fits_second t _ _ (fits_second t _ _ (fits_second t _ _ (fits_first t _ _ f)))))
    by_kind (inr f) = fits_second t _ _ (fits_second t _ _ (fits_second t _ _ (fits_second t _ _ (fits_first t _ _ f))))

-- what fits the rule is a plain value, a list of values or a list of pairs
pub one_of_local : (t : Node) → Fits t local_alternatives → Fits t local_plain ⊎ (Fits t local_list ⊎ Fits t local_pairs)
one_of_local t (fits_first a σ τ f) = inl (fits_first a _ _ f)
one_of_local t (fits_second a σ τ (fits_first b u v f)) = inl (fits_second b _ _ (fits_first b _ _ f))
one_of_local t (fits_second a σ τ (fits_second b u v (fits_first c w x f))) = inr (inl (wider to_first f))
one_of_local t (fits_second a σ τ (fits_second b u v (fits_second c w x (fits_first d y z f)))) =
    inl (fits_second d _ _ (fits_second d _ _ (fits_first d _ _ f)))
one_of_local t (fits_second a σ τ (fits_second b u v (fits_second c w x (fits_second d y z (fits_first e p q f))))) = inr (inr (wider to_second f))
one_of_local t (fits_second a σ τ (fits_second b u v (fits_second c w x (fits_second d y z (fits_second e p q (fits_first g r s f)))))) =
    inr (inr (wider to_first f))
one_of_local t (fits_second a σ τ (fits_second b u v (fits_second c w x (fits_second d y z (fits_second e p q (fits_second g r s (fits_first h i j f))))))) =
    inl (fits_second h _ _ (fits_second h _ _ (fits_second h _ _ f)))
one_of_local t (fits_second a σ τ (fits_second b u v (fits_second c w x (fits_second d y z (fits_second e p q (fits_second g r s (fits_second h i j f))))))) =
    inr (inl (wider to_second f))

-- ---- no tree is of two of them

-- a list of values is no plain value
pub local_list_not_plain : (k : ListKind) (t : Node) → Fits (typed_tree (list_text k) t) local_plain → ⊥
local_list_not_plain Array t = misfits_by 20 refl
local_list_not_plain Set t = misfits_by 20 refl

-- a list of pairs is no plain value
pub local_pairs_not_plain : (k : PairsKind) (t : Node) → Fits (typed_tree (pairs_text k) t) local_plain → ⊥
local_pairs_not_plain Object t = misfits_by 20 refl
local_pairs_not_plain Map t = misfits_by 20 refl

-- a list of values is no list of pairs
pub local_list_not_pairs : (k : ListKind) (t : Node) → Fits (typed_tree (list_text k) t) local_pairs → ⊥
local_list_not_pairs Array t = misfits_by 20 refl
local_list_not_pairs Set t = misfits_by 20 refl

-- a list of pairs is no list of values
pub local_pairs_not_list : (k : PairsKind) (t : Node) → Fits (typed_tree (pairs_text k) t) local_list → ⊥
local_pairs_not_list Object t = misfits_by 20 refl
local_pairs_not_list Map t = misfits_by 20 refl

-- a string is no plain value
pub text_not_plain : (s : List ℕ) → Fits (node.text s) local_plain → ⊥
text_not_plain s = misfits_by 20 refl

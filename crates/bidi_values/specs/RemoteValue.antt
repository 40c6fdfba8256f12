-- Remote values: a plain one, a list of values or a list of pairs is what the rule says. After WebDriver BiDi, "The script.RemoteValue Type".
use Rattle.std.proofs.Common.{◌⊎◌, inl, inr, ℕ, List, codes, Option, Some, None, option_map, String, Global, string_bytes, refl}
use Rattle.bidi_tree.specs.Node as node
use Rattle.bidi_tree.specs.Node.{Node, Members, no_members, member, put}
use Rattle.bidi_shape.specs.Name.{remote_value, remote_pair, primitive, reg_exp_value, opaque}
use Rattle.bidi_shape.specs.Term.{Term, text, rule, any_number_of, closed_map, ◌or◌, ◌is◌and◌, ◌may_be◌and◌, the, Rows, no_more}
use Rattle.bidi_shape.specs.Profile.{held}
use Rattle.bidi_shape.specs.Fits.{Fits, fits_first, fits_second}
use Rattle.bidi_shape.specs.Parts.{put_part}
use Rattle.bidi_shape.proofs.FitsTest.{misfits_by}
use Rattle.bidi_values.specs.Kinds.{list_kind, list_text, pairs_kind, pairs_text}
use Rattle.bidi_values.specs.OptionalValue.{fits_bare, fits_full, bare_or_full}
use Rattle.bidi_values.specs.declared.kinds.ListKind.{ListKind}
use Rattle.bidi_values.specs.declared.kinds.ListKind.TheVariants.{Array, Set}
use Rattle.bidi_values.specs.declared.kinds.PairsKind.{PairsKind}
use Rattle.bidi_values.specs.declared.kinds.PairsKind.TheVariants.{Map, Object}

-- a value that the remote end keeps, by the term of its kind: its type, with an optional handle and internalId
-- example: `{"type":"symbol","handle":"h"}`
abbrev pub held_by : Term → Term
held_by kind = closed_map ("type" is kind and held no_more)

-- an array or a set without its values
abbrev pub bare_list : Term
bare_list = held_by list_kind

-- an object or a map without its pairs
abbrev pub bare_pairs : Term
bare_pairs = held_by pairs_kind

-- a regular expression that the remote end keeps
abbrev pub remote_reg_exp : Term
remote_reg_exp = closed_map (
    "type" is the "regexp" and
    "value" is rule reg_exp_value and held no_more)

-- a date that the remote end keeps
abbrev pub remote_date : Term
remote_date = closed_map (
    "type" is the "date" and
    "value" is text and held no_more)

-- a value that a message describes only by its type
abbrev pub remote_opaque : Term
remote_opaque = held_by (rule opaque)

-- the plain alternatives of the rule, among them lists and maps whose content is left out
abbrev pub remote_plain : Term
remote_plain = rule primitive or bare_list or bare_pairs or remote_reg_exp or remote_date or remote_opaque

-- a list of values: an array or a set with its values
abbrev pub remote_list : Term
remote_list = closed_map ("type" is list_kind and held ("value" is any_number_of (rule remote_value) and no_more))

-- a list of pairs: an object or a map with its pairs
abbrev pub remote_pairs : Term
remote_pairs = closed_map ("type" is pairs_kind and held ("value" is any_number_of (rule remote_pair) and no_more))

-- the six alternatives of the rule, in its order
abbrev pub remote_alternatives : Term
remote_alternatives =
    rule primitive
    or closed_map ("type" is list_kind and held ("value" may_be any_number_of (rule remote_value) and no_more))
    or closed_map ("type" is pairs_kind and held ("value" may_be any_number_of (rule remote_pair) and no_more))
    or remote_reg_exp or remote_date or remote_opaque

-- ---- the alternatives are these three

-- the rows of the members beside the `value` of an array or a set
abbrev pub beside_list : Rows
beside_list = "type" is list_kind and held no_more

-- the rows of the members beside the `value` of an object or a map
abbrev pub beside_pairs : Rows
beside_pairs = "type" is pairs_kind and held no_more

-- what fits a plain alternative fits the rule
pub plain_remote : (t : Node) → Fits t remote_plain → Fits t remote_alternatives
plain_remote t (fits_first a σ τ f) = fits_first a _ _ f
plain_remote t (fits_second a σ τ (fits_first b u v f)) =
    fits_second b _ _ (fits_first b _ _ (fits_bare beside_list (any_number_of (rule remote_value)) b refl f))
plain_remote t (fits_second a σ τ (fits_second b u v (fits_first c w x f))) =
    fits_second c _ _ (fits_second c _ _ (fits_first c _ _ (fits_bare beside_pairs (any_number_of (rule remote_pair)) c refl f)))
plain_remote t (fits_second a σ τ (fits_second b u v (fits_second c w x f))) = fits_second c _ _ (fits_second c _ _ (fits_second c _ _ f))

-- what fits a list of values fits the rule
pub list_remote : (t : Node) → Fits t remote_list → Fits t remote_alternatives
list_remote t f = fits_second t _ _ (fits_first t _ _ (fits_full beside_list (any_number_of (rule remote_value)) t f))

-- what fits a list of pairs fits the rule
pub pairs_remote : (t : Node) → Fits t remote_pairs → Fits t remote_alternatives
pairs_remote t f = fits_second t _ _ (fits_second t _ _ (fits_first t _ _ (fits_full beside_pairs (any_number_of (rule remote_pair)) t f)))

-- what fits the rule is a plain value, a list of values or a list of pairs
pub one_of_remote : (t : Node) → Fits t remote_alternatives → Fits t remote_plain ⊎ (Fits t remote_list ⊎ Fits t remote_pairs)
one_of_remote t (fits_first a σ τ f) = inl (fits_first a _ _ f)
one_of_remote t (fits_second a σ τ (fits_first b u v f)) = by_value (bare_or_full beside_list (any_number_of (rule remote_value)) b f)
  where
    by_value : Fits b bare_list ⊎ Fits b remote_list → Fits b remote_plain ⊎ (Fits b remote_list ⊎ Fits b remote_pairs)
    by_value (inl f) = inl (fits_second b _ _ (fits_first b _ _ f))
    by_value (inr f) = inr (inl f)
one_of_remote t (fits_second a σ τ (fits_second b u v (fits_first c w x f))) = by_value (bare_or_full beside_pairs (any_number_of (rule remote_pair)) c f)
  where
    by_value : Fits c bare_pairs ⊎ Fits c remote_pairs → Fits c remote_plain ⊎ (Fits c remote_list ⊎ Fits c remote_pairs)
    by_value (inl f) = inl (fits_second c _ _ (fits_second c _ _ (fits_first c _ _ f)))
    by_value (inr f) = inr (inr f)
one_of_remote t (fits_second a σ τ (fits_second b u v (fits_second c w x f))) = inl (fits_second c _ _ (fits_second c _ _ (fits_second c _ _ f)))

-- ---- no tree is of two of them

-- the map of a type, an optional handle and internalId, and other members
abbrev pub held_map : List ℕ → Option (String Global) → Option (String Global) → Members → Node
held_map tag handle internal_id others =
    node.map (put (codes "type") (node.text tag)
    (put_part (codes "handle") (option_map (λ s. node.text (string_bytes s)) handle)
    (put_part (codes "internalId") (option_map (λ s. node.text (string_bytes s)) internal_id) others)))

-- the same map with a member `value`
abbrev pub held_with_value : List ℕ → Option (String Global) → Option (String Global) → Node → Node
held_with_value tag handle internal_id t = held_map tag handle internal_id (member (codes "value") t no_members)

-- a list of values is no plain value
pub remote_list_not_plain : (k : ListKind) (h i : Option (String Global)) (t : Node) → Fits (held_with_value (list_text k) h i t) remote_plain → ⊥
remote_list_not_plain Array None None t = misfits_by 20 refl
remote_list_not_plain Array None (Some u) t = misfits_by 20 refl
remote_list_not_plain Array (Some s) None t = misfits_by 20 refl
remote_list_not_plain Array (Some s) (Some u) t = misfits_by 20 refl
remote_list_not_plain Set None None t = misfits_by 20 refl
remote_list_not_plain Set None (Some u) t = misfits_by 20 refl
remote_list_not_plain Set (Some s) None t = misfits_by 20 refl
remote_list_not_plain Set (Some s) (Some u) t = misfits_by 20 refl

-- a list of pairs is no plain value
pub remote_pairs_not_plain : (k : PairsKind) (h i : Option (String Global)) (t : Node) → Fits (held_with_value (pairs_text k) h i t) remote_plain → ⊥
remote_pairs_not_plain Object None None t = misfits_by 20 refl
remote_pairs_not_plain Object None (Some u) t = misfits_by 20 refl
remote_pairs_not_plain Object (Some s) None t = misfits_by 20 refl
remote_pairs_not_plain Object (Some s) (Some u) t = misfits_by 20 refl
remote_pairs_not_plain Map None None t = misfits_by 20 refl
remote_pairs_not_plain Map None (Some u) t = misfits_by 20 refl
remote_pairs_not_plain Map (Some s) None t = misfits_by 20 refl
remote_pairs_not_plain Map (Some s) (Some u) t = misfits_by 20 refl

-- a list of values is no list of pairs
pub remote_list_not_pairs : (k : ListKind) (h i : Option (String Global)) (t : Node) → Fits (held_with_value (list_text k) h i t) remote_pairs → ⊥
remote_list_not_pairs Array None None t = misfits_by 20 refl
remote_list_not_pairs Array None (Some u) t = misfits_by 20 refl
remote_list_not_pairs Array (Some s) None t = misfits_by 20 refl
remote_list_not_pairs Array (Some s) (Some u) t = misfits_by 20 refl
remote_list_not_pairs Set None None t = misfits_by 20 refl
remote_list_not_pairs Set None (Some u) t = misfits_by 20 refl
remote_list_not_pairs Set (Some s) None t = misfits_by 20 refl
remote_list_not_pairs Set (Some s) (Some u) t = misfits_by 20 refl

-- a list of pairs is no list of values
pub remote_pairs_not_list : (k : PairsKind) (h i : Option (String Global)) (t : Node) → Fits (held_with_value (pairs_text k) h i t) remote_list → ⊥
remote_pairs_not_list Object None None t = misfits_by 20 refl
remote_pairs_not_list Object None (Some u) t = misfits_by 20 refl
remote_pairs_not_list Object (Some s) None t = misfits_by 20 refl
remote_pairs_not_list Object (Some s) (Some u) t = misfits_by 20 refl
remote_pairs_not_list Map None None t = misfits_by 20 refl
remote_pairs_not_list Map None (Some u) t = misfits_by 20 refl
remote_pairs_not_list Map (Some s) None t = misfits_by 20 refl
remote_pairs_not_list Map (Some s) (Some u) t = misfits_by 20 refl

-- a string is no plain value
pub text_not_plain : (s : List ℕ) → Fits (node.text s) remote_plain → ⊥
text_not_plain s = misfits_by 20 refl

-- Worked examples of reasons in words, each by computation. Pointers after RFC 6901, 4 and 5.
use Rattle.std.proofs.Common.{◌≡◌, [], ◌∷◌, replicate, negsuc, true, Some, None, refl, codes}
use Rattle.std.specs.Fmt.{digits}
use Rattle.json.specs.Print.{escape_byte}
use Rattle.bidi_tree.specs.Node.{null, boolean, whole, odd, text, list, map, no_items, item, no_members, member}
use Rattle.bidi_shape.specs.Name.{target}
use Rattle.bidi_shape.specs.Term as term
use Rattle.bidi_blame.specs.Reason as step
use Rattle.bidi_blame.specs.Words.{pointer_text, wants_text, found_text}

-- ---- the place

-- the whole tree
pub no_steps : pointer_text [] ≡ codes ""
no_steps = refl

pub member_foo : pointer_text (step.member (codes "foo") ∷ []) ≡ codes "/foo"
member_foo = refl

-- the last step stands first in the list
pub first_item_of_foo : pointer_text (step.item 0 ∷ step.member (codes "foo") ∷ []) ≡ codes "/foo/0"
unfolding digits
first_item_of_foo = refl

-- the member with the empty name
pub member_with_no_name : pointer_text (step.member (codes "") ∷ []) ≡ codes "/"
member_with_no_name = refl

pub name_with_a_slash : pointer_text (step.member (codes "a/b") ∷ []) ≡ codes "/a~1b"
name_with_a_slash = refl

pub name_with_a_tilde : pointer_text (step.member (codes "m~n") ∷ []) ≡ codes "/m~0n"
name_with_a_tilde = refl

-- what looks like an escape is none
pub name_with_a_tilde_and_a_one : pointer_text (step.member (codes "~1") ∷ []) ≡ codes "/~01"
name_with_a_tilde_and_a_one = refl

-- everything else stands as it is
pub name_with_a_percent_sign : pointer_text (step.member (codes "c%d") ∷ []) ≡ codes "/c%d"
name_with_a_percent_sign = refl

pub name_with_a_backslash : pointer_text (step.member (codes "i\\j") ∷ []) ≡ codes "/i\\j"
name_with_a_backslash = refl

pub name_with_a_quote : pointer_text (step.member (codes "k\"l") ∷ []) ≡ codes "/k\"l"
name_with_a_quote = refl

pub name_of_a_blank : pointer_text (step.member (codes " ") ∷ []) ≡ codes "/ "
name_of_a_blank = refl

-- ---- what may stand there

pub nothing_is_wanted : wants_text [] ≡ codes "nothing"
nothing_is_wanted = refl

-- a text stands in quotes
pub texts_are_wanted : wants_text (term.either (term.the "root") (term.the "none") ∷ []) ≡ codes "\"root\" or \"none\""
unfolding escape_byte
texts_are_wanted = refl

-- each alternative is told once
pub each_is_told_once : wants_text (term.either term.text term.null ∷ term.text ∷ term.rule target ∷ []) ≡ codes "a string or null or Target"
each_is_told_once = refl

pub lists_are_wanted : wants_text (term.any_number_of term.text ∷ term.at_least_one term.text ∷ []) ≡ codes "an array or an array with at least one item"
lists_are_wanted = refl

-- ---- what stands there

pub nothing_is_found : found_text None ≡ codes "nothing"
nothing_is_found = refl

pub null_is_found : found_text (Some null) ≡ codes "null"
null_is_found = refl

pub true_is_found : found_text (Some (boolean true)) ≡ codes "true"
true_is_found = refl

pub number_is_found : found_text (Some (whole (negsuc 11))) ≡ codes "-12"
unfolding digits
number_is_found = refl

pub odd_is_found : found_text (Some odd) ≡ codes "a number with a fraction or out of range"
odd_is_found = refl

pub text_is_found : found_text (Some (text (codes "a\nb"))) ≡ codes "\"a\\nb\""
unfolding escape_byte
text_is_found = refl

pub long_text_is_found : found_text (Some (text (replicate 61 97))) ≡ codes "a string of 61 bytes"
unfolding digits
long_text_is_found = refl

pub empty_list_is_found : found_text (Some (list no_items)) ≡ codes "an empty array"
empty_list_is_found = refl

pub list_of_one_is_found : found_text (Some (list (item null no_items))) ≡ codes "an array of one item"
list_of_one_is_found = refl

pub list_of_two_is_found : found_text (Some (list (item null (item null no_items)))) ≡ codes "an array of 2 items"
unfolding digits
list_of_two_is_found = refl

pub empty_map_is_found : found_text (Some (map no_members)) ≡ codes "an empty object"
empty_map_is_found = refl

pub map_of_one_is_found : found_text (Some (map (member (codes "a") null no_members))) ≡ codes "an object of one member"
map_of_one_is_found = refl

pub map_of_two_is_found : found_text (Some (map (member (codes "a") null (member (codes "b") null no_members)))) ≡ codes "an object of 2 members"
unfolding digits
map_of_two_is_found = refl

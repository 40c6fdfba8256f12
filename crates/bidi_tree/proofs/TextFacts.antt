-- Worked examples of trees and texts: levels, compact texts and readings, each by computation. After RFC 8259.
use Rattle.std.proofs.Common.{◌≡◌, ℕ, zero, suc, ◌≤◌, pos, negsuc, true, List, [], ◌∷◌, ◌++◌, replicate, Option, Some, None, refl, arith}
use Rattle.std.specs.Prelude.{codes}
use Rattle.std.specs.Fmt.{digits}
use Rattle.serde_json.proofs.OnLiterals.{serde_json_on_literals}
use Rattle.bidi_tree.specs.Node.{Node, null, boolean, whole, odd, text, list, map, no_items, item, no_members, member, put, levels, IsWhole, IsWritable}
use Rattle.bidi_tree.specs.Text.{tree_of_text, compact_text}

-- ---- levels

-- n arrays within each other, with null inside
abbrev pub nested : ℕ → Node
nested zero = null
nested (suc n) = list (item (nested n) no_items)

-- null has no level
pub null_has_no_level : levels null ≡ 0
null_has_no_level = refl

-- the empty array has one level
pub empty_list_has_one_level : levels (list no_items) ≡ 1
empty_list_has_one_level = refl

-- the empty object has one level
pub empty_map_has_one_level : levels (map no_members) ≡ 1
empty_map_has_one_level = refl

-- `[1]` has as many levels as the empty array
pub list_of_a_number_has_one_level : levels (list (item (whole (pos 1)) no_items)) ≡ 1
list_of_a_number_has_one_level = refl

-- `[[]]` has two levels
pub list_of_the_empty_list_has_two_levels : levels (list (item (list no_items) no_items)) ≡ 2
list_of_the_empty_list_has_two_levels = refl

-- `{"a":[[]],"b":[]}` has three levels, because of its deepest member
pub deepest_member_counts : levels (map (member (codes "a") (list (item (list no_items) no_items)) (member (codes "b") (list no_items) no_members))) ≡ 3
deepest_member_counts = refl

-- 60 arrays within each other have at most 60 levels
pub sixty_levels_are_whole : IsWhole (nested 60) 60
sixty_levels_are_whole = (refl, omega arith)

-- 61 arrays within each other have more than 60 levels
pub sixty_one_levels_are_not_whole : IsWhole (nested 61) 60 → ⊥
sixty_one_levels_are_not_whole w = let too_deep : 61 ≤ 60 = w.1 in omega arith

-- 100 arrays within each other may be written
pub hundred_levels_are_writable : IsWritable (nested 100)
hundred_levels_are_writable = (refl, omega arith)

-- 101 arrays within each other may not be written
pub hundred_and_one_levels_are_not_writable : IsWritable (nested 101) → ⊥
hundred_and_one_levels_are_not_writable w = let too_deep : 101 ≤ 100 = w.1 in omega arith

-- a number that is not a whole number in range may not be written
pub odd_is_not_writable : IsWritable odd → ⊥
odd_is_not_writable w = cc

-- `[[1.5]]` may not be written, although the number is deep inside
pub odd_inside_is_not_writable : IsWritable (list (item (list (item odd no_items)) no_items)) → ⊥
odd_inside_is_not_writable w = cc

-- ---- compact texts

-- the bytes of U+FF61 and of U+1F600, which UTF-16 sorts the other way round
abbrev pub full_stop : List ℕ
full_stop = 0xef ∷ 0xbd ∷ 0xa1 ∷ []

abbrev pub face : List ℕ
face = 0xf0 ∷ 0x9f ∷ 0x98 ∷ 0x80 ∷ []

-- seven bytes have a short escape
pub short_escapes : compact_text (text (34 ∷ 92 ∷ 8 ∷ 12 ∷ 10 ∷ 13 ∷ 9 ∷ [])) ≡ codes "\"\\\"\\\\\\b\\f\\n\\r\\t\""
unfolding serde_json_on_literals
short_escapes = refl

-- every other byte below 32 has a long escape in lower case
pub long_escapes : compact_text (text (0 ∷ 11 ∷ 31 ∷ [])) ≡ codes "\"\\u0000\\u000b\\u001f\""
unfolding serde_json_on_literals
long_escapes = refl

-- a solidus, DEL and bytes that are not ASCII are not escaped
pub all_else_is_raw : compact_text (text (47 ∷ 127 ∷ 0xc3 ∷ 0xa9 ∷ [])) ≡ 34 ∷ 47 ∷ 127 ∷ 0xc3 ∷ 0xa9 ∷ 34 ∷ []
unfolding serde_json_on_literals
all_else_is_raw = refl

-- a name is escaped like a string
pub names_are_escaped : compact_text (map (member (10 ∷ []) null no_members)) ≡ codes "{\"\\n\":null}"
unfolding serde_json_on_literals
names_are_escaped = refl

-- each kind of tree is written without blanks
pub every_kind : compact_text (list
    (item null (item (boolean true) (item (whole (negsuc 6)) (item (text (codes "t")) (item (list no_items) (item (map no_members) no_items)))))))
    ≡ codes "[null,true,-7,\"t\",[],{}]"
unfolding serde_json_on_literals digits
every_kind = refl

-- members are written in byte order of their names
pub byte_order : compact_text (map (put face (whole (pos 2)) (put full_stop (whole (pos 1)) no_members)))
    ≡ codes "{\"" ++ (full_stop ++ (codes "\":1,\"" ++ (face ++ codes "\":2}")))
unfolding serde_json_on_literals digits
byte_order = refl

-- the order does not depend on which member was put in first
pub byte_order_again : put full_stop (whole (pos 1)) (put face (whole (pos 2)) no_members) ≡ put face (whole (pos 2)) (put full_stop (whole (pos 1)) no_members)
byte_order_again = refl

-- ---- readings

abbrev pub one_member : Node → Option Node
one_member n = Some (map (member (codes "a") n no_members))

-- the last of repeated names counts
pub last_value_stays : tree_of_text None (codes "{\"a\":1,\"a\":2}") ≡ one_member (whole (pos 2))
unfolding serde_json_on_literals
last_value_stays = refl

-- members are sorted as they are read
pub names_are_sorted : tree_of_text None (codes "{\"b\":1,\"a\":2}")
    ≡ Some (map (member (codes "a") (whole (pos 2)) (member (codes "b") (whole (pos 1)) no_members)))
unfolding serde_json_on_literals
names_are_sorted = refl

-- a fraction is Odd, even `.0`
pub fraction_is_odd : tree_of_text None (codes "1.0") ≡ Some odd
unfolding serde_json_on_literals
fraction_is_odd = refl

-- a number with an exponent is Odd
pub exponent_is_odd : tree_of_text None (codes "1e2") ≡ Some odd
unfolding serde_json_on_literals
exponent_is_odd = refl

-- minus zero is Odd
pub minus_nought_is_odd : tree_of_text None (codes "-0") ≡ Some odd
unfolding serde_json_on_literals
minus_nought_is_odd = refl

-- the greatest js-uint is a whole number
pub greatest_whole_number : tree_of_text None (codes "9007199254740991") ≡ Some (whole (pos 9007199254740991))
unfolding serde_json_on_literals
greatest_whole_number = refl

-- the next greater number is Odd
pub past_the_greatest_is_odd : tree_of_text None (codes "9007199254740992") ≡ Some odd
unfolding serde_json_on_literals
past_the_greatest_is_odd = refl

-- the least js-int is a whole number
pub least_whole_number : tree_of_text None (codes "-9007199254740991") ≡ Some (whole (negsuc 9007199254740990))
unfolding serde_json_on_literals
least_whole_number = refl

-- the next smaller number is Odd
pub before_the_least_is_odd : tree_of_text None (codes "-9007199254740992") ≡ Some odd
unfolding serde_json_on_literals
before_the_least_is_odd = refl

-- a number past 64 bits is Odd
pub past_64_bits_is_odd : tree_of_text None (codes "18446744073709551616") ≡ Some odd
unfolding serde_json_on_literals
past_64_bits_is_odd = refl

-- a number too large for a float has no tree
pub too_large_for_a_float : tree_of_text None (codes "1e400") ≡ None
unfolding serde_json_on_literals
too_large_for_a_float = refl

-- a number that is not too large for a float is Odd, however large it is
pub large_float_is_odd : tree_of_text None (codes "1e308") ≡ Some odd
unfolding serde_json_on_literals
large_float_is_odd = refl

-- a number is Odd, however small it is
pub small_float_is_odd : tree_of_text None (codes "1e-400") ≡ Some odd
unfolding serde_json_on_literals
small_float_is_odd = refl

-- a value that a later one replaces is still read
pub discarded_value_is_read : tree_of_text None (codes "{\"a\":1e400,\"a\":1}") ≡ None
unfolding serde_json_on_literals
discarded_value_is_read = refl

-- an Odd that a later value replaces has no effect on the tree
pub discarded_value_does_not_count : tree_of_text None (codes "{\"a\":1.5,\"a\":1}") ≡ one_member (whole (pos 1))
unfolding serde_json_on_literals
discarded_value_does_not_count = refl

-- a text within its limit has its tree
pub within_the_limit : tree_of_text (Some 4) (codes "null") ≡ Some null
unfolding serde_json_on_literals
within_the_limit = refl

-- a text past its limit has none
pub past_the_limit : tree_of_text (Some 3) (codes "null") ≡ None
past_the_limit = refl

-- a text that breaks off has no tree
pub broken_off : tree_of_text None (codes "{\"id\":1") ≡ None
unfolding serde_json_on_literals
broken_off = refl

-- a raw control character in a string is not JSON
pub raw_control_character : tree_of_text None (34 ∷ 10 ∷ 34 ∷ []) ≡ None
unfolding serde_json_on_literals
raw_control_character = refl

-- a lone surrogate is not JSON
pub lone_surrogate : tree_of_text None (codes "\"\\ud800\"") ≡ None
unfolding serde_json_on_literals
lone_surrogate = refl

-- a byte order mark is not JSON
pub byte_order_mark : tree_of_text None (0xef ∷ 0xbb ∷ 0xbf ∷ 49 ∷ []) ≡ None
unfolding serde_json_on_literals
byte_order_mark = refl

-- blanks around a text are ignored
pub blanks_around : tree_of_text None (32 ∷ 9 ∷ 10 ∷ 13 ∷ 49 ∷ 32 ∷ []) ≡ Some (whole (pos 1))
unfolding serde_json_on_literals
blanks_around = refl

-- n opening brackets, `null`, and n closing brackets
abbrev pub nested_text : ℕ → List ℕ
nested_text n = replicate n 91 ++ (codes "null" ++ replicate n 93)

-- 127 levels are read
pub deepest_that_is_read : tree_of_text None (nested_text 127) ≡ Some (nested 127)
unfolding serde_json_on_literals
deepest_that_is_read = refl

-- 128 levels are not read
pub one_level_too_deep : tree_of_text None (nested_text 128) ≡ None
unfolding serde_json_on_literals
one_level_too_deep = refl

-- the tree of the shortest command for session.status
abbrev pub status_tree : Node
status_tree =
    map (member (codes "id") (whole (pos 1)) (member (codes "method") (text (codes "session.status")) (member (codes "params") (map no_members) no_members)))

-- this text has 46 bytes, and is read if 46 are allowed
pub status_command : tree_of_text (Some 46) (codes "{\"id\":1,\"method\":\"session.status\",\"params\":{}}") ≡ Some status_tree
unfolding serde_json_on_literals
status_command = refl

-- this text is not read if 45 bytes are allowed
pub status_command_past_the_limit : tree_of_text (Some 45) (codes "{\"id\":1,\"method\":\"session.status\",\"params\":{}}") ≡ None
status_command_past_the_limit = refl

-- this text is the compact text of its tree
pub status_command_written : compact_text status_tree ≡ codes "{\"id\":1,\"method\":\"session.status\",\"params\":{}}"
unfolding serde_json_on_literals digits
status_command_written = refl

-- A reason in words: the place as a JSON Pointer, what may stand there, and what does. Pointers after RFC 6901, 3 and 4; the words are this project's own.
use Rattle.std.specs.Prelude.{ℕ, suc, List, [], ◌∷◌, ◌++◌, length, flat_map, codes, decimal, bytes_eq, nat_le, ◌==◌, Bool, true, false, Option, Some, None, if◌then◌else◌}
use Rattle.std.specs.Fmt.{signed_decimal}
use Rattle.std.specs.List.{list_any}
use Rattle.json.specs.Print.{quoted}
use Rattle.bidi_tree.specs.Node as node
use Rattle.bidi_tree.specs.Node.{Node, Members}
use Rattle.bidi_shape.specs.Name.{Name}
use Rattle.bidi_shape.specs.Term.{Term, exactly, text, bool, null, js_uint, js_int, any, list_of, pair_of, map_of, either, rule, capped}
use Rattle.bidi_shape.specs.Profile.{term_of}
use Rattle.bidi_shape.specs.Fits.{count}
use Rattle.bidi_rules.specs.Names.{rule_text}
use Rattle.bidi_blame.specs.Reason.{PathStep, member, item}

-- ---- the place

-- `~0` stands for `~` in a name, `~1` for `/`, and every other byte for itself
abbrev pub escaped_byte : ℕ → List ℕ
escaped_byte b = if b == 126 then codes "~0" else if b == 47 then codes "~1" else b ∷ []

-- a name with `~0` for each `~` and `~1` for each `/`
abbrev pub escaped : List ℕ → List ℕ
escaped = flat_map escaped_byte

-- the name of a member, or the number of an item
abbrev pub step_text : PathStep → List ℕ
step_text (member k) = escaped k
step_text (item i) = decimal i

-- a slash and its text for each step; the first step of the list is the last one of the pointer
-- example: `/params/a~1b/0`
abbrev pub pointer_text : List PathStep → List ℕ
pointer_text [] = []
pointer_text (s ∷ ss) = pointer_text ss ++ 47 ∷ step_text s

-- ---- what may stand there

-- an array with so many items at least
abbrev pub list_words : ℕ → List ℕ
list_words least = if least == 0 then codes "an array" else codes "an array with at least one item"

-- whether a term says which members a map has
abbrev pub is_map : Term → Bool
is_map (map_of rows o) = true
is_map (capped τ) = is_map τ
is_map τ = false

-- a rule by its name; a rule that is an object is called an object
abbrev pub rule_words : Name → List ℕ
rule_words n = if is_map (term_of n) then codes "an object" else rule_text n

-- the words of a term, and of each alternative where it is a choice
abbrev pub alternatives : Term → List (List ℕ)
alternatives (exactly s) = quoted s ∷ []
alternatives text = codes "a string" ∷ []
alternatives bool = codes "true or false" ∷ []
alternatives null = codes "null" ∷ []
alternatives js_uint = codes "a whole number from 0 to 9007199254740991" ∷ []
alternatives js_int = codes "a whole number from -9007199254740991 to 9007199254740991" ∷ []
alternatives any = codes "whole numbers in range and at most 60 levels" ∷ []
alternatives (list_of least τ) = list_words least ∷ []
alternatives (pair_of σ τ) = codes "an array of two items" ∷ []
alternatives (map_of rows o) = codes "an object" ∷ []
alternatives (either σ τ) = alternatives σ ++ alternatives τ
alternatives (rule n) = rule_words n ∷ []
alternatives (capped τ) = codes "at most 60 levels" ∷ []

-- words once more, unless they are among those told so far
abbrev pub told_with : List (List ℕ) → List ℕ → List (List ℕ)
told_with told w = if list_any (bytes_eq w) told then told else told ++ w ∷ []

-- the words told so far, and each of these once
abbrev pub each_once : List (List ℕ) → List (List ℕ) → List (List ℕ)
each_once told [] = told
each_once told (w ∷ ws) = each_once (told_with told w) ws

-- ` or ` before each
abbrev pub or_each : List (List ℕ) → List ℕ
or_each [] = []
or_each (w ∷ ws) = (codes " or " ++ w) ++ or_each ws

-- the words with ` or ` between them; `nothing` where there are none
abbrev pub choice_text : List (List ℕ) → List ℕ
choice_text [] = codes "nothing"
choice_text (w ∷ ws) = w ++ or_each ws

-- the words of each alternative once, in their order
abbrev pub choices : List Term → List (List ℕ)
choices τs = each_once [] (flat_map alternatives τs)

-- whether an object is one of them
abbrev pub has_map : List Term → Bool
has_map τs = list_any (bytes_eq (codes "an object")) (choices τs)

-- whether these words are the only alternative
abbrev pub is_only : List ℕ → List (List ℕ) → Bool
is_only words (w ∷ []) = bytes_eq words w
is_only words ws = false

-- the alternatives as one text
-- example: `"tab" or "window"`
abbrev pub wants_text : List Term → List ℕ
wants_text τs = choice_text (choices τs)

-- ---- what stands there

-- the most bytes of a string that is shown whole
abbrev pub longest_quoted : ℕ
longest_quoted = 60

-- a short string as JSON writes it, or how many bytes it has
abbrev pub text_words : List ℕ → List ℕ
text_words s = if nat_le (length s) longest_quoted then quoted s else codes "a string of " ++ decimal (length s) ++ codes " bytes"

-- an array or an object by how many parts it has
abbrev pub count_words : List ℕ → List ℕ → ℕ → List ℕ
count_words kind part n =
    if n == 0 then codes "an empty " ++ kind
    else if n == 1 then codes "an " ++ kind ++ codes " of one " ++ part
    else codes "an " ++ kind ++ codes " of " ++ decimal n ++ 32 ∷ part ++ codes "s"

-- the number of members
abbrev pub count_members : Members → ℕ
count_members node.no_members = 0
count_members (node.member k t ms) = suc (count_members ms)

-- what is at a place, in words
abbrev pub node_text : Node → List ℕ
node_text node.null = codes "null"
node_text (node.boolean b) = if b then codes "true" else codes "false"
node_text (node.whole z) = signed_decimal z
node_text node.odd = codes "a number with a fraction or out of range"
node_text (node.text s) = text_words s
node_text (node.list ts) = count_words (codes "array") (codes "item") (count ts)
node_text (node.map ms) = count_words (codes "object") (codes "member") (count_members ms)

-- `nothing` where nothing stands
-- example: `an array of 2 items`
abbrev pub found_text : Option Node → List ℕ
found_text None = codes "nothing"
found_text (Some t) = node_text t

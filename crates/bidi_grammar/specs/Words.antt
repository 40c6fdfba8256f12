-- A reason in words: the place as a JSON Pointer, what may stand there, and what does. Pointers after RFC 6901, 3 and 4; the words are this project's own.
use Rattle.std.specs.Prelude.{◌≡◌, ℕ, suc, List, [], ◌∷◌, ◌++◌, length, flat_map, codes, decimal, bytes_eq, nat_le, ◌==◌, Bool, true, false, Option, Some, None, if◌then◌else◌}
use Rattle.std.specs.Fmt.{signed_decimal}
use Rattle.std.specs.List.{list_any}
use Rattle.json.specs.Json as json
use Rattle.json.specs.Json.{Json, Members, no_members, member}
use Rattle.json.specs.Print.{quoted}
use Rattle.bidi_grammar.specs.Term.{Bound, unbounded, including, excluding, Term, exactly, text, bool, truth, null, whole, number, any, list_of, tuple_of, map_of, either, rule, nothing, Grammar, term_at}
use Rattle.bidi_grammar.specs.Fits.{count}
use Rattle.bidi_grammar.specs.Reason as step
use Rattle.bidi_grammar.specs.Reason.{PathStep}

-- ---- the place

-- `~0` stands for `~` in a name, `~1` for `/`, and every other byte for itself
abbrev pub escaped_byte : ℕ → List ℕ
escaped_byte b = if b == 126 then codes "~0" else if b == 47 then codes "~1" else b ∷ []

-- a name with `~0` for each `~` and `~1` for each `/`
abbrev pub escaped : List ℕ → List ℕ
escaped = flat_map escaped_byte

-- the name of a member, or the number of an item
abbrev pub step_text : PathStep → List ℕ
step_text (step.member k) = escaped k
step_text (step.item i) = decimal i

-- a slash and its text for each step; the first step of the list is the last one of the pointer
-- example: `/params/a~1b/0`
abbrev pub pointer_text : List PathStep → List ℕ
pointer_text [] = []
pointer_text (s ∷ ss) = pointer_text ss ++ 47 ∷ step_text s

-- ---- what stands there

-- the most bytes of a string or a number that is shown whole
abbrev pub longest_shown : ℕ
longest_shown = 60

-- a short string as JSON writes it, or how many bytes it has
abbrev pub text_words : List ℕ → List ℕ
text_words s = if nat_le (length s) longest_shown then quoted s else codes "a string of " ++ decimal (length s) ++ codes " bytes"

-- a short number as it is written, or how many bytes it has
abbrev pub number_words : List ℕ → List ℕ
number_words s = if nat_le (length s) longest_shown then s else codes "a number of " ++ decimal (length s) ++ codes " bytes"

-- an array or an object by how many parts it has
abbrev pub count_words : List ℕ → List ℕ → ℕ → List ℕ
count_words kind part n =
    if n == 0 then codes "an empty " ++ kind
    else if n == 1 then codes "an " ++ kind ++ codes " of one " ++ part
    else codes "an " ++ kind ++ codes " of " ++ decimal n ++ 32 ∷ part ++ codes "s"

-- the number of members
abbrev pub count_members : Members → ℕ
count_members no_members = 0
count_members (member k t ms) = suc (count_members ms)

-- true or false
abbrev pub bool_words : Bool → List ℕ
bool_words b = if b then codes "true" else codes "false"

-- what is at a place, in words
abbrev pub value_text : Json → List ℕ
value_text json.null = codes "null"
value_text (json.boolean b) = bool_words b
value_text (json.number s) = number_words s
value_text (json.string s) = text_words s
value_text (json.array ts) = count_words (codes "array") (codes "item") (count ts)
value_text (json.object ms) = count_words (codes "object") (codes "member") (count_members ms)

-- `nothing` where nothing stands
-- example: `an array of 2 items`
abbrev pub found_text : Option Json → List ℕ
found_text None = codes "nothing"
found_text (Some t) = value_text t

-- ---- what may stand there

-- the lower end of a range of numbers
abbrev pub from_words : Bound → List ℕ
from_words unbounded = []
from_words (including s) = codes " from " ++ s
from_words (excluding s) = codes " above " ++ s

-- the upper end of a range of numbers
abbrev pub to_words : Bound → List ℕ
to_words unbounded = []
to_words (including s) = codes " up to " ++ s
to_words (excluding s) = codes " below " ++ s

-- an array with so many items at least
abbrev pub list_words : ℕ → List ℕ
list_words least =
    if least == 0 then codes "an array"
    else if least == 1 then codes "an array with at least one item"
    else codes "an array with at least " ++ decimal least ++ codes " items"

-- whether a term says which members an object has
abbrev pub is_map : Term → Bool
is_map (map_of rows rest) = true
is_map τ = false

-- a rule by its name; a rule that is an object is called an object
abbrev pub rule_words : List ℕ → Term → List ℕ
rule_words k τ = if is_map τ then codes "an object" else k

-- the words of a term that is no choice
abbrev pub term_words : Grammar → Term → List ℕ
term_words g (exactly s) = quoted s
term_words g text = codes "a string"
term_words g bool = codes "true or false"
term_words g (truth b) = bool_words b
term_words g null = codes "null"
term_words g (whole a b) = codes "a whole number from " ++ (signed_decimal a ++ (codes " to " ++ signed_decimal b))
term_words g (number a b) = codes "a number" ++ from_words a ++ to_words b
term_words g any = codes "any value"
term_words g (list_of least n) = list_words least
term_words g (tuple_of ns) = count_words (codes "array") (codes "item") (length ns)
term_words g (map_of rows rest) = codes "an object"
term_words g (either m n) = codes "nothing"
term_words g (rule k n) = rule_words k (term_at g n)
term_words g nothing = codes "nothing"

-- the places of the two terms of a choice
abbrev pub choice_in : Term → Option (ℕ × ℕ)
choice_in (either m n) = Some (m, n)
choice_in τ = None

-- the words of each alternative of a term, in their order
pub data Alternatives (g : Grammar) : Term → List (List ℕ) → Type 0 where
  only : (τ : Term) → choice_in τ ≡ None → Alternatives g τ (term_words g τ ∷ [])
  of_both : (m n : ℕ) (us vs : List (List ℕ)) → Alternatives g (term_at g m) us → Alternatives g (term_at g n) vs → Alternatives g (either m n) (us ++ vs)

-- the same of the terms at some places
pub data AllAlternatives (g : Grammar) : List ℕ → List (List ℕ) → Type 0 where
  no_place : AllAlternatives g [] []
  a_place : (n : ℕ) (ns : List ℕ) (us vs : List (List ℕ)) → Alternatives g (term_at g n) us → AllAlternatives g ns vs → AllAlternatives g (n ∷ ns) (us ++ vs)

-- words once more, unless they are among those told so far
abbrev pub told_with : List (List ℕ) → List ℕ → List (List ℕ)
told_with told w = if list_any (bytes_eq w) told then told else told ++ w ∷ []

-- the words told so far, and each of these once
abbrev pub each_once : List (List ℕ) → List (List ℕ) → List (List ℕ)
each_once told [] = told
each_once told (w ∷ ws) = each_once (told_with told w) ws

-- ` or ` before each
abbrev pub or_each : List (List ℕ) → List ℕ
or_each [] = []
or_each (w ∷ ws) = (codes " or " ++ w) ++ or_each ws

-- the words with ` or ` between them; `nothing` where there are none
-- example: `"tab" or "window"`
abbrev pub choice_text : List (List ℕ) → List ℕ
choice_text [] = codes "nothing"
choice_text (w ∷ ws) = w ++ or_each ws

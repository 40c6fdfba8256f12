-- What is wrong at a place where a tree does not fit, in words. The kinds and their words are this project's own.
use Rattle.std.specs.Prelude.{ℕ, List, [], ◌∷◌, ◌++◌, ◌&&◌, ◌==◌, length, nat_le, nat_lt, Bool, true, false, Option, Some, None, is_some, is_none, unwrap_or, codes, decimal, if◌then◌else◌}
use Rattle.std.specs.Option.{option_map_or}
use Rattle.bidi_tree.specs.Node as node
use Rattle.bidi_tree.specs.Node.{Node, get_member, levels}
use Rattle.bidi_shape.specs.Name.{Name, command, message, event, local_value, target, unsubscribe_parameters}
use Rattle.bidi_blame.specs.Reason.{Reason}
use Rattle.bidi_blame.specs.Words.{choices, found_text, has_map, wants_text}
use Rattle.bidi_remarks.specs.Beyond.{is_any}
use Rattle.bidi_remarks.specs.declared.claim.Kind.{Kind}
use Rattle.bidi_remarks.specs.declared.claim.Kind.TheVariants.{Wrong, Missing, Unexpected, Deep, Keyless}
use Rattle.bidi_shape.specs.Limits.{most_levels}

-- how many levels of nesting stand there
abbrev pub levels_of : Option Node → ℕ
levels_of o = option_map_or levels o 0

-- too many levels stand there
abbrev pub is_deep : Reason → Bool
is_deep r = is_any (choices r.wants) && nat_lt most_levels (levels_of r.found)

-- a map stands there, and has no member of this name
abbrev pub lacks : List ℕ → Option Node → Bool
lacks k (Some (node.map ms)) = is_none (get_member k ms)
lacks k o = false

-- the words for a map that has none of the members by which the alternatives of its rule are told apart
abbrev pub keyless : Option Name → Option Node → Option (List ℕ)
keyless (Some local_value) o = if lacks (codes "type") o then Some (codes "a LocalValue: \"type\" is missing") else None
keyless (Some target) o = if lacks (codes "context") o && lacks (codes "realm") o then Some (codes "a Target: \"context\" or \"realm\" is missing") else None
keyless (Some unsubscribe_parameters) o =
    if lacks (codes "subscriptions") o && lacks (codes "events") o then Some (codes "UnsubscribeParameters: \"subscriptions\" or \"events\" is missing") else None
keyless n o = None

-- the same where a map may stand
abbrev pub keyless_words : Reason → Option (List ℕ)
keyless_words r = if has_map r.wants then keyless r.named r.found else None

-- what is wrong at a place: nothing stands there, or nothing may; too many levels do; a map that has no key; or else something that may not
abbrev pub kind_from : Option Node → Bool → Bool → Bool → Kind
kind_from None wants_nothing deep no_key = Missing
kind_from (Some t) wants_nothing deep no_key =
    if wants_nothing then Unexpected else if deep then Deep else if no_key then Keyless else Wrong

-- the form of the claim that a reason gives
abbrev pub kind_of : Reason → Kind
kind_of r = kind_from r.found (length (choices r.wants) == 0) (is_deep r) (is_some (keyless_words r))

-- what the names of a rule's long choice are
abbrev pub names_of : Option Name → List ℕ
names_of (Some command) = codes " commands"
names_of (Some message) = codes " events"
names_of (Some event) = codes " events"
names_of n = codes " names"

-- a choice of more than six is told by how many there are
abbrev pub long_choice : Option Name → ℕ → Option (List ℕ)
long_choice named count = if nat_lt 6 count then Some (codes "one of " ++ decimal count ++ names_of named) else None

-- what may stand there, in short
abbrev pub in_short : Kind → Option (List ℕ) → Option (List ℕ) → Option (List ℕ)
in_short Deep no_key long = Some (codes "at most 60")
in_short Keyless no_key long = no_key
in_short kind no_key long = long

-- what may be at the place, with a long choice shortened
abbrev pub short_text : Reason → List ℕ
short_text r = unwrap_or (in_short (kind_of r) (keyless_words r) (long_choice r.named (length (choices r.wants)))) (wants_text r.wants)

-- the most levels of nesting that are counted
abbrev pub most_counted : ℕ
most_counted = 1000

-- so many, if they are not too many to count
abbrev pub counted : ℕ → Option ℕ
counted n = if nat_le n most_counted then Some n else None

-- so many levels of nesting, in words
abbrev pub level_words : ℕ → List ℕ
level_words n = option_map_or (λ m. decimal m ++ codes " levels of nesting") (counted n) (codes "more than 1000 levels of nesting")

-- what stands there
abbrev pub has_text : Kind → Option Node → List ℕ
has_text Deep o = level_words (levels_of o)
has_text kind o = found_text o

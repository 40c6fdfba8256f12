-- What the profile does not have, by name. After WebDriver BiDi, "The session.new Command", "The session.subscribe Command" and "The script.ContextTarget Type".
use Rattle.std.specs.Prelude.{ℕ, ◌==◌, Bool, false, not, ◌&&◌, ◌||◌, nat_le, if◌then◌else◌, List, [], ◌∷◌, length, codes, bytes_eq, Option, Some, None}
use Rattle.std.specs.List.{list_any, list_all}
use Rattle.std.specs.Char.{is_ascii_alphanumeric}
use Rattle.std.specs.Option.{option_and_then}
use Rattle.bidi_tree.specs.Node as tree
use Rattle.bidi_tree.specs.Node.{Node, null, boolean, whole, odd, text, list}
use Rattle.bidi_lenient.specs.Methods.{text_at}

-- the name is one of these
abbrev pub is_among : List (List ℕ) → List ℕ → Bool
is_among names name = list_any (bytes_eq name) names

-- ---- capabilities

-- the capabilities whose value is a Boolean
unfoldable pub boolean_capabilities : List (List ℕ)
boolean_capabilities = codes "acceptInsecureCerts" ∷ codes "setWindowRect" ∷ codes "strictFileInteractability" ∷ codes "webSocketUrl" ∷ []

-- the capabilities whose value is a string
unfoldable pub string_capabilities : List (List ℕ)
string_capabilities =
    codes "browserName"
    ∷ codes "browserVersion"
    ∷ codes "pageLoadStrategy"
    ∷ codes "platformName"
    ∷ codes "unhandledPromptBehavior"
    ∷ []

-- the capabilities whose value is an object; that of the last may also be a string
unfoldable pub object_capabilities : List (List ℕ)
object_capabilities = codes "proxy" ∷ codes "timeouts" ∷ codes "unhandledPromptBehavior" ∷ []

-- the name is that of a capability whose value is a Boolean
abbrev pub is_boolean_capability : List ℕ → Bool
is_boolean_capability name = is_among boolean_capabilities name

-- the name is that of a capability whose value is a string
abbrev pub is_string_capability : List ℕ → Bool
is_string_capability name = is_among string_capabilities name

-- the name is that of a capability whose value is an object
abbrev pub is_object_capability : List ℕ → Bool
is_object_capability name = is_among object_capabilities name

-- the capability of this name is left out with this value, which is of its kind
-- example: `"webSocketUrl":true` is left out, `"webSocketUrl":"x"` is not
abbrev pub is_capability : List ℕ → Node → Bool
is_capability name null = false
is_capability name (boolean b) = is_boolean_capability name
is_capability name (whole z) = false
is_capability name odd = false
is_capability name (text s) = is_string_capability name
is_capability name (list ts) = false
is_capability name (tree.map ms) = is_object_capability name

-- ---- names of modules and events

-- the modules and events of the profile
unfoldable pub profile : List (List ℕ)
profile =
    codes "browser"
    ∷ codes "browsingContext"
    ∷ codes "browsingContext.contextCreated"
    ∷ codes "browsingContext.contextDestroyed"
    ∷ codes "browsingContext.domContentLoaded"
    ∷ codes "browsingContext.load"
    ∷ codes "browsingContext.navigationStarted"
    ∷ codes "log"
    ∷ codes "log.entryAdded"
    ∷ codes "script"
    ∷ codes "script.realmCreated"
    ∷ codes "script.realmDestroyed"
    ∷ codes "session"
    ∷ []

-- the profile has a module or an event of this name
abbrev pub is_of_profile : List ℕ → Bool
is_of_profile name = is_among profile name

-- the byte is a letter, a digit, `.`, `:`, `-` or `_`
abbrev pub is_name_byte : ℕ → Bool
is_name_byte b = is_ascii_alphanumeric b || (b == 46) || (b == 58) || (b == 45) || (b == 95)

-- the text has 1 to 255 bytes
abbrev pub is_of_name_length : List ℕ → Bool
is_of_name_length s = not (length s == 0) && nat_le (length s) 255

-- the text is a name: 1 to 255 such bytes
abbrev pub is_name : List ℕ → Bool
is_name s = is_of_name_length s && list_all is_name_byte s

-- the text is a name that the profile does not have
abbrev pub is_held : List ℕ → Bool
is_held s = is_name s && not (is_of_profile s)

-- the text has a dot
abbrev pub has_dot : List ℕ → Bool
has_dot s = list_any (λ b. b == 46) s

-- what a name is that of: an event if it has a dot, else a module
abbrev pub kind_of : List ℕ → List ℕ
kind_of s = if has_dot s then codes "event" else codes "module"

-- ---- sandboxes

-- the member of a target with this name and this value is a sandbox that is left out: a string that is not empty
abbrev pub is_sandbox : List ℕ → Node → Bool
is_sandbox name null = false
is_sandbox name (boolean b) = false
is_sandbox name (whole z) = false
is_sandbox name odd = false
is_sandbox name (text s) = bytes_eq name (codes "sandbox") && not (length s == 0)
is_sandbox name (list ts) = false
is_sandbox name (tree.map ms) = false

-- the text, or None if it is empty
abbrev pub non_empty : List ℕ → Option (List ℕ)
non_empty s = if length s == 0 then None else Some s

-- the name of the sandbox of a target, or None if it has none that is left out
abbrev pub sandbox_in : Node → Option (List ℕ)
sandbox_in t = option_and_then non_empty (text_at (codes "sandbox") t)

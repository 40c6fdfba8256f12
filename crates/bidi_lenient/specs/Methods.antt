-- The methods of commands that may be eased. After WebDriver BiDi, "Protocol".
use Rattle.std.specs.Prelude.{ℕ, ◌⊎◌, if◌then◌else◌, List, [], ◌∷◌, codes, bytes_eq, Option, Some, None}
use Rattle.std.specs.Option.{option_and_then}
use Rattle.std.specs.Str.Iter.{HasSubslice}
use Rattle.bidi_tree.specs.Kind.{text_in}
use Rattle.bidi_tree.specs.Node.{Node, get_of}
use Rattle.bidi_lenient.specs.declared.method.Method.{Method}
use Rattle.bidi_lenient.specs.declared.method.Method.TheVariants.{New, Subscribe, Unsubscribe, Evaluate, CallFunction, Disown, Close}

-- the names of the methods of commands that may be eased
unfoldable pub methods : List (List ℕ)
methods =
    codes "session.new"
    ∷ codes "session.subscribe"
    ∷ codes "session.unsubscribe"
    ∷ codes "script.evaluate"
    ∷ codes "script.callFunction"
    ∷ codes "script.disown"
    ∷ codes "browser.close"
    ∷ []

-- one of these names occurs in the text
abbrev pub HasAny : List (List ℕ) → List ℕ → Type 0
HasAny [] s = ⊥
HasAny (name ∷ names) s = HasSubslice s name ⊎ HasAny names s

-- the name of one of these methods occurs in the text
abbrev pub IsAbout : List ℕ → Type 0
IsAbout s = HasAny methods s

-- the method of this name, or None for any other method
abbrev pub method_named : List ℕ → Option Method
method_named name =
    if bytes_eq name (codes "session.new") then Some New
    else if bytes_eq name (codes "session.subscribe") then Some Subscribe
    else if bytes_eq name (codes "session.unsubscribe") then Some Unsubscribe
    else if bytes_eq name (codes "script.evaluate") then Some Evaluate
    else if bytes_eq name (codes "script.callFunction") then Some CallFunction
    else if bytes_eq name (codes "script.disown") then Some Disown
    else if bytes_eq name (codes "browser.close") then Some Close
    else None

-- the string at a name of an object, or None if there is none
abbrev pub text_at : List ℕ → Node → Option (List ℕ)
text_at k t = option_and_then text_in (get_of k t)

-- the method of a command, or None if it is not one of these
abbrev pub method_in : Node → Option Method
method_in t = option_and_then method_named (text_at (codes "method") t)

-- The capabilities that a client requests: which are well formed, and which match. After WebDriver BiDi, "The session.CapabilitiesRequest Type"; the browser's are this project's own.
use Prim.Native.String.{String}
use Rattle.std.specs.Prelude.{ℕ, ◌==◌, Bool, true, false, not, ◌&&◌, if◌then◌else◌, List, [], ◌∷◌}
use Rattle.std.specs.Prelude.{length, map, codes, bytes_eq, Option, unwrap_or, Result, nat_lt}
use Rattle.std.specs.List.{list_any, list_all}
use Rattle.bidi_tree.specs.Node as node
use Rattle.bidi_tree.specs.Node.{Node, null, boolean, whole, odd, text, Items, Members, no_members, member}
use Rattle.bidi_tree.specs.Kind.{map_in}
use Rattle.bidi_params.specs.declared.error_code.ErrorCode.{ErrorCode}
use Rattle.bidi_params.specs.declared.error_code.ErrorCode.TheVariants.{InvalidArgument, SessionNotCreated}
use Rattle.bidi_handles.specs.Params.{tree_if_at, trees_if_at}
use Rattle.bidi_handles.specs.Checks.{◌>>=◌, need}
use Rattle.bidi_handles.specs.Maps.{◌being◌and◌, mapped, word}

-- the capabilities of the browser, as `session.new` returns them
abbrev pub capabilities : Node
capabilities = mapped (
    "acceptInsecureCerts" being boolean false and
    "browserName" being word "memory-browser" and
    "browserVersion" being word "1.0" and
    "platformName" being word "none" and
    "setWindowRect" being boolean false and
    "userAgent" being word "memory-browser/1.0" and no_members)

-- ---- a request

-- a requested capability: its name and its value
abbrev pub Capability : Type 0
Capability = List ℕ × Node

-- A request has the capabilities that must always match, and entries one of which must match as well.
pub record Request : Type 0 where
  pub always : List Capability
  pub entries : List (List Capability)

-- whether a name has a colon, and so belongs to another vendor
abbrev pub has_colon : List ℕ → Bool
has_colon name = list_any (λ b. b == 58) name

-- the capabilities of an object, without those whose names have a colon
abbrev pub requested : Members → List Capability
requested no_members = []
requested (member k t ms) = if has_colon k then requested ms else (k, t) ∷ requested ms

-- the capabilities in a tree; a tree that is no object has none
abbrev pub requested_in : Node → List Capability
requested_in t = requested (unwrap_or (map_in t) no_members)

-- the request in a tree: without `firstMatch` it has one empty entry
abbrev pub request_in : Node → Request
request_in t = record {
  always = requested_in (unwrap_or (tree_if_at "alwaysMatch" t) null);
  entries = map requested_in (unwrap_or (trees_if_at "firstMatch" t) (null ∷ []));
}

-- the request in the parameters of a command
abbrev pub request_of : Node → Request
request_of params = request_in (unwrap_or (tree_if_at "capabilities" params) null)

-- ---- its checks

-- the names of the capabilities that a client may request
abbrev pub known_names : List String
known_names = "acceptInsecureCerts" ∷ "browserName" ∷ "browserVersion" ∷ "platformName" ∷ []

-- whether the capability has one of these names
abbrev pub is_known : Capability → Bool
is_known asked = list_any (λ name. bytes_eq (codes name) asked.0) known_names

-- whether no name is in both lists
abbrev pub are_apart : List Capability → List Capability → Bool
are_apart always entry = list_all (λ a. not (list_any (λ b. bytes_eq a.0 b.0) entry)) always

-- the value that the browser has for a name
abbrev pub browser_value : List ℕ → Option Node
browser_value name = node.get_of name capabilities

-- whether two values are the same boolean or the same string
abbrev pub is_same_value : Node → Node → Bool
is_same_value (boolean true) (boolean b) = b
is_same_value (boolean false) (boolean b) = not b
is_same_value (text s) (text t) = bytes_eq s t
is_same_value t u = false

-- whether the browser has this capability with this value
abbrev pub is_met : Capability → Bool
is_met asked = is_same_value asked.1 (unwrap_or (browser_value asked.0) null)

-- whether the browser has each capability of the entry, and each that must always match
abbrev pub is_match : List Capability → List Capability → Bool
is_match always entry = list_all is_met always && list_all is_met entry

-- The checks of a request, in order. All entries are checked before one is matched.
-- example: `{"firstMatch":[]}` is `invalid argument`
abbrev pub matching : Request → Result (Unit {0}) ErrorCode
matching r = do
  some ← need (nat_lt 0 (length r.entries)) InvalidArgument
  known ← need (list_all is_known r.always && list_all (list_all is_known) r.entries) InvalidArgument
  apart ← need (list_all (are_apart r.always) r.entries) InvalidArgument
  need (list_any (is_match r.always) r.entries) SessionNotCreated

-- What is reported of a command that asks for more than the profile has, in order. Defined by this project.
use Rattle.std.specs.Prelude.{ℕ, Bool, if◌then◌else◌, List, [], ◌∷◌, ◌++◌, codes, is_some}
use Rattle.std.specs.Option.{option_map_or}
use Rattle.bidi_tree.specs.Kind.{text_in, list_in, members_in}
use Rattle.bidi_tree.specs.Node.{Node, Items, no_items, item, Members, no_members, member, get_of}
use Rattle.bidi_lenient.specs.declared.method.Method.{Method}
use Rattle.bidi_lenient.specs.declared.method.Method.TheVariants.{New, Subscribe, Unsubscribe, Evaluate, CallFunction, Disown, Close}
use Rattle.bidi_lenient.specs.Methods.{method_in}
use Rattle.bidi_lenient.specs.Names.{is_capability, is_name, is_held, kind_of, sandbox_in}
use Rattle.bidi_lenient.specs.Source.{before_source}

-- the report on the member of this name, or nothing if there is no such member
abbrev pub told_at : List ℕ → (Node → List (List ℕ)) → Node → List (List ℕ)
told_at k f t = option_map_or f (get_of k t) []

-- the report s, if b is true
abbrev pub told_if : Bool → List ℕ → List (List ℕ)
told_if b s = if b then s ∷ [] else []

-- ---- `session.new`

-- `left out capability NAME` for each member that is left out
abbrev pub members_told : Members → List (List ℕ)
members_told no_members = []
members_told (member k t ms) = if is_capability k t then (codes "left out capability " ++ k) ∷ members_told ms else members_told ms

-- the report on one request for capabilities
abbrev pub request_told : Node → List (List ℕ)
request_told t = members_told (members_in t)

-- the reports on some requests, one after the other
abbrev pub items_told : Items → List (List ℕ)
items_told no_items = []
items_told (item t ts) = request_told t ++ items_told ts

-- the report on an array of requests
abbrev pub requests_told : Node → List (List ℕ)
requests_told t = option_map_or items_told (list_in t) []

-- the report on the capabilities of a command: first `alwaysMatch`, then `firstMatch`
abbrev pub capabilities_told : Node → List (List ℕ)
capabilities_told t = told_at (codes "alwaysMatch") request_told t ++ told_at (codes "firstMatch") requests_told t

-- the report on a `session.new`
abbrev pub new_told : Node → List (List ℕ)
new_told t = told_at (codes "params") (told_at (codes "capabilities") capabilities_told) t

-- ---- `session.subscribe` and `session.unsubscribe`

-- `held event NAME` or `held module NAME` for a name that the profile does not have
abbrev pub name_told : List ℕ → List (List ℕ)
name_told name = told_if (is_held name) (codes "held " ++ (kind_of name ++ (codes " " ++ name)))

-- the report on one item of a subscription's events
abbrev pub event_told : Node → List (List ℕ)
event_told t = option_map_or name_told (text_in t) []

-- the reports on some items, one after the other
abbrev pub each_told : Items → List (List ℕ)
each_told no_items = []
each_told (item t ts) = event_told t ++ each_told ts

-- the report on a subscription's events
abbrev pub events_told : Node → List (List ℕ)
events_told t = option_map_or each_told (list_in t) []

-- the report on a `session.subscribe`
abbrev pub subscribe_told : Node → List (List ℕ)
subscribe_told t = told_at (codes "params") (told_at (codes "events") events_told) t

-- the report on the params of a `session.unsubscribe`: they have contexts
abbrev pub contexts_told : Node → List (List ℕ)
contexts_told t = told_if (is_some (get_of (codes "contexts") t)) (codes "refused contexts of session.unsubscribe")

-- the report on a `session.unsubscribe`
abbrev pub unsubscribe_told : Node → List (List ℕ)
unsubscribe_told t = told_at (codes "params") contexts_told t

-- ---- scripts

-- `left out sandbox NAME`; a text that is not a name is not repeated
abbrev pub name_of_sandbox_told : List ℕ → List ℕ
name_of_sandbox_told s = if is_name s then codes "left out sandbox " ++ s else codes "left out a sandbox"

-- the report on a target
abbrev pub target_told : Node → List (List ℕ)
target_told t = option_map_or (λ s. name_of_sandbox_told s ∷ []) (sandbox_in t) []

-- `left out sourceURL` for a script with a source URL in its last line
abbrev pub source_told : Node → List (List ℕ)
source_told t = option_map_or (λ s. told_if (is_some (before_source s)) (codes "left out sourceURL")) (text_in t) []

-- the report on the params of a command that runs the script at this name: on the script, and then on the target
abbrev pub params_told : List ℕ → Node → List (List ℕ)
params_told k t = told_at k source_told t ++ told_at (codes "target") target_told t

-- the report on a command that runs the script at this name of the params
abbrev pub script_told : List ℕ → Node → List (List ℕ)
script_told k t = told_at (codes "params") (params_told k) t

-- the report on a `script.disown`
abbrev pub sandbox_told : Node → List (List ℕ)
sandbox_told t = told_at (codes "params") (told_at (codes "target") target_told) t

-- ---- a command

-- the report on a command of this method
abbrev pub told_by : Method → Node → List (List ℕ)
told_by New t = new_told t
told_by Subscribe t = subscribe_told t
told_by Unsubscribe t = unsubscribe_told t
told_by Evaluate t = script_told (codes "expression") t
told_by CallFunction t = script_told (codes "functionDeclaration") t
told_by Disown t = sandbox_told t
told_by Close t = codes "took browser.close as session.end" ∷ []

-- the report on a command; nothing for a command of any other method
abbrev pub told : Node → List (List ℕ)
told t = option_map_or (λ m. told_by m t) (method_in t) []

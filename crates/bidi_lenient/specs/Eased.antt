-- Commands without what the profile does not have. After WebDriver BiDi, "The session.new Command", "The session.unsubscribe Command", "The script.ContextTarget Type" and "The browser.close Command".
use Rattle.std.specs.Prelude.{ℕ, Bool, true, false, if◌then◌else◌, List, [], ◌∷◌, codes, Option, Some, None, is_some, unwrap_or, option_map, map, string_bytes}
use Rattle.std.specs.Option.{option_map_or, option_and_then}
use Rattle.bidi_tree.specs.Node as tree
use Rattle.bidi_tree.specs.Node.{Node, null, boolean, whole, odd, text, list, Items, no_items, item, no_members, get_of, is_whole, most_written_levels}
use Rattle.bidi_tree.specs.Text.{compact_text, tree_of_text}
use Rattle.bidi_shape.specs.Limits.{most_bytes}
use Rattle.bidi_lenient.specs.declared.easing.Eased.{Eased}
use Rattle.bidi_lenient.specs.declared.method.Method.{Method}
use Rattle.bidi_lenient.specs.declared.method.Method.TheVariants.{New, Subscribe, Unsubscribe, Evaluate, CallFunction, Disown, Close}
use Rattle.bidi_lenient.specs.Members.{put_in, within, without}
use Rattle.bidi_lenient.specs.Methods.{method_in}
use Rattle.bidi_lenient.specs.Names.{is_capability, is_sandbox}
use Rattle.bidi_lenient.specs.Reports.{told_by}
use Rattle.bidi_lenient.specs.Source.{before_source}

-- ---- `session.new`

-- a request for capabilities without those that are left out
abbrev pub request_eased : Node → Node
request_eased t = without is_capability t

-- some requests without the capabilities that are left out
abbrev pub items_eased : Items → Items
items_eased no_items = no_items
items_eased (item t ts) = item (request_eased t) (items_eased ts)

-- an array of requests without the capabilities that are left out
abbrev pub requests_eased : Node → Node
requests_eased null = null
requests_eased (boolean b) = boolean b
requests_eased (whole z) = whole z
requests_eased odd = odd
requests_eased (text s) = text s
requests_eased (list ts) = list (items_eased ts)
requests_eased (tree.map ms) = tree.map ms

-- the capabilities of a command without those that are left out, in `alwaysMatch` and in `firstMatch`
abbrev pub capabilities_eased : Node → Node
capabilities_eased t = within (codes "firstMatch") requests_eased (within (codes "alwaysMatch") request_eased t)

-- a `session.new` without the capabilities that are left out
abbrev pub new_eased : Node → Node
new_eased t = within (codes "params") (within (codes "capabilities") capabilities_eased) t

-- ---- `session.unsubscribe`

-- params with contexts become an empty object, which the remote end refuses
abbrev pub params_refused : Node → Node
params_refused t = if is_some (get_of (codes "contexts") t) then tree.map no_members else t

-- a `session.unsubscribe` that is refused if it has contexts
abbrev pub unsubscribe_eased : Node → Node
unsubscribe_eased t = within (codes "params") params_refused t

-- ---- scripts

-- a target without the sandbox
abbrev pub target_eased : Node → Node
target_eased t = without is_sandbox t

-- a script without the source URL in its last line
abbrev pub source_eased : Node → Node
source_eased null = null
source_eased (boolean b) = boolean b
source_eased (whole z) = whole z
source_eased odd = odd
source_eased (text s) = text (unwrap_or (before_source s) s)
source_eased (list ts) = list ts
source_eased (tree.map ms) = tree.map ms

-- the params of a command that runs the script at this name, without source URL and sandbox
abbrev pub script_params_eased : List ℕ → Node → Node
script_params_eased k t = within (codes "target") target_eased (within k source_eased t)

-- a command that runs the script at this name of the params, without source URL and sandbox
abbrev pub script_eased : List ℕ → Node → Node
script_eased k t = within (codes "params") (script_params_eased k) t

-- a `script.disown` without the sandbox
abbrev pub disown_eased : Node → Node
disown_eased t = within (codes "params") (within (codes "target") target_eased) t

-- ---- `browser.close`

-- a `browser.close` as a `session.end`
abbrev pub close_eased : Node → Node
close_eased t = put_in (codes "method") (text (codes "session.end")) t

-- ---- a command

-- a command of this method without what the profile does not have; the names of a subscription stay
abbrev pub eased_by : Method → Node → Node
eased_by New t = new_eased t
eased_by Subscribe t = t
eased_by Unsubscribe t = unsubscribe_eased t
eased_by Evaluate t = script_eased (codes "expression") t
eased_by CallFunction t = script_eased (codes "functionDeclaration") t
eased_by Disown t = disown_eased t
eased_by Close t = close_eased t

-- a command without what the profile does not have
abbrev pub eased : Node → Node
eased t = option_map_or (λ m. eased_by m t) (method_in t) t

-- the command of this method gets another text when it is eased; a subscription keeps its text
abbrev pub is_changed : Method → Bool
is_changed New = true
is_changed Subscribe = false
is_changed Unsubscribe = true
is_changed Evaluate = true
is_changed CallFunction = true
is_changed Disown = true
is_changed Close = true

-- the text that a command of this method gets when it is eased, or None if it keeps its text
abbrev pub text_by : Method → Node → Option (List ℕ)
text_by m t = if is_changed m then Some (compact_text (eased_by m t)) else None

-- a text, if it is another one, together with the reports; None if there are no reports
abbrev pub with_reports : Option (List ℕ) → List (List ℕ) → Option (Option (List ℕ) × List (List ℕ))
with_reports s [] = None
with_reports s (report ∷ reports) = Some (s, report ∷ reports)

-- the eased text of a command of this method with the reports, or None if there are none
abbrev pub eased_with : Method → Node → Option (Option (List ℕ) × List (List ℕ))
eased_with m t = with_reports (text_by m t) (told_by m t)

-- the eased text of a command with the reports; None if there are none, or if the command cannot be written
abbrev pub eased_command : Node → Option (Option (List ℕ) × List (List ℕ))
eased_command t = if is_whole t most_written_levels then option_and_then (λ m. eased_with m t) (method_in t) else None

-- the eased text of a JSON text of at most 1,048,576 bytes, with the reports; None for any other text
abbrev pub eased_text : List ℕ → Option (Option (List ℕ) × List (List ℕ))
eased_text s = option_and_then eased_command (tree_of_text (Some most_bytes) s)

-- an eased text of the code: its bytes, if it is another one, and the reports
abbrev pub seen : Eased → Option (List ℕ) × List (List ℕ)
seen e = (option_map string_bytes e.text, map string_bytes e.reports.items)

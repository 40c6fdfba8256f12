-- Actions: commands that the browser is asked to carry out, and steps of a page. After WebDriver BiDi, "The browsingContext Module", "The script Module"
-- and "The browser Module".
use Prim.Native.String.{String}
use Rattle.std.specs.Prelude.{ℕ, ℤ, Bool, true, false, List, [], ◌∷◌, codes, bytes_eq, Option, Some, None}
use Rattle.std.specs.Prelude.{unwrap_or, option_map, is_some, is_none, ◌&&◌, ◌||◌, if◌then◌else◌}
use Rattle.bidi_tree.specs.Node.{Node, null}
use Rattle.bidi_scripts.specs.declared.log_entry.Level.{Level}
use Rattle.bidi_methods.specs.declared.method.Method.{Method}
use Rattle.bidi_methods.specs.declared.method.Method.TheVariants.{BrowsingContextActivate, BrowsingContextClose}
use Rattle.bidi_methods.specs.declared.method.Method.TheVariants.{BrowsingContextCreate, BrowsingContextGetTree}
use Rattle.bidi_methods.specs.declared.method.Method.TheVariants.{BrowsingContextNavigate, BrowsingContextReload}
use Rattle.bidi_methods.specs.declared.method.Method.TheVariants.{BrowsingContextTraverseHistory, ScriptEvaluate, ScriptCallFunction}
use Rattle.bidi_methods.specs.declared.method.Method.TheVariants.{ScriptDisown, ScriptGetRealms}
use Rattle.bidi_methods.specs.declared.method.Method.TheVariants.{BrowserCreateUserContext, BrowserGetUserContexts, BrowserRemoveUserContext}
use Rattle.bidi_handles.specs.Params.{tree_if_at, text_if_at, number_if_at, trees_if_at, text_at, texts_at, whole_at, entry_at}

-- A new top-level context is a tab in a window, or has a window of its own.
pub data CreateType : Type 0 where
  Tab : CreateType
  OwnWindow : CreateType

-- The reply to a navigation waits for its start, for domContentLoaded or for load.
pub data Wait : Type 0 where
  Started : Wait
  Interactive : Wait
  Complete : Wait

-- A script runs in the realm of a context, or in the realm of an id; the sandbox is empty if none is named.
pub data Target : Type 0 where
  ContextTarget : (context : List ℕ) (sandbox : List ℕ) → Target
  RealmTarget : (realm : List ℕ) → Target

-- A command or a step of a page, with the members that matter; values are the trees of local values.
pub data Action : Type 0 where
  Activate : (context : List ℕ) → Action
  Close : (context : List ℕ) → Action
  Create : (type : CreateType) (reference : Option (List ℕ)) (user : Option (List ℕ)) → Action
  GetTree : (depth : Option ℕ) (root : Option (List ℕ)) → Action
  Navigate : (context : List ℕ) (url : List ℕ) (wait : Wait) → Action
  Reload : (context : List ℕ) (wait : Wait) → Action
  TraverseHistory : (context : List ℕ) (delta : ℤ) → Action
  -- owned, where the value gets a handle; with a depth, where it is cut
  Evaluate : (expression : List ℕ) (target : Target) (owned : Bool) (depth : Option ℕ) → Action
  CallFunction : (declaration : List ℕ) (target : Target) (arguments : List Node) (this : Option Node) (owned : Bool) (depth : Option ℕ) → Action
  Disown : (handles : List (List ℕ)) (target : Target) → Action
  GetRealms : (context : Option (List ℕ)) (type : Option (List ℕ)) → Action
  CreateUserContext : Action
  GetUserContexts : Action
  RemoveUserContext : (user : List ℕ) → Action
  -- steps of a page
  Frame : (context : List ℕ) (url : List ℕ) → Action
  Unframe : (context : List ℕ) → Action
  Log : (context : List ℕ) (level : Level) (text : List ℕ) → Action
  -- a row of the table, where its text is one
  TableRow : (row : Option Node) → Action

-- The method of a command; a step of a page has none.
abbrev pub method_of : Action → Option Method
method_of (Activate id) = Some BrowsingContextActivate
method_of (Close id) = Some BrowsingContextClose
method_of (Create type reference user) = Some BrowsingContextCreate
method_of (GetTree depth root) = Some BrowsingContextGetTree
method_of (Navigate id url wait) = Some BrowsingContextNavigate
method_of (Reload id wait) = Some BrowsingContextReload
method_of (TraverseHistory id delta) = Some BrowsingContextTraverseHistory
method_of (Evaluate expression target owned depth) = Some ScriptEvaluate
method_of (CallFunction declaration target arguments this owned depth) = Some ScriptCallFunction
method_of (Disown handles target) = Some ScriptDisown
method_of (GetRealms context type) = Some ScriptGetRealms
method_of CreateUserContext = Some BrowserCreateUserContext
method_of GetUserContexts = Some BrowserGetUserContexts
method_of (RemoveUserContext user) = Some BrowserRemoveUserContext
method_of action = None

-- A client asked for the action and gets a reply: it is a command.
abbrev pub is_asked : Action → Bool
is_asked action = is_some (method_of action)

-- ---- an action, read from the params of its command

-- The string is present and equals the word.
abbrev pub is_text : String → Option (List ℕ) → Bool
is_text word text = bytes_eq (unwrap_or text []) (codes word)

-- The `type` of a create: `window` gives the context a window of its own, and anything else makes it a tab.
abbrev pub create_type_of : Node → CreateType
create_type_of params = if is_text "window" (text_if_at "type" params) then OwnWindow else Tab

-- What the reply waits for by `wait`: without one, for the start of the navigation.
abbrev pub wait_of : Node → Wait
wait_of params =
    if is_text "complete" (text_if_at "wait" params) then Complete
    else if is_text "interactive" (text_if_at "wait" params) then Interactive
    else Started

-- The value is to get a handle: `resultOwnership` is `root`.
abbrev pub is_owned : Node → Bool
is_owned params = is_text "root" (text_if_at "resultOwnership" params)

-- The depth at which the value is cut; without one, or with null, the value stays whole.
abbrev pub object_depth : Node → Option ℕ
object_depth params = number_if_at "maxObjectDepth" (unwrap_or (tree_if_at "serializationOptions" params) null)

-- The member is a string or absent.
abbrev pub is_well_at : String → Node → Bool
is_well_at name params = is_none (tree_if_at name params) || is_some (text_if_at name params)

-- The target that a tree gives: a context if `context` is a string and `sandbox` is a string or absent, otherwise a realm.
-- example: `{"realm":"r","context":5}` is by realm
abbrev pub target_in : Node → Target
target_in t =
    if is_some (text_if_at "context" t) && is_well_at "sandbox" t
    then ContextTarget (text_at "context" t) (text_at "sandbox" t)
    else RealmTarget (text_at "realm" t)

-- The target of a command by its params.
abbrev pub target_of : Node → Target
target_of params = target_in (unwrap_or (tree_if_at "target" params) null)

-- The methods that the browser carries out, each with the action that its params ask for.
abbrev pub browser_commands : List (String × (Node → Action))
browser_commands =
    ("browsingContext.activate", λ p. Activate (text_at "context" p))
    ∷ ("browsingContext.close", λ p. Close (text_at "context" p))
    ∷ ("browsingContext.create", λ p. Create (create_type_of p) (text_if_at "referenceContext" p) (text_if_at "userContext" p))
    ∷ ("browsingContext.getTree", λ p. GetTree (number_if_at "maxDepth" p) (text_if_at "root" p))
    ∷ ("browsingContext.navigate", λ p. Navigate (text_at "context" p) (text_at "url" p) (wait_of p))
    ∷ ("browsingContext.reload", λ p. Reload (text_at "context" p) (wait_of p))
    ∷ ("browsingContext.traverseHistory", λ p. TraverseHistory (text_at "context" p) (whole_at "delta" p))
    ∷ ("script.evaluate", λ p. Evaluate (text_at "expression" p) (target_of p) (is_owned p) (object_depth p))
    ∷ (
      "script.callFunction",
      λ p. CallFunction (text_at "functionDeclaration" p) (target_of p) (unwrap_or (trees_if_at "arguments" p) []) (tree_if_at "this" p) (is_owned p) (object_depth p),
    )
    ∷ ("script.disown", λ p. Disown (texts_at "handles" p) (target_of p))
    ∷ ("script.getRealms", λ p. GetRealms (text_if_at "context" p) (text_if_at "type" p))
    ∷ ("browser.createUserContext", λ p. CreateUserContext)
    ∷ ("browser.getUserContexts", λ p. GetUserContexts)
    ∷ ("browser.removeUserContext", λ p. RemoveUserContext (text_at "userContext" p))
    ∷ []

-- The action that a command of the method asks for, if the browser carries out that method.
abbrev pub action_of : List ℕ → Node → Option Action
action_of method params = option_map (λ reading. reading params) (entry_at browser_commands method)

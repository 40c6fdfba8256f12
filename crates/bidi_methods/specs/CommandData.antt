-- The data of a command: its method, with the params of that method. After WebDriver BiDi, "Protocol".
use Rattle.bidi_tree.specs.Node.{Node}
use Rattle.bidi_methods.specs.Payload.{PayloadOf, OfKind, one_by_kind}
use Rattle.bidi_methods.specs.Method.{params_part}
use Rattle.bidi_methods.specs.declared.method.Method.{Method}
use Rattle.bidi_methods.specs.declared.method.Method.TheVariants.{SessionStatus, SessionNew, SessionEnd, SessionSubscribe}
use Rattle.bidi_methods.specs.declared.method.Method.TheVariants.{SessionUnsubscribe, BrowsingContextActivate, BrowsingContextClose}
use Rattle.bidi_methods.specs.declared.method.Method.TheVariants.{BrowsingContextCreate, BrowsingContextGetTree}
use Rattle.bidi_methods.specs.declared.method.Method.TheVariants.{BrowsingContextNavigate, BrowsingContextReload}
use Rattle.bidi_methods.specs.declared.method.Method.TheVariants.{BrowsingContextTraverseHistory, ScriptEvaluate, ScriptCallFunction}
use Rattle.bidi_methods.specs.declared.method.Method.TheVariants.{ScriptDisown, ScriptGetRealms, BrowserCreateUserContext}
use Rattle.bidi_methods.specs.declared.method.Method.TheVariants.{BrowserGetUserContexts, BrowserRemoveUserContext}
use Rattle.bidi_methods.specs.declared.command_data.SessionCommand.{SessionCommand}
use Rattle.bidi_methods.specs.declared.command_data.SessionCommand.TheVariants as session
use Rattle.bidi_methods.specs.declared.command_data.BrowserCommand.{BrowserCommand}
use Rattle.bidi_methods.specs.declared.command_data.BrowserCommand.TheVariants as browser
use Rattle.bidi_methods.specs.declared.command_data.CommandData.{CommandData}
use Rattle.bidi_methods.specs.declared.command_data.CommandData.TheVariants.{Session, Browser}

-- a method with its params
abbrev pub Asked : Type 0
Asked = OfKind params_part

-- the tree of a command's params
abbrev pub asked_tree : Asked → Node
asked_tree a = (params_part a.0).shape.tree_of a.1

-- a command of the session module, as its method with its params
abbrev pub session_asked : SessionCommand → Asked
session_asked (session.Status params) = (SessionStatus, params)
session_asked (session.New params) = (SessionNew, params.value)
session_asked (session.End params) = (SessionEnd, params)
session_asked (session.Subscribe params) = (SessionSubscribe, params.value)
session_asked (session.Unsubscribe params) = (SessionUnsubscribe, params)

-- a command of the modules browsingContext, script and browser, as its method with its params
abbrev pub browser_asked : BrowserCommand → Asked
browser_asked (browser.Activate params) = (BrowsingContextActivate, params)
browser_asked (browser.Close params) = (BrowsingContextClose, params)
browser_asked (browser.Create params) = (BrowsingContextCreate, params)
browser_asked (browser.GetTree params) = (BrowsingContextGetTree, params)
browser_asked (browser.Navigate params) = (BrowsingContextNavigate, params)
browser_asked (browser.Reload params) = (BrowsingContextReload, params)
browser_asked (browser.TraverseHistory params) = (BrowsingContextTraverseHistory, params)
browser_asked (browser.Evaluate params) = (ScriptEvaluate, params.value)
browser_asked (browser.CallFunction params) = (ScriptCallFunction, params.value)
browser_asked (browser.Disown params) = (ScriptDisown, params.value)
browser_asked (browser.GetRealms params) = (ScriptGetRealms, params)
browser_asked (browser.CreateUserContext params) = (BrowserCreateUserContext, params)
browser_asked (browser.GetUserContexts params) = (BrowserGetUserContexts, params)
browser_asked (browser.RemoveUserContext params) = (BrowserRemoveUserContext, params)

-- a command as its method with its params
abbrev pub asked : CommandData → Asked
asked (Session command) = session_asked command
asked (Browser command) = browser_asked command

-- the method of a command
abbrev pub method_of : CommandData → Method
method_of d = (asked d).0

-- the data of commands, by method: the rule of the params, their trees, and the laws
abbrev pub command_payload : PayloadOf CommandData Method
command_payload = one_by_kind params_part asked

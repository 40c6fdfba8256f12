-- The data of a result: the method of its command, with the result of that method. After WebDriver BiDi, "Protocol".
use Rattle.bidi_methods.specs.Payload.{PayloadOf, OfKind, one_by_kind}
use Rattle.bidi_methods.specs.Method.{result_part}
use Rattle.bidi_methods.specs.declared.method.Method.{Method}
use Rattle.bidi_methods.specs.declared.method.Method.TheVariants.{SessionStatus, SessionNew, SessionEnd, SessionSubscribe}
use Rattle.bidi_methods.specs.declared.method.Method.TheVariants.{SessionUnsubscribe, BrowsingContextActivate, BrowsingContextClose}
use Rattle.bidi_methods.specs.declared.method.Method.TheVariants.{BrowsingContextCreate, BrowsingContextGetTree}
use Rattle.bidi_methods.specs.declared.method.Method.TheVariants.{BrowsingContextNavigate, BrowsingContextReload}
use Rattle.bidi_methods.specs.declared.method.Method.TheVariants.{BrowsingContextTraverseHistory, ScriptEvaluate, ScriptCallFunction}
use Rattle.bidi_methods.specs.declared.method.Method.TheVariants.{ScriptDisown, ScriptGetRealms, BrowserCreateUserContext}
use Rattle.bidi_methods.specs.declared.method.Method.TheVariants.{BrowserGetUserContexts, BrowserRemoveUserContext}
use Rattle.bidi_methods.specs.declared.result_data.ResultData.{ResultData}
use Rattle.bidi_methods.specs.declared.result_data.ResultData.TheVariants as of

-- a result as its method with that result
abbrev pub given : ResultData → OfKind result_part
given (of.SessionStatus result) = (SessionStatus, result)
given (of.SessionNew result) = (SessionNew, result)
given (of.SessionEnd result) = (SessionEnd, result)
given (of.SessionSubscribe result) = (SessionSubscribe, result)
given (of.SessionUnsubscribe result) = (SessionUnsubscribe, result)
given (of.BrowsingContextActivate result) = (BrowsingContextActivate, result)
given (of.BrowsingContextClose result) = (BrowsingContextClose, result)
given (of.BrowsingContextCreate result) = (BrowsingContextCreate, result)
given (of.BrowsingContextGetTree result) = (BrowsingContextGetTree, result)
given (of.BrowsingContextNavigate result) = (BrowsingContextNavigate, result)
given (of.BrowsingContextReload result) = (BrowsingContextReload, result)
given (of.BrowsingContextTraverseHistory result) = (BrowsingContextTraverseHistory, result)
given (of.ScriptEvaluate result) = (ScriptEvaluate, result)
given (of.ScriptCallFunction result) = (ScriptCallFunction, result)
given (of.ScriptDisown result) = (ScriptDisown, result)
given (of.ScriptGetRealms result) = (ScriptGetRealms, result)
given (of.BrowserCreateUserContext result) = (BrowserCreateUserContext, result)
given (of.BrowserGetUserContexts result) = (BrowserGetUserContexts, result)
given (of.BrowserRemoveUserContext result) = (BrowserRemoveUserContext, result)

-- the data of results, by method: the rule of the result, its trees, and the laws
abbrev pub result_payload : PayloadOf ResultData Method
result_payload = one_by_kind result_part given

use Rattle.bidi_methods.proofs.result_data.ResultDataPayloadMethod.outline.Goals as goal

pub returns-in-SessionStatus : goal.returns-in-SessionStatus
returns-in-SessionStatus c = rw c.in-SessionStatus.is c.outline.ensures

pub returns-in-SessionNew : goal.returns-in-SessionNew
returns-in-SessionNew c = rw c.in-SessionNew.is c.outline-in-SessionNew.ensures

pub returns-in-SessionEnd : goal.returns-in-SessionEnd
returns-in-SessionEnd c = rw c.in-SessionEnd.is c.outline-in-SessionEnd.ensures

pub returns-in-SessionSubscribe : goal.returns-in-SessionSubscribe
returns-in-SessionSubscribe c = rw c.in-SessionSubscribe.is c.outline-in-SessionSubscribe.ensures

pub returns-in-SessionUnsubscribe : goal.returns-in-SessionUnsubscribe
returns-in-SessionUnsubscribe c = rw c.in-SessionUnsubscribe.is c.outline-in-SessionUnsubscribe.ensures

pub returns-in-BrowsingContextActivate : goal.returns-in-BrowsingContextActivate
returns-in-BrowsingContextActivate c = rw c.in-BrowsingContextActivate.is c.outline-in-BrowsingContextActivate.ensures

pub returns-in-BrowsingContextClose : goal.returns-in-BrowsingContextClose
returns-in-BrowsingContextClose c = rw c.in-BrowsingContextClose.is c.outline-in-BrowsingContextClose.ensures

pub returns-in-BrowsingContextCreate : goal.returns-in-BrowsingContextCreate
returns-in-BrowsingContextCreate c = rw c.in-BrowsingContextCreate.is c.outline-in-BrowsingContextCreate.ensures

pub returns-in-BrowsingContextGetTree : goal.returns-in-BrowsingContextGetTree
returns-in-BrowsingContextGetTree c = rw c.in-BrowsingContextGetTree.is c.outline-in-BrowsingContextGetTree.ensures

pub returns-in-BrowsingContextNavigate : goal.returns-in-BrowsingContextNavigate
returns-in-BrowsingContextNavigate c = rw c.in-BrowsingContextNavigate.is c.outline-in-BrowsingContextNavigate.ensures

pub returns-in-BrowsingContextReload : goal.returns-in-BrowsingContextReload
returns-in-BrowsingContextReload c = rw c.in-BrowsingContextReload.is c.outline-in-BrowsingContextReload.ensures

pub returns-in-BrowsingContextTraverseHistory : goal.returns-in-BrowsingContextTraverseHistory
returns-in-BrowsingContextTraverseHistory c = rw c.in-BrowsingContextTraverseHistory.is c.outline-in-BrowsingContextTraverseHistory.ensures

pub returns-in-ScriptEvaluate : goal.returns-in-ScriptEvaluate
returns-in-ScriptEvaluate c = rw c.in-ScriptEvaluate.is c.outline-in-ScriptEvaluate.ensures

pub returns-in-ScriptCallFunction : goal.returns-in-ScriptCallFunction
returns-in-ScriptCallFunction c = rw c.in-ScriptCallFunction.is c.outline-in-ScriptCallFunction.ensures

pub returns-in-ScriptDisown : goal.returns-in-ScriptDisown
returns-in-ScriptDisown c = rw c.in-ScriptDisown.is c.outline-in-ScriptDisown.ensures

pub returns-in-ScriptGetRealms : goal.returns-in-ScriptGetRealms
returns-in-ScriptGetRealms c = rw c.in-ScriptGetRealms.is c.outline-in-ScriptGetRealms.ensures

pub returns-in-BrowserCreateUserContext : goal.returns-in-BrowserCreateUserContext
returns-in-BrowserCreateUserContext c = rw c.in-BrowserCreateUserContext.is c.outline-in-BrowserCreateUserContext.ensures

pub returns-in-BrowserGetUserContexts : goal.returns-in-BrowserGetUserContexts
returns-in-BrowserGetUserContexts c = rw c.in-BrowserGetUserContexts.is c.outline-in-BrowserGetUserContexts.ensures

pub returns-in-BrowserRemoveUserContext : goal.returns-in-BrowserRemoveUserContext
returns-in-BrowserRemoveUserContext c = rw c.in-BrowserRemoveUserContext.is c.outline-in-BrowserRemoveUserContext.ensures

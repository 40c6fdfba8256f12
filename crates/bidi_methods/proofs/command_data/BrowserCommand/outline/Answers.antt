use Rattle.std.proofs.Common.{sym}
use Rattle.bidi_methods.proofs.command_data.BrowserCommand.outline.Goals as goal

pub returns-in-Activate : goal.returns-in-Activate
returns-in-Activate c = rw c.in-Activate.is c.outline.ensures

pub returns-in-Close : goal.returns-in-Close
returns-in-Close c = rw c.in-Close.is c.outline-in-Close.ensures

pub returns-in-Create : goal.returns-in-Create
returns-in-Create c = rw c.in-Create.is c.outline-in-Create.ensures

pub returns-in-GetTree : goal.returns-in-GetTree
returns-in-GetTree c = rw c.in-GetTree.is c.outline-in-GetTree.ensures

pub returns-in-Navigate : goal.returns-in-Navigate
returns-in-Navigate c = rw c.in-Navigate.is c.outline-in-Navigate.ensures

pub returns-in-Reload : goal.returns-in-Reload
returns-in-Reload c = rw c.in-Reload.is c.outline-in-Reload.ensures

pub returns-in-TraverseHistory : goal.returns-in-TraverseHistory
returns-in-TraverseHistory c = rw c.in-TraverseHistory.is c.outline-in-TraverseHistory.ensures

pub returns-in-Evaluate : goal.returns-in-Evaluate
returns-in-Evaluate c = rw (c.in-Evaluate.is, sym c.as_ref.ensures) c.outline-in-Evaluate.ensures

pub returns-in-CallFunction : goal.returns-in-CallFunction
returns-in-CallFunction c = rw (c.in-CallFunction.is, sym c.as_ref-in-CallFunction.ensures) c.outline-in-CallFunction.ensures

pub returns-in-Disown : goal.returns-in-Disown
returns-in-Disown c = rw (c.in-Disown.is, sym c.as_ref-in-Disown.ensures) c.outline-in-Disown.ensures

pub returns-in-GetRealms : goal.returns-in-GetRealms
returns-in-GetRealms c = rw c.in-GetRealms.is c.outline-in-GetRealms.ensures

pub returns-in-CreateUserContext : goal.returns-in-CreateUserContext
returns-in-CreateUserContext c = rw c.in-CreateUserContext.is c.outline-in-CreateUserContext.ensures

pub returns-in-GetUserContexts : goal.returns-in-GetUserContexts
returns-in-GetUserContexts c = rw c.in-GetUserContexts.is c.outline-in-GetUserContexts.ensures

pub returns-in-RemoveUserContext : goal.returns-in-RemoveUserContext
returns-in-RemoveUserContext c = rw c.in-RemoveUserContext.is c.outline-in-RemoveUserContext.ensures

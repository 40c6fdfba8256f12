-- A command in hand asks by its method.
use Rattle.std.proofs.Common.{◌≡◌, Some, refl, ap}
use Rattle.std.specs.Prelude.{true, is_some}
use Rattle.bidi_methods.specs.CommandData.{browser_asked}
use Rattle.bidi_methods.specs.declared.command_data.BrowserCommand.{BrowserCommand}
use Rattle.bidi_methods.specs.declared.command_data.BrowserCommand.TheVariants.{Activate, Close, Create, GetTree, Navigate, Reload}
use Rattle.bidi_methods.specs.declared.command_data.BrowserCommand.TheVariants.{TraverseHistory, Evaluate, CallFunction, Disown, GetRealms}
use Rattle.bidi_methods.specs.declared.command_data.BrowserCommand.TheVariants.{CreateUserContext, GetUserContexts, RemoveUserContext}
use Rattle.bidi_contexts.specs.Actions.{method_of, is_asked}
use Rattle.bidi_browser.specs.Asked.{command_asked}

-- its method is that of what it asks
pub command-method : (c : BrowserCommand) → method_of (command_asked c) ≡ Some (browser_asked c).0
command-method (Activate p) = refl
command-method (Close p) = refl
command-method (Create p) = refl
command-method (GetTree p) = refl
command-method (Navigate p) = refl
command-method (Reload p) = refl
command-method (TraverseHistory p) = refl
command-method (Evaluate p) = refl
command-method (CallFunction p) = refl
command-method (Disown p) = refl
command-method (GetRealms p) = refl
command-method (CreateUserContext p) = refl
command-method (GetUserContexts p) = refl
command-method (RemoveUserContext p) = refl

-- so it is asked for
pub command-is_asked : (c : BrowserCommand) → is_asked (command_asked c) ≡ true
command-is_asked c = ap is_some (command-method c)

-- What a command in the code asks for.
use Rattle.std.specs.Prelude.{◌≡◌, ℕ, Some, option_map, List, map, String, string_bytes, ⊤}
use Rattle.std.specs.declared.alloc.Global.{Global}
use Rattle.bidi_tree.specs.Node.{Node}
use Rattle.bidi_shape.specs.Value.{ShapeOf}
use Rattle.bidi_params.specs.declared.session.capabilities.NewParameters.{NewParameters}
use Rattle.bidi_params.specs.declared.session.subscribe.SubscribeParameters.{SubscribeParameters}
use Rattle.bidi_params.specs.declared.session.subscribe.UnsubscribeParameters.{UnsubscribeParameters}
use Rattle.bidi_params.specs.declared.session.subscribe.UnsubscribeParameters.TheVariants.{ById, ByEvents}
use Rattle.bidi_methods.specs.declared.command_data.SessionCommand.{SessionCommand}
use Rattle.bidi_methods.specs.declared.command_data.SessionCommand.TheVariants as session
use Rattle.bidi_methods.specs.declared.command_data.CommandData.{CommandData}
use Rattle.bidi_methods.specs.declared.command_data.CommandData.TheVariants.{Session, Browser}
use Rattle.bidi_browser.specs.Asked.{command_asked}
use Rattle.bidi_sessions.specs.Capabilities.{request_of}
use Rattle.bidi_remote.specs.Machine.Commands.{Command, Status, New, End, Subscribe, UnsubscribeById, UnsubscribeByEvents, OfBrowser, command_of, id_of_command}

-- the bytes of some strings
abbrev pub texts : List (String Global) → List (List ℕ)
texts ss = map string_bytes ss

-- what the params of a subscribe ask for
abbrev pub subscribe_asked : SubscribeParameters → Command
subscribe_asked p =
    Subscribe (texts p.events.items.items) (option_map (λ ids. texts ids.items.items) p.contexts)
    (option_map (λ ids. texts ids.items.items) p.user_contexts)

-- what the params of an unsubscribe ask for
abbrev pub unsubscribe_asked : UnsubscribeParameters → Command
unsubscribe_asked (ById p) = UnsubscribeById (texts p.subscriptions.items.items)
unsubscribe_asked (ByEvents p) = UnsubscribeByEvents (texts p.events.items.items)

-- what a command of the session module asks for
abbrev pub session_asked_of : ShapeOf NewParameters → SessionCommand → Command
session_asked_of shape (session.Status params) = Status
session_asked_of shape (session.New params) = New (request_of (shape.tree_of params.value))
session_asked_of shape (session.End params) = End
session_asked_of shape (session.Subscribe params) = subscribe_asked params.value
session_asked_of shape (session.Unsubscribe params) = unsubscribe_asked params

-- what a command asks for
abbrev pub asked_of : ShapeOf NewParameters → CommandData → Command
asked_of shape (Session command) = session_asked_of shape command
asked_of shape (Browser command) = OfBrowser (command_asked command)

-- The params of a new session can be written as a message. Of other commands nothing is asked.
abbrev pub IsWellAsked : ShapeOf NewParameters → CommandData → Type 0
IsWellAsked shape (Session (session.New params)) = shape.well params.value
IsWellAsked shape d = ⊤

-- The tree is that of a command with this id, which asks for this.
pub record Asks (t : Node) (id : ℕ) (asked : Command) : Type 0 where
  pub same_id : id_of_command t ≡ id
  pub what : command_of t ≡ Some asked

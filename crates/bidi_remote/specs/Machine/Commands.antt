-- What a command asks for, as its tree says. After WebDriver BiDi, "The session Module".
use Prim.Native.String.{String}
use Rattle.std.specs.Prelude.{ℕ, List, [], ◌∷◌, Option, unwrap_or, option_map, if◌then◌else◌}
use Rattle.std.specs.Option.{option_or}
use Rattle.bidi_tree.specs.Node.{Node, null}
use Rattle.bidi_handles.specs.Params.{tree_if_at, text_at, texts_at, texts_if_at, number_at, has_texts_at, entry_at}
use Rattle.bidi_contexts.specs.Actions.{Action, action_of}
use Rattle.bidi_sessions.specs.Capabilities.{Request, request_of}

-- A command, with those members of its params that matter.
pub data Command : Type 0 where
  Status : Command
  New : (request : Request) → Command
  End : Command
  Subscribe : (events : List (List ℕ)) (contexts : Option (List (List ℕ))) (users : Option (List (List ℕ))) → Command
  UnsubscribeById : (subscriptions : List (List ℕ)) → Command
  UnsubscribeByEvents : (events : List (List ℕ)) → Command
  OfBrowser : (action : Action) → Command

-- the unsubscribe in these params: by ids if `subscriptions` is a list of one or more strings, and else by events
abbrev pub unsubscribe_of : Node → Command
unsubscribe_of params =
    if has_texts_at "subscriptions" params then UnsubscribeById (texts_at "subscriptions" params)
    else UnsubscribeByEvents (texts_at "events" params)

-- the methods of the session module, and what each asks for by its params
abbrev pub session_commands : List (String × (Node → Command))
session_commands =
    ("session.status", λ p. Status)
    ∷ ("session.new", λ p. New (request_of p))
    ∷ ("session.end", λ p. End)
    ∷ ("session.subscribe", λ p. Subscribe (texts_at "events" p) (texts_if_at "contexts" p) (texts_if_at "userContexts" p))
    ∷ ("session.unsubscribe", unsubscribe_of)
    ∷ []

-- what a command of this method asks for, if there is such a method
abbrev pub command_in : List ℕ → Node → Option Command
command_in method params =
    option_or (option_map (λ reading. reading params) (entry_at session_commands method)) (option_map OfBrowser (action_of method params))

-- what the tree of a command asks for; each tree that fits the rule of commands asks for something
abbrev pub command_of : Node → Option Command
command_of t = command_in (text_at "method" t) (unwrap_or (tree_if_at "params" t) null)

-- the id in the tree of a command
abbrev pub id_of_command : Node → ℕ
id_of_command t = number_at "id" t

-- The inputs that a session would not miss: messages by which other sessions only ask or subscribe, or that are refused. This project's own.
use Rattle.std.specs.Prelude.{ℕ, ◌==◌, Bool, true, false, not, ◌&&◌, ◌||◌, List, [], ◌∷◌, codes, bytes_eq, is_err}
use Prim.Native.String.{String}
use Rattle.std.specs.List.{list_any}
use Rattle.bidi_tree.specs.Node.{Node}
use Rattle.bidi_handles.specs.Params.{text_at}
use Rattle.bidi_messages.specs.Verdict.{Verdict, Accepted, Refused}
use Rattle.bidi_remote.specs.Machine.History.{Input, Heard, Deed}
use Rattle.bidi_remote.specs.Machine.Connections.{Attachment, Shut, Alone, SpeaksFor, attachment_of}
use Rattle.bidi_remote.specs.Machine.Outcome.{answered}

-- whether a connection in this state speaks for another session than this one
abbrev pub is_for_another : ℕ → Attachment → Bool
is_for_another s Shut = false
is_for_another s Alone = false
is_for_another s (SpeaksFor t) = not (s == t)

-- the methods that change nothing that another session sees
abbrev pub quiet_methods : List String
quiet_methods =
    "session.status" ∷ "session.subscribe" ∷ "session.unsubscribe"
    ∷ "browsingContext.activate" ∷ "browsingContext.getTree" ∷ "script.getRealms" ∷ []

-- whether the method of the command is one of these
-- example: `session.subscribe`
abbrev pub is_quiet : Node → Bool
is_quiet command = list_any (λ method. bytes_eq (codes method) (text_at "method" command)) quiet_methods

-- whether a message changes nothing that another session sees: it is refused, or its method is one of these
abbrev pub is_idle : List Deed → ℕ → Verdict → Bool
is_idle past c (Accepted t) = is_quiet t || is_err (answered past c (Accepted t))
is_idle past c (Refused id code) = true

-- whether an input is struck for a session: it is an idle message of another session
-- example: `{` is struck on a connection of another session, and kept on one without a session
abbrev pub is_struck : List Deed → ℕ → Input → Bool
is_struck past s (Heard c verdict) = is_for_another s (attachment_of past c) && is_idle past c verdict
is_struck past s i = false

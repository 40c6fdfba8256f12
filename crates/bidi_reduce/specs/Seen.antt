-- What a session sees of what is sent: all that goes to the connections that speak for it. This project's own.
use Rattle.std.specs.Prelude.{ℕ, Bool, false, ◌||◌, List, [], ◌∷◌, ◌++◌, filter, Option, Some, None}
use Rattle.bidi_remote.specs.Machine.History.{Input, Deed}
use Rattle.bidi_remote.specs.Machine.Connections.{is_for, attachment_of}
use Rattle.bidi_remote.specs.Machine.Outcome.{deeds}
use Rattle.bidi_remote.specs.Machine.Sent.{Sent, Text, Close, Opened, Denied, Lost, NoEffect, out}

-- the connection on which a session may see this, if there is one
abbrev pub seen_on : Sent → Option ℕ
seen_on (Text c text) = Some c
seen_on (Close c) = Some c
seen_on (Opened c) = Some c
seen_on (Denied c) = None
seen_on (Lost c) = None
seen_on NoEffect = None

-- whether there is a connection and it speaks for the session before the step or after it
abbrev pub is_own : List Deed → List Deed → ℕ → Option ℕ → Bool
is_own past after s None = false
is_own past after s (Some c) = is_for s (attachment_of past c) || is_for s (attachment_of after c)

-- what a session sees at an input, after a history
abbrev pub seen : List Input → ℕ → Input → List Sent
seen history s i = filter (λ x. is_own (deeds history) (deeds (i ∷ history)) s (seen_on x)) (out history i)

-- what a session sees at these inputs in order, after a history
abbrev pub sees_after : List Input → ℕ → List Input → List Sent
sees_after history s [] = []
sees_after history s (i ∷ inputs) = seen history s i ++ sees_after (i ∷ history) s inputs

-- what a session sees of a whole play, in order
abbrev pub sees : List Input → ℕ → List Sent
sees inputs s = sees_after [] s inputs

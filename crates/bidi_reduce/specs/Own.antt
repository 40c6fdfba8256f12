-- The part of a past that a session can notice. This project's own.
use Rattle.std.specs.Prelude.{◌≡◌, ℕ, ◌==◌, if◌then◌else◌, List, [], ◌∷◌}
use Rattle.bidi_contexts.specs.Acts.{Looked}
use Rattle.bidi_remote.specs.Machine.History.{Deed, Subscribed, Cancelled, Dismissed, Did, Told}

-- the past without what other sessions subscribed and unsubscribed, and without commands that only read
abbrev pub own : ℕ → List Deed → List Deed
own s [] = []
own s (Subscribed t es scope ∷ past) = if s == t then Subscribed t es scope ∷ own s past else own s past
own s (Cancelled t ns ∷ past) = if s == t then Cancelled t ns ∷ own s past else own s past
own s (Dismissed t es ∷ past) = if s == t then Dismissed t es ∷ own s past else own s past
own s (Did Looked ∷ past) = own s past
own s (Told ∷ past) = own s past
own s (d ∷ past) = d ∷ own s past

-- Two pasts are alike for a session if they differ only in what the session cannot notice.
abbrev pub Alike : ℕ → List Deed → List Deed → Type 0
Alike s p q = own s p ≡ own s q

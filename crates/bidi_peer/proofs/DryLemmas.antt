-- When nothing is reported, and what a flush leaves.
use Rattle.std.proofs.Common.{◌≡◌, ◌≢◌, ◌∙◌, ℕ, Result, inl, inr, refl, subst, sym}
use Rattle.std.specs.declared.io.ErrorKind.{ErrorKind}
use Rattle.bidi_peer.specs.Ends.{IsDry, IsUnread}
use Rattle.bidi_peer.specs.Sending.{IsFlushed}
use Rattle.bidi_peer.specs.Telling.{HasEnded, HasFailed, IsCut, StaysUnlessFailed}
use Rattle.bidi_peer.specs.declared.peer.Came.{Came}
use Rattle.bidi_peer.specs.declared.peer.Came.TheVariants as telling
use Rattle.bidi_peer.specs.declared.standing.Peer.{Peer}
use Rattle.bidi_peer.specs.declared.standing.State.{State}
use Rattle.bidi_peer.specs.declared.standing.State.TheVariants as standing

ended-unread : (s : State) → HasEnded s → IsUnread s
ended-unread standing.Head ended = absurd ended
ended-unread (standing.Asked key) ended = absurd ended
ended-unread standing.Called ended = absurd ended
ended-unread standing.Open ended = absurd ended
ended-unread standing.Closing ended = absurd ended
ended-unread standing.Leaving ended = tt
ended-unread standing.Done ended = tt
ended-unread (standing.Failed failure) ended = tt

left-unread : (s : State) → StaysUnlessFailed standing.Leaving s → IsUnread s
left-unread s (inl left) = subst IsUnread (sym left) tt
left-unread s (inr failed) = ended-unread s (failed-ends s failed)
  where
    failed-ends : (s : State) → HasFailed s → HasEnded s
    failed-ends (standing.Failed failure) failed = tt
    failed-ends s failed = absurd failed

module _ {S : Type 0} (reads : S → Result ℕ ErrorKind → S → Type 0) where
  -- a connection that is not read
  pub unread_dry : (p : Peer S) (c : Came) → IsUnread p.state → IsDry reads p c
  unread_dry p telling.Nothing unread = inl unread
  unread_dry p telling.More unread = tt
  unread_dry p (telling.Asks resource) unread = tt
  unread_dry p (telling.Calls call) unread = tt
  unread_dry p (telling.Text text) unread = tt
  unread_dry p telling.NotText unread = tt
  unread_dry p telling.Ended unread = tt

  -- a connection that takes no more
  pub over_dry : (a p : Peer S) (c : Came) → HasEnded a.state → p.state ≡ a.state → IsDry reads p c
  over_dry a p c ended same = unread_dry p c (subst IsUnread (sym same) (ended-unread a.state ended))

  -- a connection that was left, or whose stream failed
  pub left_dry : (a p : Peer S) (c : Came) → StaysUnlessFailed standing.Leaving a.state → p.state ≡ a.state → IsDry reads p c
  left_dry a p c left same = unread_dry p c (subst IsUnread (sym same) (left-unread a.state left))

  -- a connection in a state in which it is not read
  pub resting_dry : (a p : Peer S) (c : Came) (s : State) → a.state ≡ s → IsUnread s → p.state ≡ a.state → IsDry reads p c
  resting_dry a p c s stands unread same = unread_dry p c (subst IsUnread (sym (same ∙ stands)) unread)

  -- a connection that was left, and then flushed
  pub left_then_dry : (b a p : Peer S) (c : Came) → b.state ≡ standing.Leaving → StaysUnlessFailed b.state a.state → p.state ≡ a.state → IsDry reads p c
  left_then_dry b a p c left stays same = left_dry a p c (subst (λ s. StaysUnlessFailed s a.state) left stays) same

  -- something is reported
  pub said_dry : (p : Peer S) (c : Came) → c ≢ telling.Nothing → IsDry reads p c
  said_dry p telling.Nothing said = absurd (said refl)
  said_dry p telling.More said = tt
  said_dry p (telling.Asks resource) said = tt
  said_dry p (telling.Calls call) said = tt
  said_dry p (telling.Text text) said = tt
  said_dry p telling.NotText said = tt
  said_dry p telling.Ended said = tt

  -- the end is reported
  pub ended_dry : (p : Peer S) (c : Came) → c ≡ telling.Ended → IsDry reads p c
  ended_dry p c is = subst (IsDry reads p) (sym is) tt

module _ {S : Type 0} (writes : S → Result ℕ ErrorKind → S → Type 0) where
  -- a connection that writes nothing more
  pub cut_flushed : (p : Peer S) → IsCut p.state → IsFlushed writes p
  cut_flushed p cut = inr (inl (p.cut cut))

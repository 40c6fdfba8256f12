-- What calls of a stream come to, one after another.
use Rattle.std.proofs.Common.{◌∙◌, ◌+◌, ℕ, List, [], Option, None, Some, Result, Err, inl, refl, subst}
use Rattle.std.specs.Io.KnownBytes.{Appends, Consumes, Keeps}
use Rattle.std.specs.declared.io.ErrorKind.{ErrorKind}
use Rattle.bidi_peer.specs.Streams.{Interrupted, IsReadStop, IsStopOf, IsWriteStop, more}
use Rattle.bidi_peer.specs.declared.stream.Stop.{Stop}
use Rattle.bidi_peer.specs.declared.stream.Stop.TheVariants.{Failed, WouldBlock}
use Rattle.bidi_peer.proofs.WaitingLemmas.{appends-then, consumes-then, keeps-appends, keeps-consumes}

pub keeps_self : (u : Option (List ℕ)) → Keeps u u
keeps_self None = tt
keeps_self (Some xs) = refl

-- what kept bytes are later
pub keeps_then : (u v w : Option (List ℕ)) → Keeps u v → Keeps v w → Keeps u w
keeps_then None v w x y = tt
keeps_then (Some xs) None w x y = absurd x
keeps_then (Some xs) (Some ys) None x y = absurd y
keeps_then (Some xs) (Some ys) (Some zs) x y = y ∙ x

pub consumes_later : (u v w : Option (List ℕ)) (bytes : List ℕ) → Keeps u v → Consumes v w bytes → Consumes u w bytes
consumes_later u v w bytes x y = consumes-then u v w [] bytes (keeps-consumes u v x) y

pub appends_later : (u v w : Option (List ℕ)) (bytes : List ℕ) → Keeps u v → Appends v w bytes → Appends u w bytes
appends_later u v w bytes x y = appends-then u v w [] bytes (keeps-appends u v x) y

module _ {S : Type 0} (calls : S → Result ℕ ErrorKind → S → Type 0) where
  -- why reads stop, by the last of them
  pub read_stopped : (s t u : S) (k : ErrorKind) (stop : Stop) → IsStopOf k (Some stop) → calls t (Err k) u → IsReadStop calls s u stop
  read_stopped s t u k WouldBlock is call = (t, subst (λ e. calls t (Err e) u) is call)
  read_stopped s t u k (Failed failure) is call = inl (k, is.0, is.1, (t, call))

  -- the same for writes
  pub write_stopped : (s t u : S) (k : ErrorKind) (stop : Stop) → IsStopOf k (Some stop) → calls t (Err k) u → IsWriteStop calls s u stop
  write_stopped s t u k WouldBlock is call = (t, subst (λ e. calls t (Err e) u) is call)
  write_stopped s t u k (Failed failure) is call = inl (inl (k, is.0, is.1, (t, call)))

  -- one more interruption
  pub interrupted : (s t u : S) (n : ℕ) (k : ErrorKind) → Interrupted calls s n t → IsStopOf k None → calls t (Err k) u → Interrupted calls s (n + 1) u
  interrupted s t u n k before is call = more n t u before (subst (λ e. calls t (Err e) u) is call)

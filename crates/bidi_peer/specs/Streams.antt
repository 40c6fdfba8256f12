-- What the answers of a stream to single calls mean.
use Rattle.std.specs.Prelude.{◌≡◌, ◌≢◌, ◌≤◌, ◌+◌, ◌-◌, ◌^◌, ◌⊎◌, ℕ, Option, None, Some, Result, Ok, Err}
use Rattle.std.specs.IoError.{error_kind}
use Rattle.std.specs.declared.io.Error.{Error}
use Rattle.std.specs.declared.io.ErrorKind.{ErrorKind}
use Rattle.std.specs.declared.io.ErrorKind.TheVariants as kind
use Rattle.bidi_peer.specs.declared.stream.Stop.{Stop}
use Rattle.bidi_peer.specs.declared.stream.Stop.TheVariants.{Failed, WouldBlock}

-- the answer to a call: so many bytes, or the kind of the error
abbrev pub answer_of : Result ℕ Error → Result ℕ ErrorKind
answer_of (Ok n) = Ok n
answer_of (Err e) = Err (error_kind e)

-- What an error means by its kind: the call was interrupted, the stream can do nothing now, or, at any other kind, the stream failed.
abbrev pub IsStopOf : ErrorKind → Option Stop → Type 0
IsStopOf k None = k ≡ kind.Interrupted
IsStopOf k (Some WouldBlock) = k ≡ kind.WouldBlock
IsStopOf k (Some (Failed failure)) = (k ≢ kind.Interrupted) × (k ≢ kind.WouldBlock)

-- So many calls in a row had this answer, and lead from the first state of a stream to the second.
pub data Repeats (S : Type 0) (calls : S → Result ℕ ErrorKind → S → Type 0) (answer : Result ℕ ErrorKind) (s : S) : ℕ → S → Type 0 where
  none : Repeats S calls answer s 0 s
  more : (n : ℕ) (t u : S) → Repeats S calls answer s n t → calls t answer u → Repeats S calls answer s (n + 1) u

module _ {S : Type 0} where
  -- So many reads, or writes, in a row were interrupted.
  abbrev pub Interrupted : (S → Result ℕ ErrorKind → S → Type 0) → S → ℕ → S → Type 0
  Interrupted calls s n t = Repeats S calls (Err kind.Interrupted) s n t

  -- The last call of the stream had this answer.
  abbrev pub Answered : (S → Result ℕ ErrorKind → S → Type 0) → Result ℕ ErrorKind → S → Type 0
  Answered calls answer t = (s : S) × calls s answer t

  -- The last call of the stream could do nothing for now.
  abbrev pub Blocked : (S → Result ℕ ErrorKind → S → Type 0) → S → Type 0
  Blocked calls t = Answered calls (Err kind.WouldBlock) t

  -- Why reads stopped: the last could do nothing for now; or the stream failed, by another error than an interruption or by 2^64 - 1 interruptions in a row.
  abbrev pub IsReadStop : (S → Result ℕ ErrorKind → S → Type 0) → S → S → Stop → Type 0
  IsReadStop reads s t WouldBlock = Blocked reads t
  IsReadStop reads s t (Failed failure) =
      ((k : ErrorKind) × (k ≢ kind.Interrupted) × (k ≢ kind.WouldBlock) × Answered reads (Err k) t)
      ⊎ ((n : ℕ) × (2 ^ 64 - 1 ≤ n) × Interrupted reads s n t)

  -- Why writes stopped: as reads do, or because the stream took none of the bytes, by which it failed.
  abbrev pub IsWriteStop : (S → Result ℕ ErrorKind → S → Type 0) → S → S → Stop → Type 0
  IsWriteStop writes s t WouldBlock = Blocked writes t
  IsWriteStop writes s t (Failed failure) = IsReadStop writes s t (Failed failure) ⊎ Answered writes (Ok 0) t

-- Why a call of a test has no effect.
use Rattle.std.proofs.Common.{◌≡◌, ◌∙◌, ℕ, Result, Ok, Err, sym, subst}
use Rattle.std.specs.Prelude.{IfErr}
use Rattle.std.specs.Result.{IsErrAnd}
use Rattle.bidi_rows.specs.declared.fault.RowFault.{RowFault}
use Rattle.bidi_rows.specs.declared.fault.RowFault.TheVariants as rows
use Rattle.bidi_rows.specs.Rows.{Row}
use Rattle.bidi_rows.specs.Refusals.{HasReason}
use Rattle.bidi_remote.specs.declared.remote_end.RemoteFault.{RemoteFault}
use Rattle.bidi_remote.specs.declared.remote_end.RemoteFault.TheVariants as remote
use Rattle.bidi_scripted.specs.declared.fault.ScriptFault.{ScriptFault}
use Rattle.bidi_scripted.specs.declared.fault.ScriptFault.TheVariants.{NoMemory, WornOut, BadRow, TooManyRows, TooMuchKept}
use Rattle.bidi_scripted.specs.Faults.{fault_of, fault_of_row, RefusesRow}
use Rattle.bidi_scripted.specs.Script.{Script}

-- a text that was not read
pub not-read : {R : RowFault → Type 0} (W : ScriptFault → Type 0) (e : RowFault) → HasReason R e → W NoMemory → ((f : RowFault) → R f → W (BadRow f))
    → W (fault_of_row e)
not-read W rows.NoMemory why m f = m
not-read W e why m f = f e why

-- the fault of a text that was not read, as `?` returns it
pub refused : {Y : Type 0} {R : RowFault → Type 0} (W : ScriptFault → Type 0) (e : RowFault) (r : Result Y ScriptFault) → IsErrAnd r (λ y. y ≡ fault_of_row e)
    → HasReason R e → W NoMemory → ((f : RowFault) → R f → W (BadRow f)) → IfErr r W
refused W e (Ok y) h why m f = tt
refused W e (Err y) h why m f = subst W (sym h) (not-read W e why m f)

err-same : {T E : Type 0} {y z : E} → ◌≡◌ {A = Result T E} (Err y) (Err z) → y ≡ z
err-same e = cc

-- what holds of the fault of a call that failed
pub err-is : {Y : Type 0} (W : ScriptFault → Type 0) (r : Result Y ScriptFault) (f : ScriptFault) → IfErr r W → r ≡ Err f → W f
err-is W (Ok y) f w is = cc
err-is W (Err y) f w is = subst W (err-same is) w

-- a fault that `?` returns as it is
pub as-it-was : {Y : Type 0} (W : ScriptFault → Type 0) (e : ScriptFault) (r : Result Y ScriptFault) → IsErrAnd r (λ y. y ≡ e) → W e → IfErr r W
as-it-was W e (Ok y) h w = tt
as-it-was W e (Err y) h w = subst W (sym h) w

lives : (e : RowFault) → fault_of_row e ≡ WornOut → ⊥
lives rows.NoMemory is = cc
lives e is = cc

-- it is never `WornOut`
pub unread-lives : {Y : Type 0} (e : RowFault) (r : Result Y ScriptFault) → IsErrAnd r (λ y. y ≡ fault_of_row e) → r ≡ Err WornOut → ⊥
unread-lives e (Ok y) h is = cc
unread-lives e (Err y) h is = lives e (sym h ∙ err-same is)

-- what holds of each fault of the remote end
pub remote-fault : (W : ScriptFault → Type 0) (e : RemoteFault) → W NoMemory → W WornOut → W (fault_of e)
remote-fault W remote.NoMemory m w = m
remote-fault W remote.WornOut m w = w

-- the fault of the remote end, as `?` returns it
pub remote-refused : {Y : Type 0} (W : ScriptFault → Type 0) (e : RemoteFault) (r : Result Y ScriptFault) → IsErrAnd r (λ y. y ≡ fault_of e) → W NoMemory → W WornOut → IfErr r W
remote-refused W e (Ok y) h m w = tt
remote-refused W e (Err y) h m w = subst W (sym h) (remote-fault W e m w)

-- why a row that was read is not added
pub not-added : (R : RowFault → Type 0) (IsRow : Row → Type 0) (x : Row) (s : Script) (n : ℕ) → IsRow x → (f : ScriptFault)
    → RefusesRow (λ g. ⊥) (λ r. r ≡ x) s n f → RefusesRow R IsRow s n f
not-added R IsRow x s n is NoMemory w = tt
not-added R IsRow x s n is (BadRow g) w = absurd w
not-added R IsRow x s n is TooManyRows w = ((x, is), w.1)
not-added R IsRow x s n is TooMuchKept w = ((x, is), w.1, w.2)
not-added R IsRow x s n is f w = absurd w

-- one fact of a fault for another
pub if-err : {T E : Type 0} {P Q : E → Type 0} (r : Result T E) → ((e : E) → P e → Q e) → IfErr r P → IfErr r Q
if-err (Ok t) f p = tt
if-err (Err e) f p = f e p

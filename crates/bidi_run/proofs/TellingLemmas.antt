-- Writing a line at once or in parts, and the status of a fault.
use Rattle.std.proofs.Common.{ℕ, ◌+◌, ◌≤◌, List, ◌++◌, length, take, length-append, sym, subst, arith, inl, inr, Ok, Err}
use Rattle.std.specs.Prelude.{Option, Result, OnOk, OnErr}
use Rattle.std.proofs.Math.Seq.{take-append-add}
use Rattle.std.proofs.lemmas.List.{take-append-le}
use Rattle.std.specs.Io.KnownBytes.{Appends}
use Rattle.std.proofs.KnownBytes.{Appends-trans}
use Rattle.bidi_lines.specs.Devices.{AppendsBeginning, CountsFailure}
use Rattle.bidi_lines.specs.declared.answering.LinesFault.{LinesFault}
use Rattle.bidi_lines.specs.declared.answering.LinesFault.TheVariants as lines
use Rattle.bidi_play.specs.declared.playing.PlayFault.{PlayFault}
use Rattle.bidi_play.specs.declared.playing.PlayFault.TheVariants as play
use Rattle.bidi_recorder.specs.declared.fault.HostingFault.{HostingFault}
use Rattle.bidi_recorder.specs.declared.fault.HostingFault.TheVariants as host
use Rattle.bidi_run.specs.Runs.{Tells, status_of}
use Rattle.bidi_run.specs.declared.faults.RunFault.{RunFault}
use Rattle.bidi_run.specs.declared.faults.RunFault.TheVariants.{Play, Pair, Listing, Serve, Host}

-- a beginning of the first part is one of both
pub begins_first : (a b : Option (List ℕ)) (xs ys : List ℕ) → AppendsBeginning a b xs → AppendsBeginning a b (xs ++ ys)
begins_first a b xs ys (n, short, part) =
    let long = length-append xs ys in
    (n, omega (arith, long), subst (Appends a b) (sym (take-append-le n xs ys (omega arith))) part)

-- the first part, and a beginning of the second after it
pub begins_second : (a b c : Option (List ℕ)) (xs ys : List ℕ) → Appends a b xs → AppendsBeginning b c ys → AppendsBeginning a c (xs ++ ys)
begins_second a b c xs ys whole (n, short, part) =
    let long = length-append xs ys in
    (length xs + n, omega (arith, long), subst (Appends a c) (sym (take-append-add xs ys n)) (Appends-trans a b c xs (take n ys) whole part))

-- from the bytes and failures of a write: the line was written
pub told : {T E : Type 0} (r : Result T E) (a b : Option (List ℕ)) (failed failed' : ℕ) (line : List ℕ)
    → OnOk r (Appends a b line) → OnErr r (AppendsBeginning a b line)
    → CountsFailure r failed failed' → Tells a b failed failed' line
told (Ok x) a b failed failed' line whole part counts = inl (counts, whole)
told (Err e) a b failed failed' line whole part counts = inr (counts, part)

-- a consequence of an Ok, or of an Err
pub on_ok : {T E P Q : Type 0} (r : Result T E) → (P → Q) → OnOk r P → OnOk r Q
on_ok (Ok x) f p = f p
on_ok (Err e) f p = tt

pub on_err : {T E P Q : Type 0} (r : Result T E) → (P → Q) → OnErr r P → OnErr r Q
on_err (Ok x) f p = tt
on_err (Err e) f p = f p

-- ---- statuses

of_play : (f : PlayFault) → 2 ≤ status_of (Play f)
of_play play.Read = omega arith
of_play play.Write = omega arith
of_play (play.BadLine n) = omega arith
of_play play.NoMemory = omega arith
of_play play.WornOut = omega arith

of_pair : (f : LinesFault) → 2 ≤ status_of (Pair f)
of_pair lines.Read = omega arith
of_pair lines.Write = omega arith
of_pair (lines.BadLine n) = omega arith
of_pair lines.NoMemory = omega arith
of_pair lines.TooManyLines = omega arith
of_pair lines.WornOut = omega arith

of_listing : (f : LinesFault) → 2 ≤ status_of (Listing f)
of_listing lines.Read = omega arith
of_listing lines.Write = omega arith
of_listing (lines.BadLine n) = omega arith
of_listing lines.NoMemory = omega arith
of_listing lines.TooManyLines = omega arith
of_listing lines.WornOut = omega arith

of_hosting : (f : HostingFault) → 2 ≤ status_of (Host f)
of_hosting (host.BadLine n) = omega arith
of_hosting host.Read = omega arith
of_hosting host.Answer = omega arith
of_hosting host.Write = omega arith
of_hosting host.Listen = omega arith
of_hosting host.NoMemory = omega arith
of_hosting host.WornOut = omega arith
of_hosting host.Unsaid = omega arith

-- a fault's status is none of a run that met none
pub fault_status : (f : RunFault) → 2 ≤ status_of f
fault_status (Play f) = of_play f
fault_status (Pair f) = of_pair f
fault_status (Listing f) = of_listing f
fault_status (Serve f) = omega arith
fault_status (Host f) = of_hosting f

-- The answers of a line reader are right.
use Rattle.std.proofs.Common.{◌≡◌, ◌≢◌, ℕ, ◌+◌, ◌<◌, ◌≤◌, Bool, true, false, List, [], ◌++◌, length, take}
use Rattle.std.proofs.Common.{take_all, length-append, append-nil, sym, ◌∙◌, ap, arith, inl, inr, subst, Ok, Err, Some, None}
use Rattle.std.specs.Prelude.{Option, Result, IsErr, IsErrAnd}
use Rattle.std.specs.Borrow.{Bor}
use Rattle.std.specs.Io.KnownBytes.{Consumes}
use Rattle.bidi_lines.specs.Devices.{ReadsOn}
use Rattle.bidi_lines.specs.Feeds.{has_feed, ended}
use Rattle.bidi_lines.specs.declared.line_reader.InputFault.{InputFault}
use Rattle.bidi_lines.specs.declared.line_reader.InputFault.TheVariants.{Read, BadLine, NoMemory}
use Rattle.bidi_lines.specs.InputLines.{IsLine, BeginsBadly, SaysLent, lent, says_of}
use Rattle.bidi_lines.proofs.FeedLemmas.{no_feed_front}
use Rattle.bidi_lines.proofs.ResultLemmas.{no_truth}

-- a first line feed past the limit comes too late
pub feed_too_late : (at_end : Bool) (bs : List ℕ) (i : ℕ) → has_feed (take i bs) ≡ false → 2097152 < i → i + 1 ≤ length bs → BeginsBadly at_end bs
feed_too_late at_end bs i none late within =
    record { no_feed = no_feed_front bs 2097153 i (omega arith) none; enough = inl (omega arith) }

no_feed_whole : (bs : List ℕ) → has_feed bs ≡ false → has_feed (take 2097153 bs) ≡ false
no_feed_whole bs none =
    no_feed_front bs 2097153 (2097153 + length bs) (omega arith) (ap has_feed (take_all (2097153 + length bs) bs (omega arith)) ∙ none)

pub too_long : (at_end : Bool) (bs : List ℕ) → has_feed bs ≡ false → 2097152 < length bs → BeginsBadly at_end bs
too_long at_end bs none long = record { no_feed = no_feed_whole bs none; enough = inl long }

pub no_feed_at_end : (at_end : Bool) (bs : List ℕ) → has_feed bs ≡ false → at_end ≡ true → 0 < length bs → BeginsBadly at_end bs
no_feed_at_end at_end bs none ended some =
    record { no_feed = no_feed_whole bs none; enough = inr (ended, λ e. let n = ap length e in absurd (omega (arith, n))) }

-- a list that is no longer than its beginning is that beginning
pub no_more : (old new more : List ℕ) → new ≡ old ++ more → length new ≡ length old + 0 → new ≡ old
no_more old new [] e same = e ∙ append-nil old
no_more old new more e same = let l = ap length e in absurd (omega (arith, l, length-append old more))

-- after a fault of a read, the held bytes may be the beginning of a line
pub says_fault : {L : Type 0} (bytes_of : L → List ℕ) (r : Result (Option L) InputFault) (fault : InputFault) (at_end : Bool) (held : List ℕ)
    → IsErr r × IsErrAnd r (λ x. x ≡ fault) → fault ≢ BadLine → has_feed held ≡ false → length held ≤ 2097152 → says_of bytes_of r at_end held
says_fault bytes_of (Ok x) fault at_end held e good none short = absurd (no_truth e.0)
says_fault bytes_of (Err Read) fault at_end held e good none short = record { one_line = none; short = short }
says_fault bytes_of (Err BadLine) fault at_end held e good none short = absurd (good (sym e.1))
says_fault bytes_of (Err NoMemory) fault at_end held e good none short = tt

-- the line that an answer lends
pub lent_line : (a b : Option (List ℕ)) (rest rest' : List ℕ) (at_end : Bool) (r : Result (Option (Bor (List ℕ))) InputFault) (found : Option (Bor (List ℕ)))
    (line : Bor (List ℕ)) → r ≡ Ok found → found ≡ Some line → ReadsOn a b rest (lent r ++ rest') × SaysLent r at_end rest'
    → (bytes : List ℕ) × (ended line.now ++ rest' ≡ rest ++ bytes) × Consumes a b bytes × IsLine line.now
lent_line a b rest rest' at_end (Err fault) found line is e (read, says) = absurd cc
lent_line a b rest rest' at_end (Ok None) found line is e (read, says) = absurd cc
lent_line a b rest rest' at_end (Ok (Some v)) found line is e (read, says) =
    let same : v ≡ line = cc in
    subst (λ (w : Bor (List ℕ)). (bytes : List ℕ) × (ended w.now ++ rest' ≡ rest ++ bytes) × Consumes a b bytes × IsLine w.now) same (read.0, read.1, read.2, says)

-- nothing is left at the end of the input
pub lent_none : (a b : Option (List ℕ)) (rest rest' : List ℕ) (at_end : Bool) (r : Result (Option (Bor (List ℕ))) InputFault) (found : Option (Bor (List ℕ)))
    → r ≡ Ok found → found ≡ None → ReadsOn a b rest (lent r ++ rest') × SaysLent r at_end rest'
    → (bytes : List ℕ) × (rest' ≡ rest ++ bytes) × Consumes a b bytes × (rest' ≡ [])
lent_none a b rest rest' at_end (Err fault) found is e (read, says) = absurd cc
lent_none a b rest rest' at_end (Ok None) found is e (read, says) = (read.0, read.1, read.2, says.1)
lent_none a b rest rest' at_end (Ok (Some v)) found is e (read, says) = absurd cc

-- a fault lends nothing, and says what is held
pub lent_fault : (a b : Option (List ℕ)) (rest rest' : List ℕ) (at_end : Bool) (r : Result (Option (Bor (List ℕ))) InputFault) (fault : InputFault)
    → r ≡ Err fault → ReadsOn a b rest (lent r ++ rest') × SaysLent r at_end rest' → ReadsOn a b rest rest' × SaysLent (Err fault) at_end rest'
lent_fault a b rest rest' at_end r fault is h =
    subst (λ (q : Result (Option (Bor (List ℕ))) InputFault). ReadsOn a b rest (lent q ++ rest') × SaysLent q at_end rest') is h

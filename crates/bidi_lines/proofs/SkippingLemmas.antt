-- The bytes that are skipped are a line that is too long.
use Rattle.std.proofs.Common.{◌≡◌, ℕ, ◌<◌, ◌≤◌, Bool, true, false, List, [], ◌∷◌, ◌++◌, length, take, take_all, Option, Ok, Err}
use Rattle.std.proofs.Common.{length-append, append_assoc, append-nil, refl, sym, ◌∙◌, ap, ap₂, subst, arith, true≢false, inl, inr}
use Rattle.std.specs.Prelude.{Result, IsErr, IsErrAnd, ◌⊎◌, ◌≢◌}
use Rattle.std.specs.Global.{Vec}
use Rattle.std.proofs.Math.Nat.{lt_of_not-le}
use Rattle.std.proofs.lemmas.List.{take-append-le}
use Rattle.std.proofs.KnownBytes.{Consumes-trans}
use lib.Seq.{take-append_seam}
use Rattle.bidi_lines.specs.Devices.{ReadsOn}
use Rattle.bidi_lines.specs.Feeds.{has_feed, ended}
use Rattle.bidi_lines.specs.InputLines.{BeginsBadly}
use Rattle.bidi_lines.specs.Skipping.{SkipsLine, skips}
use Rattle.bidi_lines.specs.declared.line_reader.InputFault.{InputFault}
use Rattle.bidi_lines.specs.declared.line_reader.InputFault.TheVariants.{Read, BadLine, NoMemory}
use Rattle.bidi_lines.specs.declared.line_reader.Skipped.{Skipped}
use Rattle.bidi_lines.specs.declared.line_reader.Skipped.TheVariants.{TooLong, TooLongLast, Unended}
use Rattle.bidi_lines.proofs.DeviceLemmas.{ReadsOn-nil}
use Rattle.bidi_lines.proofs.FeedLemmas.{feed_there, no_feed_append, no_feed_front}
use Rattle.bidi_lines.proofs.ResultLemmas.{no_truth}

-- bytes whose front has no line feed begin with no short line
long_line : (held bytes line rest : List ℕ) → has_feed (take 2097153 held) ≡ false → 2097152 < length held
    → ended line ++ rest ≡ held ++ bytes → 2097152 < length line
long_line held bytes line rest none long e = lt_of_not-le (λ short.
    let whole = ended line in
    let l = length-append line (10 ∷ []) in
    let front : take (length whole) (held ++ bytes) ≡ whole = ap (take (length whole)) (sym e) ∙ take-append_seam whole rest in
    let same : take 2097153 (held ++ bytes) ≡ take 2097153 held = take-append-le 2097153 held bytes (omega (arith, long)) in
    let clear = no_feed_front (held ++ bytes) (length whole) 2097153 (omega (arith, l, short)) (ap has_feed same ∙ none) in
    absurd (true≢false (sym (feed_there line [] whole refl) ∙ (ap has_feed (sym front) ∙ clear))))

-- a line feed after the skipped bytes, grouped to the left
skip_found : (gone here more : List ℕ) → gone ++ (here ++ 10 ∷ more) ≡ ended (gone ++ here) ++ more
skip_found gone here more = sym (append_assoc (gone ++ here) (10 ∷ []) more ∙ append_assoc gone here (10 ∷ more))

-- the line feed of the line was found
pub skip_done : (a b : Option (List ℕ)) (at_end : Bool) (old gone held here more new : List ℕ) → ReadsOn a b old (gone ++ held) → has_feed gone ≡ false
    → held ≡ here ++ 10 ∷ more → has_feed here ≡ false → new ≡ more → has_feed (take 2097153 old) ≡ false → 2097152 < length old
    → SkipsLine a b old new (skips (Ok TooLong) at_end)
skip_done a b at_end old gone held here more new (bs, e, p) none is clear same front long =
    let line = gone ++ here in
    let whole : ended line ++ new ≡ old ++ bs =
    sym (ap (λ (z : List ℕ). gone ++ z) is ∙ (skip_found gone here more ∙ ap (λ (z : List ℕ). ended line ++ z) (sym same))) ∙ e in
    (ended line, (bs, whole, p), (line, record { one_line = no_feed_append gone here none clear; long = long_line old bs line new front long whole }, refl))

-- the held bytes are skipped too, and more were read
pub skip_more : (a b c : Option (List ℕ)) (old gone held new : List ℕ) → ReadsOn a b old (gone ++ held) → ReadsOn b c [] new → ReadsOn a c old ((gone ++ held) ++ new)
skip_more a b c old gone held new (bs, e, p) (cs, f, q) =
    (bs ++ cs, ap₂ (λ (x y : List ℕ). x ++ y) e f ∙ append_assoc old bs cs, Consumes-trans a b c bs cs p q)

-- no bytes are left after the skipped ones
pub skip_last : (a c : Option (List ℕ)) (at_end : Bool) (old gone held new : List ℕ) → ReadsOn a c old ((gone ++ held) ++ new) → has_feed gone ≡ false
    → has_feed held ≡ false → at_end ≡ true → new ≡ [] → 2097152 < length old → SkipsLine a c old new (skips (Ok TooLongLast) at_end)
skip_last a c at_end old gone held new (bs, e, p) none clear ended_now nothing long =
    let whole = ap length e in
    let l = length-append (gone ++ held) new in
    let m = length-append old bs in
    let n = ap length nothing in (
      gone ++ held,
      (bs, e, p),
      (record { one_line = no_feed_append gone held none clear; long = omega (arith, whole, l, m, n, long) }, (ended_now, nothing)),
    )

-- a fault of a read leaves no whole line gone, and nothing held
pub skip_fault : (a c : Option (List ℕ)) (r : Result Skipped InputFault) (fault : InputFault) (at_end : Bool) (old gone new : List ℕ)
    → IsErr r × IsErrAnd r (λ x. x ≡ fault) → fault ≢ BadLine → ReadsOn a c old (gone ++ new) → has_feed gone ≡ false → new ≡ []
    → SkipsLine a c old new (skips r at_end)
skip_fault a c (Ok x) fault at_end old gone new e good reads none nothing = absurd (no_truth e.0)
skip_fault a c (Err Read) fault at_end old gone new e good reads none nothing = (gone, reads, (none, nothing))
skip_fault a c (Err BadLine) fault at_end old gone new e good reads none nothing = absurd (good (sym e.1))
skip_fault a c (Err NoMemory) fault at_end old gone new e good reads none nothing = (gone, reads, none)

-- bytes that are held and begin no line, and that are not too many, are the last of the input
pub skip_unended : (a : Option (List ℕ)) (at_end : Bool) (old new : List ℕ) (last : Vec ℕ) → BeginsBadly at_end old → length old ≤ 2097152
    → last.items ≡ old → new ≡ [] → SkipsLine a a old new (skips (Ok (Unended last)) at_end)
skip_unended a at_end old new last bad short same nothing =
    let whole : take 2097153 old ≡ old = take_all 2097153 old (omega (arith, short)) in
    let one_line = ap has_feed same ∙ (ap has_feed (sym whole) ∙ bad.no_feed) in
    let l = ap length same in
    let rest = at_last bad.enough in (
      last.items,
      subst (λ (z : List ℕ). ReadsOn a a old z) (sym (ap₂ (λ (x y : List ℕ). x ++ y) same nothing ∙ append-nil old)) (ReadsOn-nil a old),
      (refl, record { one_line = one_line; short = omega (arith, l, short) }, (λ none. rest.1 (sym same ∙ none)), (rest.0, nothing)),
    )
  where
    at_last : (2097152 < length old) ⊎ ((at_end ≡ true) × (old ≢ [])) → (at_end ≡ true) × (old ≢ [])
    at_last (inl long) = absurd (omega (arith, long, short))
    at_last (inr h) = h

-- a list without elements
pub nothing : (bs : List ℕ) → length bs ≡ 0 → bs ≡ []
nothing [] e = refl
nothing (b ∷ bs) e = absurd (omega (arith, e))

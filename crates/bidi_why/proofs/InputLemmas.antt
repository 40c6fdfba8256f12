-- What comes next in an input.
use Rattle.std.proofs.Common.{◌≡◌, ◌<◌, ◌++◌, ℕ, Bool, false, length, append-nil, arith, List, [], Option, Ok, Err, sym, ◌∙◌, ap, subst}
use Rattle.std.specs.Prelude.{Result}
use Rattle.bidi_lines.specs.Devices.{ReadsOn}
use Rattle.bidi_lines.specs.Feeds.{has_feed}
use Rattle.bidi_lines.specs.Skipping.{SkipsLine, skips}
use Rattle.bidi_lines.specs.declared.line_reader.InputFault.{InputFault}
use Rattle.bidi_lines.specs.declared.line_reader.InputFault.TheVariants.{Read, BadLine, NoMemory}
use Rattle.bidi_lines.specs.declared.line_reader.Skipped.{Skipped}
use Rattle.bidi_lines.specs.declared.line_reader.Skipped.TheVariants as skipped
use Rattle.bidi_lines.proofs.DeviceLemmas.{ReadsOn-trans}
use Rattle.bidi_why.specs.Input.{IsOf, finds, found_of}
use Rattle.bidi_why.specs.declared.next_line.Line.{Line}
use Rattle.bidi_why.specs.declared.next_line.Line.TheVariants as line
use Rattle.bidi_why.specs.declared.next_line.Found.{Found}

-- what was skipped is what comes next
found_by_skip : (r : Result Skipped InputFault) (at_end : Bool) (gone held : List ℕ) → skips r at_end gone held → finds (found_of r) at_end gone held
found_by_skip (Ok skipped.TooLong) at_end gone held (bytes, long, is) = (bytes, long, is)
found_by_skip (Ok skipped.TooLongLast) at_end gone held (long, last) = (long, some_bytes gone long.long, last)
  where
    some_bytes : (bytes : List ℕ) → 2097152 < length bytes → bytes ≡ [] → ⊥
    some_bytes bytes long e = let l = ap length e in absurd (omega (arith, l, long))
found_by_skip (Ok (skipped.Unended text)) at_end gone held (same, is, some, last) = ((same, is), some, last)
found_by_skip (Err Read) at_end gone held (none, nothing) = ap (λ (z : List ℕ). has_feed (gone ++ z)) nothing ∙ ap has_feed (append-nil gone) ∙ none
found_by_skip (Err BadLine) at_end gone held endless = endless
found_by_skip (Err NoMemory) at_end gone held none = none

-- a line is skipped behind what was read of it
pub finds_skipped : (a b c : Option (List ℕ)) (old mid new : List ℕ) (r : Result Skipped InputFault) (found : Result Found InputFault) (at_end : Bool)
    → found ≡ found_of r → ReadsOn a b old mid → SkipsLine b c mid new (skips r at_end) → SkipsLine a c old new (finds found at_end)
finds_skipped a b c old mid new r found at_end is reads (gone, more, s) =
    subst (λ (x : Result Found InputFault). SkipsLine a c old new (finds x at_end)) (sym is)
    (gone, ReadsOn-trans a b c old mid (gone ++ new) reads more, found_by_skip r at_end gone new s)

-- no line feed stands in a line
pub one_line : (l : Line) (bytes : List ℕ) → IsOf l bytes → has_feed bytes ≡ false
one_line (line.Text text) bytes (same, is) = is.one_line
one_line line.TooLong bytes long = long.one_line

-- what was found is known by another name
pub found_as : (a b : Option (List ℕ)) (rest rest' : List ℕ) (at_end : Bool) (f x : Found) → f ≡ x
    → SkipsLine a b rest rest' (let r : Result Found InputFault = Ok f in finds r at_end)
    → SkipsLine a b rest rest' (let r : Result Found InputFault = Ok x in finds r at_end)
found_as a b rest rest' at_end f x e s = subst (λ (y : Found). SkipsLine a b rest rest' (let r : Result Found InputFault = Ok y in finds r at_end)) e s

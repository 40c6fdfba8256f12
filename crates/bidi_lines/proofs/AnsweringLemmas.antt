-- Answering one more line of an input, and stopping.
use Rattle.std.proofs.Common.{◌≡◌, ◌≢◌, ℕ, ◌+◌, ◌<◌, ◌≤◌, Bool, List, [], ◌∷◌, ◌++◌, length, length-append, length-drop, take, drop}
use Rattle.std.proofs.Common.{take-append-drop, append_assoc, arith, refl, sym, ◌∙◌, ap, subst, inl, inr, true, false, true≢false, take_all, Err}
use Rattle.std.proofs.Math.Nat.{lt_of_not-le}
use Rattle.std.proofs.lemmas.Bool.{false_from_ne_true}
use Rattle.std.proofs.lemmas.List.{length-take}
use Rattle.std.specs.Prelude.{◌⊎◌}
use Rattle.std.specs.List.{AllByRecursion}
use Rattle.std.proofs.lemmas.Grind.{flat_map-append}
use lib.Seq.{take-append_seam}
use Rattle.bidi_lines.specs.Feeds.{ended, has_feed}
use Rattle.bidi_lines.specs.InputLines.{IsLine, BeginsBadly, HasLine, SaysLent, joined}
use Rattle.bidi_lines.specs.Answering.{AnswersOf, LineIs, answer_fault_of, lines_fault_of, run_of}
use Rattle.bidi_lines.specs.Stops.{BeginsWith, IsCutOff, StopsAt}
use Rattle.bidi_lines.specs.declared.answering.LinesFault.{LinesFault}
use Rattle.bidi_lines.specs.declared.answering.LinesFault.TheVariants.{BadLine, Write}
use Rattle.bidi_lines.specs.declared.answering.AnswerFault.{AnswerFault}
use Rattle.bidi_lines.specs.declared.answering.AnswerFault.TheVariants as answer
use Rattle.bidi_lines.specs.declared.line_reader.InputFault.{InputFault}
use Rattle.bidi_lines.specs.declared.line_reader.InputFault.TheVariants as fault
use Rattle.bidi_lines.proofs.FeedLemmas.{feed_there, first_feed, no_feed_front, one_front, regroup}

-- a property of each item of a list, and of one more item
pub all_more : {X : Type 0} (P : X → Type 0) (xs : List X) (x : X) → AllByRecursion P xs → P x → AllByRecursion P (xs ++ x ∷ [])
all_more P [] x a p = (p, tt)
all_more P (y ∷ ys) x a p = (a.0, all_more P ys x a.1 p)

-- a part of nothing is nothing
pub no_part : (xs ys : List ℕ) → xs ++ ys ≡ [] → ys ≡ []
no_part [] ys e = e
no_part (x ∷ xs) ys e = cc

-- ---- the front of the bytes

-- more bytes were read, of no whole line
pub begins_read : {P : List ℕ → Type 0} (read bytes rest rest' : List ℕ) (lines : List (List ℕ))
    → BeginsWith P read lines rest → rest' ≡ rest ++ bytes → BeginsWith P (read ++ bytes) lines rest'
begins_read read bytes rest rest' lines b e = record {
  front = ap (λ (z : List ℕ). z ++ bytes) b.front ∙ (append_assoc (joined lines) rest bytes ∙ ap (λ (z : List ℕ). joined lines ++ z) (sym e));
  each = b.each;
}

-- all bytes that were read are used up
pub begins_all : {P : List ℕ → Type 0} (read rest : List ℕ) (lines : List (List ℕ)) → BeginsWith P read lines rest → rest ≡ [] → BeginsWith P read lines []
begins_all {P} read rest lines b none = subst (λ (r : List ℕ). BeginsWith P read lines r) none b

-- one more line, whose last bytes were just read
pub begins_more : {P : List ℕ → Type 0} (read bytes line rest rest' : List ℕ) (lines : List (List ℕ))
    → BeginsWith P read lines rest → ended line ++ rest' ≡ rest ++ bytes → P line → BeginsWith P (read ++ bytes) (lines ++ line ∷ []) rest'
begins_more {P} read bytes line rest rest' lines b e is = record {
  front =
      ap (λ (z : List ℕ). z ++ bytes) b.front
      ∙ (append_assoc (joined lines) rest bytes ∙ (ap (λ (z : List ℕ). joined lines ++ z) (sym e ∙ append_assoc line (10 ∷ []) rest')
      ∙ sym (ap (λ (z : List ℕ). z ++ rest') (flat_map-append ended lines (line ∷ [])) ∙ regroup (joined lines) line rest')));
  each = all_more P lines line b.each is;
}

-- bytes that begin with no line begin with none of any kind
pub no_line : (P : List ℕ → Type 0) (at_end : Bool) (rest : List ℕ) → BeginsBadly at_end rest → LineIs P rest
no_line P at_end rest bad line more is e =
    let whole = ended line in
    let long = length-append line (10 ∷ []) in
    let short = is.short in
    let front : take (length whole) rest ≡ whole = ap (take (length whole)) e ∙ take-append_seam whole more in
    let none = no_feed_front rest (length whole) 2097153 (omega (arith, long, short)) bad.no_feed in
    absurd (true≢false (sym (feed_there line [] whole refl) ∙ (ap has_feed (sym front) ∙ none)))

-- the line at the front is the only one there
pub the_line : (P : List ℕ → Type 0) (line rest : List ℕ) → IsLine line → P line → LineIs P (ended line ++ rest)
the_line P line rest is p other more also e =
    subst P (one_front 10 line rest other more is.one_line also.one_line
    (sym (append_assoc line (10 ∷ []) rest) ∙ (e ∙ append_assoc other (10 ∷ []) more))).0 p

-- bytes that have a line, and no whole one at their front, begin badly
pub begins_badly : (at_end : Bool) (rest : List ℕ) → HasLine at_end rest → LineIs (λ line. ⊥) rest → BeginsBadly at_end rest
begins_badly at_end rest has none =
    let clear = false_from_ne_true (has_feed (take 2097153 rest)) (λ some. front_line rest none (first_feed (take 2097153 rest) some)) in record {
      no_feed = clear;
      enough = too_long at_end rest clear has;
    }
  where
    front_line : (rest : List ℕ) → LineIs (λ line. ⊥) rest
        → ((line : List ℕ) × (more : List ℕ) × (take 2097153 rest ≡ line ++ 10 ∷ more) × (has_feed line ≡ false) × (length line < length (take 2097153 rest))) → ⊥
    front_line rest none (line, more, e, one_line, short) =
        let long = length-take 2097153 rest in
        none line (more ++ drop 2097153 rest) (record { one_line = one_line; short = omega (arith, long, short) })
        (sym (take-append-drop 2097153 rest)
        ∙ (ap (λ (z : List ℕ). z ++ drop 2097153 rest) e
        ∙ (append_assoc line (10 ∷ more) (drop 2097153 rest) ∙ sym (append_assoc line (10 ∷ []) (more ++ drop 2097153 rest)))))

    too_long : (at_end : Bool) (rest : List ℕ) → has_feed (take 2097153 rest) ≡ false → HasLine at_end rest
        → (2097152 < length rest) ⊎ ((at_end ≡ true) × (rest ≢ []))
    too_long at_end rest clear (inl some) =
        inl (lt_of_not-le (λ short. true≢false (sym some ∙ (ap has_feed (sym (take_all 2097153 rest (omega (arith, short)))) ∙ clear))))
    too_long at_end rest clear (inr enough) = enough

-- an answer to a line, if the line and the answer have other names
pub answered_now : (has_answered : List (List ℕ) → List ℕ → Type 0) (lines : List (List ℕ)) (line seen text bytes written : List ℕ)
    → seen ≡ line → written ≡ bytes → has_answered (lines ++ seen ∷ []) (text ++ bytes) → has_answered (lines ++ line ∷ []) (text ++ written)
answered_now has_answered lines line seen text bytes written same is answered =
    subst (λ (z : List ℕ). has_answered (lines ++ z ∷ []) (text ++ written)) same
    (subst (λ (z : List ℕ). has_answered (lines ++ seen ∷ []) (text ++ z)) (sym is) answered)

-- fewer bytes than all are a beginning, but not all
pub cut_off : (n : ℕ) (text : List ℕ) → n < length text → IsCutOff (take n text) text
cut_off n text some =
    (drop n text, sym (take-append-drop n text), (λ none. let l = length-drop n text in let z = ap length none in absurd (omega (arith, l, z, some))))

-- ---- stops

-- a fault of the input stops the answers at the next line
stops_next : {T : Type 0} (a : AnswersOf T) (first t : T) (most : ℕ) (f : InputFault) (at_end : Bool) (read rest text : List ℕ) (lines : List (List ℕ))
    → BeginsWith IsLine read lines rest → a.has_answered first t lines text → length lines ≤ most
    → SaysLent (Err f) at_end rest
    → StopsAt (run_of a first most) (lines_fault_of f (length lines + 1)) at_end read text
stops_next a first t most fault.Read at_end read rest text lines b done few says = (lines, rest, b, (t, done), few, says)
stops_next a first t most fault.BadLine at_end read rest text lines b done few says =
    (lines, rest, b, (t, done), few, ((inr says.enough, no_line a.refuses at_end rest says), refl))
stops_next a first t most fault.NoMemory at_end read rest text lines b done few says = (lines, rest, b, (t, done), few, tt)

pub input_stop : {T : Type 0} (a : AnswersOf T) (first t : T) (most count : ℕ) (f : InputFault) (shown : LinesFault) (at_end : Bool)
    (read rest text : List ℕ) (lines : List (List ℕ))
    → shown ≡ lines_fault_of f (count + 1) → count ≡ length lines → BeginsWith IsLine read lines rest → a.has_answered first t lines text
    → length lines ≤ most → SaysLent (Err f) at_end rest
    → StopsAt (run_of a first most) shown at_end read text
input_stop a first t most count f shown at_end read rest text lines is counted b done few says =
    let same : lines_fault_of f (length lines + 1) ≡ shown = ap (λ (n : ℕ). lines_fault_of f (n + 1)) (sym counted) ∙ sym is in
    subst (λ (x : LinesFault). StopsAt (run_of a first most) x at_end read text) same
    (stops_next a first t most f at_end read rest text lines b done few says)

-- after the last allowed line, with all bytes used up, a fault of the input stops the answers too
stops_last : {T : Type 0} (a : AnswersOf T) (first t : T) (most n : ℕ) (f : InputFault) (at_end : Bool) (read text : List ℕ) (lines : List (List ℕ))
    → BeginsWith IsLine read lines [] → a.has_answered first t lines text → length lines ≤ most → (f ≡ fault.BadLine → ⊥)
    → StopsAt (run_of a first most) (lines_fault_of f n) at_end read text
stops_last a first t most n fault.Read at_end read text lines b done few good = (lines, [], b, (t, done), few, record { one_line = refl; short = omega arith })
stops_last a first t most n fault.BadLine at_end read text lines b done few good = absurd (good refl)
stops_last a first t most n fault.NoMemory at_end read text lines b done few good = (lines, [], b, (t, done), few, tt)

pub last_stop : {T : Type 0} (a : AnswersOf T) (first t : T) (most n : ℕ) (f : InputFault) (shown : LinesFault) (at_end : Bool)
    (read text : List ℕ) (lines : List (List ℕ))
    → shown ≡ lines_fault_of f n → BeginsWith IsLine read lines [] → a.has_answered first t lines text → length lines ≤ most → (f ≡ fault.BadLine → ⊥)
    → StopsAt (run_of a first most) shown at_end read text
last_stop a first t most n f shown at_end read text lines is b done few good =
    subst (λ (x : LinesFault). StopsAt (run_of a first most) x at_end read text) (sym is)
    (stops_last a first t most n f at_end read text lines b done few good)

-- a line that is refused stops them; it is known by another name
pub line_stop : {T : Type 0} (a : AnswersOf T) (first t : T) (most count : ℕ) (at_end : Bool) (read line seen rest text : List ℕ) (lines : List (List ℕ))
    → BeginsWith IsLine read lines (ended line ++ rest) → a.has_answered first t lines text → IsLine line → seen ≡ line → a.refuses seen
    → count ≡ length lines → length lines ≤ most → StopsAt (run_of a first most) (BadLine (count + 1)) at_end read text
line_stop a first t most count at_end read line seen rest text lines b done is same refused counted few =
    let whole = ended line ++ rest in (
      lines,
      whole,
      b,
      (t, done),
      few,
      (
        (
          inl (feed_there line rest whole (append_assoc line (10 ∷ []) rest)),
          the_line a.refuses line rest is (subst a.refuses same refused),
        ),
        ap (λ (n : ℕ). n + 1) counted,
      ),
    )

-- a fault of an answer stops the answers too
pub answer_stop : {T : Type 0} (a : AnswersOf T) (first t : T) (most : ℕ) (f : AnswerFault) (at_end : Bool) (read line seen rest text : List ℕ)
    (lines : List (List ℕ))
    → BeginsWith IsLine read lines (ended line ++ rest) → a.has_answered first t lines text → IsLine line → seen ≡ line → length lines < most
    → (f ≡ answer.WornOut → a.is_worn_out lines seen) → StopsAt (run_of a first most) (answer_fault_of f) at_end read text
answer_stop a first t most answer.NoMemory at_end read line seen rest text lines b done is same few worn =
    (lines, ended line ++ rest, b, (t, done), omega (arith, few), tt)
answer_stop a first t most answer.WornOut at_end read line seen rest text lines b done is same few worn =
    (lines, ended line ++ rest, b, (t, done), omega (arith, few), (few, (line, (is, (rest, refl)), subst (a.is_worn_out lines) same (worn refl))))

-- a beginning of the last answer was written
pub write_stop : {T : Type 0} (a : AnswersOf T) (first t now : T) (most n : ℕ) (at_end : Bool) (read line rest text bytes : List ℕ)
    (lines : List (List ℕ))
    → BeginsWith IsLine read lines (ended line ++ rest) → a.has_answered first t lines text → IsLine line
    → a.has_answered first now (lines ++ line ∷ []) (text ++ bytes) → length lines < most → n < length bytes
    → StopsAt (run_of a first most) Write at_end read (text ++ take n bytes)
write_stop a first t now most n at_end read line rest text bytes lines b before is after few short = (
  text,
  take n bytes,
  refl,
  (lines, ended line ++ rest, b, (t, before), omega (arith, few), (line, bytes, few, (is, (rest, refl)), (now, after), cut_off n bytes short)),
)

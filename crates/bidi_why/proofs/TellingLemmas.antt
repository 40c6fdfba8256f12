-- One more line that is told of, and where a listing stops.
use Rattle.std.proofs.Common.{◌≡◌, ◌≢◌, ℕ, suc, ◌+◌, ◌<◌, ◌≤◌, Bool, true, false, List, [], ◌∷◌, ◌++◌, length, take}
use Rattle.std.proofs.Common.{length-append, append_assoc, append-nil, arith, option_map, refl, sym, ◌∙◌, ap, subst}
use Rattle.std.specs.Prelude.{nat_lt, ◌||◌, ◌&&◌, Result, Ok, Err, OnErr, OnOk, IfErr, IfOk, Option, Some, None, ⊤, if◌then◌else◌}
use Rattle.std.specs.Global.{Vec}
use Rattle.std.proofs.lemmas.Bool.Decides.{nat_tests}
use Rattle.std.proofs.lemmas.List.Folds.{list_any-append}
use Rattle.std.specs.Io.KnownBytes.{Appends}
use Rattle.bidi_lines.specs.Devices.{AppendsBeginning}
use Rattle.bidi_lines.specs.Feeds.{ended, has_feed}
use Rattle.bidi_lines.specs.Answering.{lines_fault_of}
use Rattle.bidi_lines.specs.InputLines.{IsLine, most_lines}
use Rattle.bidi_lines.specs.Stops.{BeginsWith, StopsAt}
use Rattle.bidi_lines.specs.declared.answering.LinesFault.{LinesFault}
use Rattle.bidi_lines.specs.declared.answering.LinesFault.TheVariants.{Read, Write, BadLine, NoMemory, TooManyLines, WornOut}
use Rattle.bidi_lines.specs.declared.line_reader.InputFault.{InputFault}
use Rattle.bidi_lines.specs.declared.line_reader.InputFault.TheVariants as input
use Rattle.bidi_lines.specs.declared.side.Side.{Side}
use Rattle.bidi_lines.proofs.AnsweringLemmas.{begins_all, begins_read, cut_off}
use Rattle.bidi_lines.proofs.StopLemmas.{Implies}
use Rattle.bidi_remarks.specs.Explaining.{Explains, Telling, counted_as, is_refused, is_taken, told_of, telling}
use Rattle.bidi_remarks.specs.Texts.{told_text}
use Rattle.bidi_remarks.specs.Trouble.{Trouble, bad, is_beyond}
use Rattle.bidi_remarks.specs.declared.bad_text.BadText.TheVariants.{TooLong}
use Rattle.bidi_remarks.specs.declared.telling.CountedAs.TheVariants.{Beyond, Refused}
use Rattle.bidi_remarks.specs.declared.telling.Told.{Told}
use Rattle.bidi_remarks.specs.declared.texts.Form.{Form}
use Rattle.bidi_remarks.specs.declared.texts.Form.TheVariants.{Words, Json}
use Rattle.bidi_why.specs.Input.{IsOf, finds}
use Rattle.bidi_why.specs.Summary.{Entry, any_fault, entries_in, is_fault, is_same}
use Rattle.bidi_why.specs.Telling.{HasEndless, IsNext, IsOneLine, StopsLine, Tells, TellsEach, TellsLines, Whole, is_ended, is_last, is_line, is_too_long, kept, last_line, report_run, written, SoFar}
use Rattle.bidi_why.specs.Explainers.{HasExplained, text_in}
use Rattle.bidi_why.specs.declared.next_line.Found.{Found}
use Rattle.bidi_why.specs.declared.next_line.Line.{Line}
use Rattle.bidi_why.specs.declared.next_line.Line.TheVariants as line
use Rattle.bidi_why.specs.declared.one_side.OneSide.{OneSide}

-- ---- one line more

-- what is written for one line more stands behind the rest, and so does what is counted
tells_more : (form : Form) (side : Side) (only : Bool) (n : ℕ) (lines : List (List ℕ)) (line : List ℕ) (o : Option Telling) (wrote : List ℕ) (told : List Entry)
    → TellsEach form side only n lines wrote told → Tells form side only (n + length lines) line o
    → TellsEach form side only n (lines ++ line ∷ []) (wrote ++ written o) (told ++ entries_in line o)
tells_more form side only n [] line o wrote told (none, nothing) tells =
    let first : n + 0 ≡ n = omega arith in (
      o,
      [],
      [],
      subst (λ (k : ℕ). Tells form side only k line o) first tells,
      (refl, refl),
      ap (λ (w : List ℕ). w ++ written o) none ∙ sym (append-nil (written o)),
      ap (λ (t : List Entry). t ++ entries_in line o) nothing ∙ sym (append-nil (entries_in line o)),
    )
tells_more form side only n (y ∷ ys) line o wrote told (front, more, rest, first, each, e, f) tells =
    let same : n + length (y ∷ ys) ≡ n + 1 + length ys = omega arith in (
      front,
      more ++ written o,
      rest ++ entries_in line o,
      first,
      tells_more form side only (n + 1) ys line o more rest each (subst (λ (k : ℕ). Tells form side only k line o) same tells),
      ap (λ (w : List ℕ). w ++ written o) e ∙ append_assoc (written front) more (written o),
      ap (λ (t : List Entry). t ++ entries_in line o) f ∙ append_assoc (entries_in y front) rest (entries_in line o),
    )

-- whether anything was written behind what was
some_more : (b c : Bool) (wrote text : List ℕ) → b ≡ nat_lt 0 (length wrote) → c ≡ nat_lt 0 (length text) → (b || c) ≡ nat_lt 0 (length (wrote ++ text))
some_more true c wrote text e f = before wrote text e
  where
    before : (wrote text : List ℕ) → true ≡ nat_lt 0 (length wrote) → true ≡ nat_lt 0 (length (wrote ++ text))
    before wrote text e = let long = length-append wrote text in grind (arith, nat_tests, long, e)
some_more false c wrote text e f = f ∙ now wrote text e
  where
    now : (wrote text : List ℕ) → false ≡ nat_lt 0 (length wrote) → nat_lt 0 (length text) ≡ nat_lt 0 (length (wrote ++ text))
    now wrote text e = let long = length-append wrote text in grind (arith, nat_tests, long, e)

-- a successor is more than 0
some_bytes : (n : ℕ) → true ≡ nat_lt 0 (suc n)
some_bytes n = grind (arith, nat_tests)

-- what is told of a trouble is a fault, and is written
trouble_some : (form : Form) (side : Side) (n : ℕ) (line : List ℕ) (x : Trouble)
    → any_fault (entries_in line (Some (telling form side n x))) ≡ nat_lt 0 (length (told_text form n (Some side) None x))
trouble_some form side n line x = ap (λ (b : Bool). b || false) (is_one (is_beyond x)) ∙ long form
  where
    is_one : (b : Bool) → is_fault (if b then Beyond else Refused) ≡ true
    is_one true = refl
    is_one false = refl

    long : (form : Form) → true ≡ nat_lt 0 (length (told_text form n (Some side) None x))
    long Words = some_bytes _
    long Json = some_bytes _

-- what is told of a line is a fault just if anything is written
tells_some : (form : Form) (side : Side) (only : Bool) (n : ℕ) (line : List ℕ) (o : Option Telling) → Tells form side only n line o
    → any_fault (entries_in line o) ≡ nat_lt 0 (length (written o))
tells_some form side only n line o (is_line None short (is_taken none)) = refl
tells_some form side only n line o (is_line (Some t) short (is_refused why x refuses at)) = go (only && is_same Beyond (counted_as x))
  where
    go : (b : Bool) → let o : Option Telling = if b then None else Some (telling form side n x) in any_fault (entries_in line o) ≡ nat_lt 0 (length (written o))
    go true = refl
    go false = trouble_some form side n line x
tells_some form side only n line o (is_too_long long) = trouble_some form side n line (bad TooLong)

-- since the first of its states, where the count is known by another name
explained_more : (first before now : OneSide) (number : ℕ) (lines : List (List ℕ)) (line text : List ℕ) (o : Option Telling) (told : List Entry)
    → HasExplained first before lines text told → number ≡ length lines + 1 → now.form ≡ before.form → now.side ≡ before.side
    → now.profile_only ≡ before.profile_only → Tells before.form before.side before.profile_only number line o
    → HasExplained first now (lines ++ line ∷ []) (text ++ written o) (told ++ entries_in line o)
explained_more first before now number lines line text o told p counted form side only tells =
    let next : number ≡ 1 + length lines = omega (arith, counted) in
    let of_form = subst (λ (x : Form). Tells x before.side before.profile_only number line o) p.form tells in
    let of_side = subst (λ (x : Side). Tells first.form x before.profile_only number line o) p.side of_form in
    let of_only = subst (λ (b : Bool). Tells first.form first.side b number line o) p.only of_side in
    record {
      form = form ∙ p.form;
      side = side ∙ p.side;
      only = only ∙ p.only;
      tells = tells_more first.form first.side first.profile_only 1 lines line o text told p.tells
          (subst (λ (n : ℕ). Tells first.form first.side first.profile_only n line o) next of_only);
      is_some = list_any-append (λ (e : Entry). is_fault e.counted_as) told (entries_in line o)
          ∙ some_more (any_fault told) (any_fault (entries_in line o)) text (written o) p.is_some
          (tells_some before.form before.side before.profile_only number line o tells);
    }

-- the same of what a call says
pub explained_as : {E : Type 0} (first before now : OneSide) (number : ℕ) (l : Line) (lines : List (List ℕ)) (line text : List ℕ) (told : List Entry)
    (r : Result (Option Told) E) → HasExplained first before lines text told → number ≡ length lines + 1 → now.form ≡ before.form → now.side ≡ before.side
    → now.profile_only ≡ before.profile_only
    → IfOk r (λ found. (is : List ℕ) → IsOf l is → Tells before.form before.side before.profile_only number is (option_map told_of found)) → IsOf l line
    → IfOk r (λ found. HasExplained first now (lines ++ line ∷ []) (text ++ text_in found) (told ++ entries_in line (option_map told_of found)))
explained_as first before now number l lines line text told (Ok None) p counted form side only tells is =
    explained_more first before now number lines line text None told p counted form side only (tells line is)
explained_as first before now number l lines line text told (Ok (Some t)) p counted form side only tells is =
    explained_more first before now number lines line text (Some (told_of t)) told p counted form side only (tells line is)
explained_as first before now number l lines line text told (Err e) p counted form side only tells is = tt

-- what is told of a line that is not too long is what is kept of what explains it
pub tells_kept : (form : Form) (side : Side) (only : Bool) (n : ℕ) (seen : List ℕ) (found o : Option Told)
    → option_map told_of o ≡ kept only (option_map told_of found) → Explains form side n seen (option_map told_of found)
    → IsLine seen → Tells form side only n seen (option_map told_of o)
tells_kept form side only n seen found o is h at =
    subst (λ (t : Option Telling). Tells form side only n seen t) (sym is) (is_line (option_map told_of found) at h)

-- of a line that is not too long it is told as it explains itself
pub tells_text : {E : Type 0} (form : Form) (side : Side) (only : Bool) (n : ℕ) (l : Line) (text : Vec ℕ) (seen : List ℕ) (r : Result (Option Told) E)
    → l ≡ line.Text text → seen ≡ text.items → IfOk r (λ found. IsLine seen → Tells form side only n seen (option_map told_of found))
    → IfOk r (λ found. (is : List ℕ) → IsOf l is → Tells form side only n is (option_map told_of found))
tells_text form side only n l text seen (Ok found) is same h = λ bytes at.
    let here = subst (λ (x : Line). IsOf x bytes) is at in
    let alike : seen ≡ bytes = same ∙ sym here.0 in
    subst (λ (s : List ℕ). Tells form side only n s (option_map told_of found)) alike (h (subst IsLine (sym alike) here.1))
tells_text form side only n l text seen (Err e) is same h = tt

-- of one that is too long only that
pub tells_long : (form : Form) (side : Side) (only : Bool) (n : ℕ) (l : Line) (t : Telling) → l ≡ line.TooLong → t ≡ telling form side n (bad TooLong)
    → (is : List ℕ) → IsOf l is → Tells form side only n is (Some t)
tells_long form side only n l t is same bytes at =
    subst (λ (x : Telling). Tells form side only n bytes (Some x)) (sym same) (is_too_long (subst (λ (x : Line). IsOf x bytes) is at))

-- ---- what is left

-- what a fault of the input says of what is left behind the lines, of which the next has this number
abbrev pub Leaves : InputFault → ℕ → List (List ℕ) → List ℕ → Type 0
Leaves input.Read n lines rest = IsOneLine rest
Leaves input.BadLine n lines rest = HasEndless rest × (n ≡ length lines + 1)
Leaves input.NoMemory n lines rest = ⊤

-- where no next line was found
pub leaves_found : (f : InputFault) (n : ℕ) (lines : List (List ℕ)) (at_end : Bool) (gone held : List ℕ) → n ≡ length lines + 1
    → (let r : Result Found InputFault = Err f in finds r at_end gone held) → Leaves f n lines (gone ++ held)
leaves_found input.Read n lines at_end gone held counted none = none
leaves_found input.BadLine n lines at_end gone held counted endless = ((gone, held, refl, endless), counted)
leaves_found input.NoMemory n lines at_end gone held counted none = tt

-- where nothing is left
pub leaves_nothing : (f : InputFault) (n : ℕ) (lines : List (List ℕ)) (rest : List ℕ) → f ≢ input.BadLine → rest ≡ [] → Leaves f n lines rest
leaves_nothing input.Read n lines rest good none = ap has_feed none
leaves_nothing input.BadLine n lines rest good none = absurd (good refl)
leaves_nothing input.NoMemory n lines rest good none = tt

-- the next line is gone, with its line feed
pub next_ended : (at_end : Bool) (line gone held : List ℕ) → IsOneLine line → gone ≡ ended line → IsNext at_end line (gone ++ held)
next_ended at_end line gone held one e = is_ended held one (ap (λ (z : List ℕ). z ++ held) e)

-- or as the last
pub next_last : (at_end : Bool) (gone held : List ℕ) → IsOneLine gone → gone ≢ [] → at_end ≡ true → held ≡ [] → IsNext at_end gone (gone ++ held)
next_last at_end gone held one some at_last none = is_last one some at_last (ap (λ (z : List ℕ). gone ++ z) none ∙ append-nil gone)

-- ---- all of them

module _ (P : List (List ℕ) → List ℕ → Type 0) where
  -- nothing is left behind the last line feed
  pub whole_all : (read rest wrote : List ℕ) (lines : List (List ℕ)) → BeginsWith IsOneLine read lines rest → rest ≡ [] → P lines wrote → Whole P read wrote
  whole_all read rest wrote lines b none p = (
    lines,
    [],
    begins_all read rest lines b none,
    refl,
    subst (λ (ls : List (List ℕ)). P ls wrote) (sym (append-nil lines)) p,
  )

  -- a last line without a line feed is the last of all
  pub whole_last : (read bytes gone rest rest' wrote : List ℕ) (lines : List (List ℕ)) → BeginsWith IsOneLine read lines rest
      → gone ++ rest' ≡ rest ++ bytes → rest' ≡ [] → gone ≢ [] → IsOneLine gone → P (lines ++ gone ∷ []) wrote → Whole P (read ++ bytes) wrote
  whole_last read bytes [] rest rest' wrote lines b e none some one p = absurd (some refl)
  whole_last read bytes (x ∷ gone) rest rest' wrote lines b e none some one p =
      let whole : x ∷ gone ≡ rest ++ bytes = sym (append-nil (x ∷ gone)) ∙ (ap (λ (z : List ℕ). (x ∷ gone) ++ z) (sym none) ∙ e) in
      (lines, x ∷ gone, begins_read read bytes rest (x ∷ gone) lines b whole, one, p)

  -- ---- stops

  -- a fault of the input stops a report at the next line
  pub stops_input : (f : InputFault) (n : ℕ) (shown : LinesFault) (at_end : Bool) (read rest wrote : List ℕ) (lines : List (List ℕ))
      → shown ≡ lines_fault_of f n → BeginsWith IsOneLine read lines rest → P lines wrote → length lines ≤ most_lines → Leaves f n lines rest
      → StopsAt (report_run P) shown at_end read wrote
  stops_input f n shown at_end read rest wrote lines is b p few leaves =
      subst (λ (x : LinesFault). StopsAt (report_run P) x at_end read wrote) (sym is) (by_fault f leaves)
    where
      by_fault : (f : InputFault) → Leaves f n lines rest → StopsAt (report_run P) (lines_fault_of f n) at_end read wrote
      by_fault input.Read none = (lines, rest, b, p, few, none)
      by_fault input.BadLine endless = (lines, rest, b, p, few, endless)
      by_fault input.NoMemory any = (lines, rest, b, p, few, tt)

  -- a fault at a line stops it there
  pub stops_line : (f : LinesFault) (b c : Option (List ℕ)) (at_end : Bool) (read rest wrote line : List ℕ) (lines : List (List ℕ)) (Q : List ℕ → Type 0)
      → StopsLine Q f b c → ((text : List ℕ) → Q text → P (lines ++ line ∷ []) (wrote ++ text)) → IsNext at_end line rest
      → BeginsWith IsOneLine read lines rest → P lines wrote → length lines < most_lines
      → (more : List ℕ) × Appends b c more × StopsAt (report_run P) f at_end read (wrote ++ more)
  stops_line Write b c at_end read rest wrote line lines Q (text, q, (n, some, appends)) so next begins p few = (
    take n text,
    appends,
    (wrote, take n text, refl, (lines, rest, begins, p, omega (arith, few), (line, text, few, next, so text q, cut_off n text some))),
  )
  stops_line NoMemory b c at_end read rest wrote line lines Q none so next begins p few =
      ([], none, (lines, rest, begins, subst (P lines) (sym (append-nil wrote)) p, omega (arith, few), tt))
  stops_line Read b c at_end read rest wrote line lines Q none so next begins p few = absurd none
  stops_line (BadLine n) b c at_end read rest wrote line lines Q none so next begins p few = absurd none
  stops_line TooManyLines b c at_end read rest wrote line lines Q none so next begins p few = absurd none
  stops_line WornOut b c at_end read rest wrote line lines Q none so next begins p few = absurd none

-- what holds of lines and of what is written for them may be said in other words
module _ {P Q : List (List ℕ) → List ℕ → Type 0} (f : (lines : List (List ℕ)) (text : List ℕ) → P lines text → Q lines text) where
  pub whole_as : (read wrote : List ℕ) → Whole P read wrote → Whole Q read wrote
  whole_as read wrote (lines, last, parts, one, p) = (lines, last, parts, one, f (lines ++ last_line last) wrote p)

  pub reports_as : Implies (report_run P) (report_run Q)
  reports_as = record {
    is_line = λ line is. is;
    is_next = λ at_end line bytes next. next;
    refuses = λ at_end bytes bad. bad;
    answers = f;
    is_worn_out = λ lines rest worn. worn;
    few = λ lines text done few. few;
    all = λ lines text done all. all;
  }

-- what was told of the lines of an end, said of its form, its side and what is asked for
pub told_so : (form : Form) (side : Side) (only : Bool) (first now : OneSide) → first.form ≡ form → first.side ≡ side → first.profile_only ≡ only
    → (lines : List (List ℕ)) (text : List ℕ) (told : List Entry) → HasExplained first now lines text told → TellsEach form side only 1 lines text told
told_so form side only first now of_form of_side of_only lines text told p =
    subst (λ (b : Bool). TellsEach form side b 1 lines text told) of_only
    (subst (λ (x : Side). TellsEach form x first.profile_only 1 lines text told) of_side
    (subst (λ (x : Form). TellsEach x first.side first.profile_only 1 lines text told) of_form p.tells))

pub tells_so : (form : Form) (side : Side) (only : Bool) (first : OneSide) → first.form ≡ form → first.side ≡ side → first.profile_only ≡ only
    → (lines : List (List ℕ)) (text : List ℕ) → SoFar HasExplained first lines text → TellsLines form side only lines text
tells_so form side only first of_form of_side of_only lines text (now, told, p) = (told, told_so form side only first now of_form of_side of_only lines text told p)

-- ---- results

-- what follows where a call succeeds, and where it fails
pub on_ok : {T E A B : Type 0} (r : Result T E) → OnOk r A → (A → B) → OnOk r B
on_ok (Ok x) a f = f a
on_ok (Err e) a f = tt

pub if_err : {T E : Type 0} {P Q : E → Type 0} (r : Result T E) → IfErr r P → ((e : E) → P e → Q e) → IfErr r Q
if_err (Ok x) p f = tt
if_err (Err e) p f = f e p

-- a write that fails leaves a beginning of the text
pub stops_write : {T : Type 0} (r : Result T LinesFault) (held held' : Option (List ℕ)) (text : List ℕ) (P : List ℕ → Type 0)
    → OnErr r (AppendsBeginning held held' text) → IfErr r (λ fault. fault ≡ Write) → P text → IfErr r (λ fault. StopsLine P fault held held')
stops_write (Ok x) held held' text P begins is p = tt
stops_write (Err fault) held held' text P begins is p = subst (λ (f : LinesFault). StopsLine P f held held') (sym is) (text, p, begins)

-- where nothing is told, nothing is new
pub nothing_told : {T : Type 0} (has_told : T → T → List (List ℕ) → List ℕ → List Entry → Type 0) (first now : T) (lines : List (List ℕ)) (text none : List ℕ)
    (told : List Entry) (is : List ℕ) (o : Option Told) → o ≡ None → none ≡ []
    → has_told first now lines (text ++ text_in o) (told ++ entries_in is (option_map told_of o)) → has_told first now lines (text ++ none) told
nothing_told has_told first now lines text none told is o e f h =
    let quiet = subst (λ (x : Option Told). has_told first now lines (text ++ text_in x) (told ++ entries_in is (option_map told_of x))) e h in
    subst (λ (es : List Entry). has_told first now lines (text ++ none) es) (append-nil told)
    (subst (λ (t : List ℕ). has_told first now lines (text ++ t) (told ++ [])) (sym f) quiet)

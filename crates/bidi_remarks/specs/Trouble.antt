-- What is wrong with a line that is refused. The kinds and their words are this project's own.
use Rattle.std.specs.Prelude.{◌≡◌, ◌+◌, ◌==◌, ◌&&◌, ◌++◌, ℕ, List, [], ◌∷◌, length, take, nat_lt, Bool, true, false, Option, Some, None, if◌then◌else◌}
use Rattle.std.specs.Prelude.{option_map, option_and_then, string_bytes, codes, decimal, IsUtf8}
use Rattle.std.specs.Str.{IsValidUpTo, bytes_eq}
use Rattle.bidi_tree.specs.Node.{Node, get_of, odd}
use Rattle.bidi_tree.specs.Kind.{text_in}
use Rattle.bidi_tree.specs.Text.{tree_of_text}
use Rattle.bidi_shape.specs.Name as rules
use Rattle.bidi_shape.specs.Term.{rule}
use Rattle.bidi_messages.specs.Verdict.{echoed_id}
use Rattle.bidi_rules.specs.Names.{rule_text}
use Rattle.bidi_blame.specs.Reason.{Reason, PathStep, member, item}
use Rattle.bidi_blame.specs.Blames.{Blames, Judged}
use Rattle.bidi_blame.specs.Said.{told_by}
use Rattle.bidi_blame.specs.Words.{choice_text, node_text, pointer_text, wants_text}
use Rattle.bidi_show.specs.MessageLines.{HasTree, Refuses}
use Rattle.bidi_remarks.specs.Beyond as reason
use Rattle.bidi_remarks.specs.Trimming.{trimmed}
use Rattle.bidi_remarks.specs.Claim.{has_text, kind_of, short_text}
use Rattle.bidi_lines.specs.declared.side.Side.{Side}
use Rattle.bidi_lines.specs.declared.side.Side.TheVariants.{Local, Remote}
use Rattle.bidi_remarks.specs.declared.bad_text.BadText.{BadText}
use Rattle.bidi_remarks.specs.declared.bad_text.BadText.TheVariants.{ByteOrderMark, NoUtf8, TooLong, TooLarge, NotJson, NoDirection}
use Rattle.bidi_remarks.specs.declared.claim.Kind.{Kind}
use Rattle.bidi_remarks.specs.declared.misfit.Misfit as declared_misfit
use Rattle.bidi_remarks.specs.declared.misfit.Wants.{Wants}
use Rattle.bidi_remarks.specs.declared.misfit.Wants.TheVariants.{Whole, Short}
use Rattle.bidi_remarks.specs.declared.finding.Trouble as declared_trouble
use Rattle.bidi_remarks.specs.declared.finding.Trouble.TheVariants as code
use Rattle.bidi_shape.specs.Limits.{most_bytes}
use Rattle.bidi_syntax.specs.Faults.{fault_of}
use Rattle.bidi_syntax.specs.Surrogates.{mended}
use Rattle.bidi_syntax.specs.Words.{wants_words}
use Rattle.bidi_syntax.specs.declared.fault.Fault.{Fault}
use Rattle.bidi_syntax.specs.declared.fault.Fault.TheVariants.{Syntax, Levels, LoneSurrogate, LargeNumber}

-- ---- lines that are no text to judge

-- the words for why a text is not read as JSON
abbrev pub json_words : Option Fault → List ℕ
json_words None = codes "not json"
json_words (Some (Syntax wants place)) = codes "not json: wants " ++ wants_words wants ++ codes " at byte " ++ decimal place
json_words (Some (Levels levels)) = decimal levels ++ codes " levels of nesting, at most 127"
json_words (Some (LoneSurrogate place)) = codes "lone surrogate at byte " ++ decimal place
json_words (Some (LargeNumber place)) = codes "number out of range at byte " ++ decimal place

-- the same without places and counts
abbrev pub json_cause : Option Fault → List ℕ
json_cause None = codes "not json"
json_cause (Some (Syntax wants place)) = codes "not json"
json_cause (Some (Levels levels)) = codes "levels of nesting, at most 127"
json_cause (Some (LoneSurrogate place)) = codes "lone surrogate"
json_cause (Some (LargeNumber place)) = codes "number out of range"

-- the words for one
abbrev pub bad_words : BadText → List ℕ
bad_words ByteOrderMark = codes "byte order mark"
bad_words (NoUtf8 place) = codes "no UTF-8 at byte " ++ decimal place
bad_words TooLong = codes "too long"
bad_words TooLarge = codes "more than 1048576 bytes"
bad_words (NotJson fault) = json_words fault
bad_words NoDirection = codes "no direction"

-- the same without the place
abbrev pub bad_cause : BadText → List ℕ
bad_cause ByteOrderMark = codes "byte order mark"
bad_cause (NoUtf8 place) = codes "no UTF-8"
bad_cause TooLong = codes "too long"
bad_cause TooLarge = codes "more than 1048576 bytes"
bad_cause (NotJson fault) = json_cause fault
bad_cause NoDirection = codes "no direction"

-- so many bytes at the front of a line are characters and the next is none, or its text is not read as JSON, for this reason: so it has no tree
abbrev pub HasNoTree : List ℕ → BadText → Type 0
HasNoTree line (NoUtf8 place) = (IsUtf8 line → ⊥) × ((front : ℕ) × IsValidUpTo line front × (place ≡ front + 1))
HasNoTree line (NotJson fault) = IsUtf8 line × (tree_of_text None line ≡ None) × (fault ≡ fault_of line)
HasNoTree line b = ⊥

-- ---- trees that do not fit the rule of their end

-- Where a tree does not fit, and why, in words.
pub record Misfit : Type 0 where
  pub id : Option ℕ
  pub method : Option (List ℕ)
  pub kind : Kind
  pub pointer : List ℕ
  pub pattern : List ℕ
  pub wants : List ℕ
  -- the same in short
  pub short : List ℕ
  pub has : List ℕ
  pub named : Option (List ℕ)
  -- it is wrong for the profile, and not for the draft
  pub is_beyond : Bool

-- the rule of the texts of an end
abbrev pub rule_of : Side → rules.Name
rule_of Local = rules.command
rule_of Remote = rules.message

-- the one, or else the other
abbrev pub or_else : Option (List ℕ) → Option (List ℕ) → Option (List ℕ)
or_else None o = o
or_else (Some s) o = Some s

-- the member of that name, where it is a text
abbrev pub text_member : List ℕ → Node → Option (List ℕ)
text_member k t = option_and_then text_in (get_of k t)

-- the member `method` of a tree, or else its `type`, where that is a text
abbrev pub method_of : Node → Option (List ℕ)
method_of t = or_else (text_member (codes "method") t) (text_member (codes "type") t)

-- a step of a pointer, with `*` for the number of an item
abbrev pub pattern_step : PathStep → List ℕ
pattern_step (member k) = pointer_text (member k ∷ [])
pattern_step (item i) = codes "/*"

-- a pointer with `*` for the number of each item, of steps that have the last one first
abbrev pub pattern_text : List PathStep → List ℕ
pattern_text [] = []
pattern_text (s ∷ ss) = pattern_text ss ++ pattern_step s

-- the reason why a tree with this id and this method does not fit, in words
abbrev pub reason_parts : Option ℕ → Option (List ℕ) → Reason → Misfit
reason_parts id method r = record {
  id = id;
  method = method;
  kind = kind_of r;
  pointer = pointer_text r.steps;
  pattern = pattern_text r.steps;
  wants = wants_text r.wants;
  short = short_text r;
  has = has_text (kind_of r) r.found;
  named = option_map rule_text r.named;
  is_beyond = reason.is_beyond r;
}

-- there is no reason, or one that is wrong for the profile alone
abbrev pub is_excused : Option Reason → Bool
is_excused None = true
is_excused (Some r) = reason.is_beyond r

-- Without the members that only the draft has, the tree does not fit the rule for this reason, in words with this id and this method, and the reason is
-- wrong for the draft; or there is no such reason.
abbrev pub HasFaultInRest : rules.Name → Option ℕ → Option (List ℕ) → Node → Option Misfit → Type 0
HasFaultInRest n id method t None = (o : Option Reason) × Judged (trimmed false t) (rule n) o × (is_excused o ≡ true)
HasFaultInRest n id method t (Some m) =
    (r : Reason) × Blames (trimmed false t) (rule n) r × (reason.is_beyond r ≡ false) × (m ≡ reason_parts id method r)

-- A reason why the tree does not fit the rule, in words with this id and this method.
pub data HasMisfit (n : rules.Name) (id : Option ℕ) (method : Option (List ℕ)) (t : Node) : Misfit → Type 0 where
  -- it is wrong for the draft
  of_fault : (r : Reason) → Blames t (rule n) r → reason.is_beyond r ≡ false → HasMisfit n id method t (reason_parts id method r)
  -- it is wrong for the profile alone, and so is all else
  of_beyond : (r : Reason) → Blames t (rule n) r → reason.is_beyond r ≡ true → HasFaultInRest n id method t None
      → HasMisfit n id method t (reason_parts id method r)
  -- the first is wrong for the profile alone, and behind it is this one
  of_rest : (r : Reason) (m : Misfit) → Blames t (rule n) r → reason.is_beyond r ≡ true → HasFaultInRest n id method t (Some m) → HasMisfit n id method t m

-- a reason why the tree does not fit the rule of its end
abbrev pub HasMisfitOf : Side → Node → Misfit → Type 0
HasMisfitOf side t m = HasMisfit (rule_of side) (echoed_id t) (method_of t) t m

-- ---- of both

-- What is wrong with a line: that it is no text to judge, or that its tree does not fit.
pub data Trouble : Type 0 where
  bad : BadText → Trouble
  no_fit : Misfit → Trouble

-- whether it is wrong for the profile alone
abbrev pub is_beyond : Trouble → Bool
is_beyond (bad b) = false
is_beyond (no_fit m) = m.is_beyond

-- the method of a message that is wrong for the profile alone, if it has one
abbrev pub method_beyond : Trouble → Option (List ℕ)
method_beyond (bad b) = None
method_beyond (no_fit m) = if m.is_beyond then m.method else None

-- what may stand there, in full and in short
abbrev pub wants_of : Wants → List ℕ
wants_of (Whole text) = string_bytes text
wants_of (Short text alternatives) = choice_text (told_by alternatives)

-- the words of the code for what may be at the place, shortened if it made them short
abbrev pub short_of : Wants → List ℕ
short_of (Whole text) = string_bytes text
short_of (Short text alternatives) = string_bytes text

-- a misfit of the code
abbrev pub misfit_of : declared_misfit.Misfit → Misfit
misfit_of m = record {
  id = option_map (λ n. n.value) m.id;
  method = option_map string_bytes m.method;
  kind = m.kind;
  pointer = string_bytes m.pointer;
  pattern = string_bytes m.pattern;
  wants = wants_of m.wants;
  short = short_of m.wants;
  has = string_bytes m.has;
  named = option_map (λ s. s.now) m.rule;
  is_beyond = m.is_beyond;
}

-- a trouble of the code
abbrev pub trouble_of : declared_trouble.Trouble → Trouble
trouble_of (code.Bad b) = bad b
trouble_of (code.NoFit m) = no_fit (misfit_of m)

-- The id of the tree of a line; none if the line has no tree.
pub data HasId (line : List ℕ) : Option ℕ → Type 0 where
  of_tree : (t : Node) → HasTree line t → HasId line (echoed_id t)
  of_none : ((t : Node) → HasTree line t → ⊥) → HasId line None

-- the id in a text that is no message: that of its tree; a text with a lone surrogate has the id that it has with U+FFFD there
abbrev pub IsIdIn : List ℕ → Trouble → Option ℕ → Type 0
IsIdIn text (no_fit m) id = id ≡ m.id
IsIdIn text (bad (NotJson (Some (LoneSurrogate place)))) id = HasId (mended text) id
IsIdIn text (bad b) id = id ≡ None

-- the text does not fit because its id is a number with a fraction, an exponent or out of range
abbrev pub has_odd_id : Trouble → Bool
has_odd_id (bad b) = false
has_odd_id (no_fit m) = bytes_eq m.pointer (codes "/id") && bytes_eq m.has (node_text odd)

-- the line is the first of an input, and begins with a byte order mark
abbrev pub begins_with_mark : ℕ → List ℕ → Bool
begins_with_mark n line = (n == 1) && bytes_eq (239 ∷ 187 ∷ 191 ∷ []) (take 3 line)

-- the text has more bytes than a command may have
abbrev pub is_too_large : Side → List ℕ → Bool
is_too_large Local line = nat_lt most_bytes (length line)
is_too_large Remote line = false

-- What is wrong with a line that is refused and begins with no byte order mark.
pub data IsTrouble (side : Side) (line : List ℕ) : Trouble → Type 0 where
  -- so many bytes at its front are characters, and the next is none
  is_no_text : (front : ℕ) → (IsUtf8 line → ⊥) → IsValidUpTo line front → IsTrouble side line (bad (NoUtf8 (front + 1)))
  is_not_json : IsUtf8 line → tree_of_text None line ≡ None → IsTrouble side line (bad (NotJson (fault_of line)))
  is_large : (t : Node) → HasTree line t → is_too_large side line ≡ true → IsTrouble side line (bad TooLarge)
  fits_none : (t : Node) (m : Misfit) → HasTree line t → is_too_large side line ≡ false → HasMisfitOf side t m → IsTrouble side line (no_fit m)

-- The same of the refused line of this number.
pub data IsTroubleAt (side : Side) (n : ℕ) (line : List ℕ) : Trouble → Type 0 where
  is_marked : begins_with_mark n line ≡ true → IsTroubleAt side n line (bad ByteOrderMark)
  is_unmarked : (x : Trouble) → begins_with_mark n line ≡ false → IsTrouble side line x → IsTroubleAt side n line x

-- ---- of a line that may be refused

-- a line is taken, or it is refused, and this is wrong with it
abbrev pub HasTrouble : Side → List ℕ → Option Trouble → Type 0
HasTrouble side line None = Refuses side line None
HasTrouble side line (Some x) = ((why : List ℕ) × Refuses side line (Some why)) × IsTrouble side line x

-- the same of the line of this number
abbrev pub HasTroubleAt : Side → ℕ → List ℕ → Option Trouble → Type 0
HasTroubleAt side n line None = Refuses side line None
HasTroubleAt side n line (Some x) = ((why : List ℕ) × Refuses side line (Some why)) × IsTroubleAt side n line x

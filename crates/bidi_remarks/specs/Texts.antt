-- How a refused line is told, and by which cause it is counted. The forms are this project's own.
use Rattle.std.specs.Prelude.{ℕ, List, [], ◌∷◌, ◌++◌, ◌&&◌, Bool, true, false, take, Option, Some, None, option_map, codes, decimal, if◌then◌else◌}
use Rattle.std.specs.Str.{bytes_eq}
use Rattle.json.specs.Print.{escape, quoted}
use Rattle.bidi_remarks.specs.Trouble.{Misfit, Trouble, bad, no_fit, bad_words, bad_cause}
use Rattle.bidi_lines.specs.declared.side.Side.{Side}
use Rattle.bidi_lines.specs.declared.side.Side.TheVariants.{Local, Remote}
use Rattle.bidi_remarks.specs.declared.bad_text.BadText.{BadText}
use Rattle.bidi_remarks.specs.declared.claim.Kind.{Kind}
use Rattle.bidi_remarks.specs.declared.claim.Kind.TheVariants.{Wrong, Missing, Unexpected, Deep, Keyless}
use Rattle.bidi_remarks.specs.declared.texts.Form.{Form}
use Rattle.bidi_remarks.specs.declared.texts.Form.TheVariants.{Words, Json}
use Rattle.bidi_remarks.specs.declared.json_lines.Row as declared_row

-- ---- in words; a text stands as JSON writes it, without its quotation marks

-- the label of a tree: its method, or `-`
abbrev pub label : Option (List ℕ) → List ℕ
label None = codes "-"
label (Some method) = escape method

-- ` (RULE)`, or nothing
abbrev pub rule_words : Option (List ℕ) → List ℕ
rule_words None = []
rule_words (Some name) = codes " (" ++ name ++ codes ")"

-- `beyond the profile: `, or nothing
abbrev pub beyond_words : Bool → List ℕ
beyond_words b = if b then codes "beyond the profile: " else []

-- what is wrong at a place
abbrev pub claim_words : Kind → List ℕ → List ℕ → List ℕ
claim_words Missing wants has = codes "missing; wants " ++ wants
claim_words Unexpected wants has = codes "unexpected property, " ++ has
claim_words Deep wants has = has ++ codes ", " ++ wants
claim_words Keyless wants has = codes "wants " ++ wants
claim_words Wrong wants has = codes "wants " ++ wants ++ codes ", has " ++ has

-- `LABEL: POINTER: CLAIM (RULE)`, behind `beyond the profile: ` where it is
abbrev pub misfit_words : Misfit → List ℕ
misfit_words m =
    beyond_words m.is_beyond ++ label m.method ++ codes ": " ++ escape m.pointer ++ codes ": " ++ claim_words m.kind m.short m.has ++ rule_words m.named

-- the words for what is wrong
abbrev pub trouble_words : Trouble → List ℕ
trouble_words (bad b) = bad_words b
trouble_words (no_fit m) = misfit_words m

-- ` (answers ID)`, if the text answers the command of this id
abbrev pub answers_words : Option ℕ → List ℕ
answers_words None = []
answers_words (Some id) = codes " (answers " ++ decimal id ++ codes ")"

-- `line N: WORDS`
abbrev pub words_line : ℕ → List ℕ → List ℕ
words_line n words = codes "line " ++ decimal n ++ codes ": " ++ words ++ 10 ∷ []

-- the same, then the command that the line answers
abbrev pub answering_line : ℕ → List ℕ → Option ℕ → List ℕ
answering_line n words answers = codes "line " ++ decimal n ++ codes ": " ++ words ++ answers_words answers ++ 10 ∷ []

-- whether the words begin with a quotation mark, as those of a text do
abbrev pub is_quoted : List ℕ → Bool
is_quoted words = bytes_eq (34 ∷ []) (take 1 words)

-- which text stands there, where certain texts may
abbrev pub name_words : List ℕ → List ℕ → List ℕ
name_words wants has = if is_quoted wants && is_quoted has then codes ", has " ++ has else []

-- the same of all lines that go wrong so
abbrev pub claim_cause : Kind → List ℕ → List ℕ → List ℕ → List ℕ
claim_cause Missing wants short has = codes "missing; wants " ++ short
claim_cause Unexpected wants short has = codes "unexpected property"
claim_cause Deep wants short has = codes "levels of nesting, " ++ short
claim_cause Keyless wants short has = codes "wants " ++ short
claim_cause Wrong wants short has = codes "wants " ++ short ++ name_words wants has

-- `PATTERN: CLAIM (RULE)`, behind `beyond the profile: ` where it is
abbrev pub misfit_cause : Misfit → List ℕ
misfit_cause m =
    beyond_words m.is_beyond ++ escape m.pattern ++ codes ": " ++ claim_cause m.kind m.wants m.short m.has ++ rule_words m.named

-- the cause by which a line is counted
abbrev pub cause_text : Trouble → List ℕ
cause_text (bad b) = bad_cause b
cause_text (no_fit m) = misfit_cause m

-- ---- as JSON

-- What a line of JSON has behind its number.
pub record Row : Type 0 where
  pub id : Option ℕ
  pub method : Option (List ℕ)
  pub pointer : Option (List ℕ)
  pub named : Option (List ℕ)
  pub wants : Option (List ℕ)
  pub has : List ℕ
  pub side : Option (List ℕ)
  pub answers : Option ℕ
  pub is_beyond : Bool

-- the name of an end
abbrev pub side_text : Side → List ℕ
side_text Local = codes "local"
side_text Remote = codes "remote"

-- a number in decimal, or `null`
abbrev pub number_or_null : Option ℕ → List ℕ
number_or_null None = codes "null"
number_or_null (Some n) = decimal n

-- a text as JSON writes it, or `null`
abbrev pub text_or_null : Option (List ℕ) → List ℕ
text_or_null None = codes "null"
text_or_null (Some s) = quoted s

-- a truth value
abbrev pub truth : Bool → List ℕ
truth b = if b then codes "true" else codes "false"

-- `"NAME":`, for a name without an escape
abbrev pub named : List ℕ → List ℕ
named name = 34 ∷ (name ++ 34 ∷ 58 ∷ [])

-- `{"line":N,"id":ID,"method":METHOD,"pointer":POINTER,"rule":RULE,"wants":WANTS,"has":HAS,"side":SIDE,"answers":ID,"beyond":TRUTH}`
abbrev pub json_line : Option ℕ → Row → List ℕ
json_line n r =
    123 ∷ named (codes "line") ++ number_or_null n
    ++ 44 ∷ named (codes "id") ++ number_or_null r.id
    ++ 44 ∷ named (codes "method") ++ text_or_null r.method
    ++ 44 ∷ named (codes "pointer") ++ text_or_null r.pointer
    ++ 44 ∷ named (codes "rule") ++ text_or_null r.named
    ++ 44 ∷ named (codes "wants") ++ text_or_null r.wants
    ++ 44 ∷ named (codes "has") ++ text_or_null (Some r.has)
    ++ 44 ∷ named (codes "side") ++ text_or_null r.side
    ++ 44 ∷ named (codes "answers") ++ number_or_null r.answers
    ++ 44 ∷ named (codes "beyond") ++ truth r.is_beyond
    ++ 125 ∷ 10 ∷ []

-- the members of a JSON line of the code
abbrev pub row_of : declared_row.Row → Row
row_of r = record {
  id = r.id;
  method = option_map (λ s. s.now) r.method;
  pointer = option_map (λ s. s.now) r.pointer;
  named = option_map (λ s. s.now) r.rule;
  wants = option_map (λ s. s.now) r.wants;
  has = r.has.now;
  side = option_map (λ s. s.now) r.side;
  answers = r.answers;
  is_beyond = r.is_beyond;
}

-- the row of a line that is no text to judge
abbrev pub bad_row : Option Side → Option ℕ → BadText → Row
bad_row side answers b = record {
  id = None;
  method = None;
  pointer = None;
  named = None;
  wants = None;
  has = bad_words b;
  side = option_map side_text side;
  answers = answers;
  is_beyond = false;
}

-- that of a tree that does not fit
abbrev pub misfit_row : Option Side → Option ℕ → Misfit → Row
misfit_row side answers m = record {
  id = m.id;
  method = m.method;
  pointer = Some m.pointer;
  named = m.named;
  wants = Some m.wants;
  has = m.has;
  side = option_map side_text side;
  answers = answers;
  is_beyond = m.is_beyond;
}

-- the row of what is wrong with a text of this end, which answers the command of this id
abbrev pub trouble_row : Option Side → Option ℕ → Trouble → Row
trouble_row side answers (bad b) = bad_row side answers b
trouble_row side answers (no_fit m) = misfit_row side answers m

-- ---- of both

-- what is written for the refused line of this number, a text of this end, which answers the command of this id
abbrev pub told_text : Form → ℕ → Option Side → Option ℕ → Trouble → List ℕ
told_text Words n side answers x = answering_line n (trouble_words x) answers
told_text Json n side answers x = json_line (Some n) (trouble_row side answers x)

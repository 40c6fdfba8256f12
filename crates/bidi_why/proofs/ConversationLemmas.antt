-- One more line of a conversation.
use Rattle.std.proofs.Common.{◌≡◌, ◌∙◌, ℕ, ◌+◌, ◌≤◌, take, Bool, true, false, List, [], ◌∷◌, ◌++◌, length, Option, Some, None, Result, Ok, Err, IfOk}
use Rattle.std.proofs.Common.{append_assoc, append-nil, arith, inl, inr, option_map, refl, sym, ap, subst}
use Rattle.std.specs.Prelude.{◌&&◌, ◌⊎◌, cond, not, map, OnOk}
use Rattle.std.proofs.lemmas.Grind.{flat_map-append}
use Rattle.std.proofs.lemmas.List.{map-append}
use Rattle.std.proofs.lemmas.List.Elements.{filter-append}
use Rattle.std.specs.Io.KnownBytes.{Appends}
use Rattle.bidi_lines.specs.Stops.{IsCutOff}
use Rattle.bidi_lines.specs.declared.answering.LinesFault.{LinesFault}
use Rattle.bidi_lines.specs.declared.answering.LinesFault.TheVariants.{Read, Write, BadLine, NoMemory, TooManyLines, WornOut}
use Rattle.bidi_lines.proofs.AnsweringLemmas.{cut_off}
use Rattle.bidi_remarks.specs.Explaining.{Telling, remark_telling, told_of}
use Rattle.bidi_remarks.specs.Remark.{Remark, is_beyond, remark_line}
use Rattle.bidi_remarks.specs.declared.telling.Told.{Told}
use Rattle.bidi_remarks.specs.declared.texts.Form.{Form}
use Rattle.bidi_why.specs.Conversing.{Converses, CountsConversation, Heard, HearsEach, HearsLine, IsTranscript, Standing, StopsConversation, TellsConversation, at_line, entry_of, kept_remarks, remark_lines, silence, unanswered_commands, unanswered_entries, unanswered_lines}
use Rattle.bidi_why.specs.Explainers.{HasConversed, standing_of, text_in}
use Rattle.bidi_why.specs.Summary.{Entry, IsSum, any_fault, entries_in}
use Rattle.bidi_why.specs.Telling.{SoFar, StopsLine, Sums, Whole, last_line}
use Rattle.bidi_why.specs.declared.conversation.Conversation.{Conversation}
use Rattle.bidi_why.specs.declared.sum.Sum.{Sum}
use Rattle.bidi_why.proofs.TellingLemmas.{whole_as}

-- what is told of one line more stands behind the rest
hears_more : (n : ℕ) (s mid s' : Standing) (lines : List (List ℕ)) (line : List ℕ) (told : List Heard) (o : Option Remark)
    → HearsEach n s lines told mid → HearsLine (n + length lines) mid line o s'
    → HearsEach n s (lines ++ line ∷ []) (told ++ at_line (n + length lines) line o) s'
hears_more n s mid s' [] line told o (none, same) hears =
    let first : n + 0 ≡ n = omega arith in
    let here = subst (λ (k : ℕ). HearsLine k s line o s') first (subst (λ (m : Standing). HearsLine (n + 0) m line o s') same hears) in (
      o,
      s',
      [],
      here,
      (refl, refl),
      ap (λ (l : List Heard). l ++ at_line (n + 0) line o) none ∙ ap (λ (k : ℕ). at_line k line o) first ∙ sym (append-nil (at_line n line o)),
    )
hears_more n s mid s' (y ∷ ys) line told o (front, next, more, first, rest, e) hears =
    let same : n + length (y ∷ ys) ≡ n + 1 + length ys = omega arith in
    let later = subst (λ (k : ℕ). HearsLine k mid line o s') same hears in (
      front,
      next,
      more ++ at_line (n + 1 + length ys) line o,
      first,
      hears_more (n + 1) next mid s' ys line more o rest later,
      ap (λ (l : List Heard). l ++ at_line (n + length (y ∷ ys)) line o) e
          ∙ append_assoc (at_line n y front) more (at_line (n + length (y ∷ ys)) line o)
          ∙ ap (λ (k : ℕ). at_line n y front ++ (more ++ at_line k line o)) same,
    )

-- and so do the text and what is counted
converses_more : (form : Option Form) (only : Bool) (lines : List (List ℕ)) (line text : List ℕ) (told : List Entry) (s s' : Standing) (o : Option Remark)
    → Converses form only lines text told s → HearsLine (1 + length lines) s line o s'
    → Converses form only (lines ++ line ∷ []) (text ++ remark_lines form (kept_remarks only (at_line (1 + length lines) line o)))
    (told ++ map entry_of (kept_remarks only (at_line (1 + length lines) line o))) s'
converses_more form only lines line text told s s' o (heard, each, is_text, is_told) hears =
    let n = 1 + length lines in
    let here = kept_remarks only (at_line n line o) in
    let all : kept_remarks only (heard ++ at_line n line o) ≡ kept_remarks only heard ++ here =
    filter-append (λ (h : Heard). not (only && is_beyond h.remark)) heard (at_line n line o) in (
      heard ++ at_line n line o,
      hears_more 1 silence s s' lines line heard o each hears,
      ap (λ (t : List ℕ). t ++ remark_lines form here) is_text
          ∙ sym (flat_map-append (λ (h : Heard). remark_line form h.number h.remark) (kept_remarks only heard) here)
          ∙ ap (remark_lines form) (sym all),
      ap (λ (es : List Entry). es ++ map entry_of here) is_told
          ∙ sym (map-append entry_of (kept_remarks only heard) here)
          ∙ ap (map entry_of) (sym all),
    )

-- since the first of its states, where text, entries and count are known by other names
pub conversed_more : (first before now : Conversation) (number : ℕ) (lines : List (List ℕ)) (line text more : List ℕ) (told es : List Entry) (o : Option Remark)
    → HasConversed first before lines text told → number ≡ length lines + 1 → now.form ≡ before.form → now.profile_only ≡ before.profile_only
    → HearsLine number (standing_of before) line o (standing_of now)
    → more ≡ remark_lines before.form (kept_remarks before.profile_only (at_line number line o))
    → es ≡ map entry_of (kept_remarks before.profile_only (at_line number line o))
    → HasConversed first now (lines ++ line ∷ []) (text ++ more) (told ++ es)
conversed_more first before now number lines line text more told es o p counted form only hears is_more is_es =
    let next : number ≡ 1 + length lines = omega (arith, counted) in
    let said = converses_more first.form first.profile_only lines line text told (standing_of before) (standing_of now) o p.tells
    (subst (λ (n : ℕ). HearsLine n (standing_of before) line o (standing_of now)) next hears) in
    let is_text : remark_lines first.form (kept_remarks first.profile_only (at_line (1 + length lines) line o)) ≡ more =
    ap (λ (n : ℕ). remark_lines first.form (kept_remarks first.profile_only (at_line n line o))) (sym next)
    ∙ ap (λ (f : Option Form). remark_lines f (kept_remarks first.profile_only (at_line number line o))) (sym p.form)
    ∙ ap (λ (b : Bool). remark_lines before.form (kept_remarks b (at_line number line o))) (sym p.only) ∙ sym is_more in
    let is_told : map entry_of (kept_remarks first.profile_only (at_line (1 + length lines) line o)) ≡ es =
    ap (λ (n : ℕ). map entry_of (kept_remarks first.profile_only (at_line n line o))) (sym next)
    ∙ ap (λ (b : Bool). map entry_of (kept_remarks b (at_line number line o))) (sym p.only) ∙ sym is_es in
    record {
      form = form ∙ p.form;
      only = only ∙ p.only;
      tells = subst (λ (l : List Entry). Converses first.form first.profile_only (lines ++ line ∷ []) (text ++ more) (told ++ l) (standing_of now)) is_told
          (subst (λ (t : List ℕ). Converses first.form first.profile_only (lines ++ line ∷ []) (text ++ t)
          (told ++ map entry_of (kept_remarks first.profile_only (at_line (1 + length lines) line o))) (standing_of now)) is_text said);
    }

-- ---- what is told of a remark

module _ (form : Option Form) (only : Bool) (n : ℕ) (line : List ℕ) (said : Remark) where
  -- a remark that an option leaves out
  left_out : (only && is_beyond said) ≡ true → [] ≡ kept_remarks only (at_line n line (Some said))
  left_out out =
      let h : Heard = record { number = n; line = line; remark = said } in
      sym (λ i. cond (not (out i)) (h ∷ []) [])

  -- and one that is told
  left_in : (only && is_beyond said) ≡ false → at_line n line (Some said) ≡ kept_remarks only (at_line n line (Some said))
  left_in stays =
      let h : Heard = record { number = n; line = line; remark = said } in
      sym (λ i. cond (not (stays i)) (h ∷ []) [])

  -- nothing is written where it is left out, and nothing is counted
  pub quiet_text : (only && is_beyond said) ≡ true → text_in None ≡ remark_lines form (kept_remarks only (at_line n line (Some said)))
  quiet_text out = ap (remark_lines form) (left_out out)

  pub quiet_entries : (only && is_beyond said) ≡ true → entries_in line None ≡ map entry_of (kept_remarks only (at_line n line (Some said)))
  quiet_entries out = ap (map entry_of) (left_out out)

  -- where it is not, that is written and counted which is told of it
  pub told_text : (t : Told) → told_of t ≡ remark_telling form n said → (only && is_beyond said) ≡ false
      → text_in (Some t) ≡ remark_lines form (kept_remarks only (at_line n line (Some said)))
  told_text t is stays = ap (λ (x : Telling). x.0) is ∙ sym (append-nil (remark_line form n said)) ∙ ap (remark_lines form) (left_in stays)

  pub told_entries : (t : Told) → told_of t ≡ remark_telling form n said → (only && is_beyond said) ≡ false
      → entries_in line (Some (told_of t)) ≡ map entry_of (kept_remarks only (at_line n line (Some said)))
  told_entries t is stays = ap (λ (x : Telling). entries_in line (Some x)) is ∙ ap (map entry_of) (left_in stays)

-- a conjunction with a false part is false
pub stays_in : (a b : Bool) → (a ≡ false) ⊎ (b ≡ false) → (a && b) ≡ false
stays_in a b (inl e) = ap (λ (x : Bool). x && b) e
stays_in true b (inr e) = e
stays_in false b (inr e) = refl

-- the same where it is told if an option does not leave it out
pub conversed_if : {E : Type 0} (first before now : Conversation) (number : ℕ) (lines : List (List ℕ)) (line text : List ℕ) (told : List Entry) (said : Remark)
    (r : Result (Option Told) E) → HasConversed first before lines text told → number ≡ length lines + 1 → now.form ≡ before.form
    → now.profile_only ≡ before.profile_only → HearsLine number (standing_of before) line (Some said) (standing_of now)
    → IfOk r (λ t. (line : List ℕ) → text_in t ≡ remark_lines now.form (kept_remarks now.profile_only (at_line number line (Some said))))
    → IfOk r (λ t. (line : List ℕ) → entries_in line (option_map told_of t) ≡ map entry_of (kept_remarks now.profile_only (at_line number line (Some said))))
    → IfOk r (λ t. HasConversed first now (lines ++ line ∷ []) (text ++ text_in t) (told ++ entries_in line (option_map told_of t)))
conversed_if first before now number lines line text told said (Ok t) p counted form only hears is_text is_told =
    conversed_more first before now number lines line text (text_in t) told (entries_in line (option_map told_of t)) (Some said) p counted form only hears
    (is_text line
    ∙ (ap (λ (f : Option Form). remark_lines f (kept_remarks now.profile_only (at_line number line (Some said)))) form
    ∙ ap (λ (b : Bool). remark_lines before.form (kept_remarks b (at_line number line (Some said)))) only))
    (is_told line ∙ ap (λ (b : Bool). map entry_of (kept_remarks b (at_line number line (Some said)))) only)
conversed_if first before now number lines line text told said (Err e) p counted form only hears is_text is_told = tt

-- what holds anyhow holds where a call succeeds
pub ok_anyhow : {T E P : Type 0} (r : Result T E) → P → OnOk r P
ok_anyhow (Ok x) p = p
ok_anyhow (Err e) p = tt

-- no value is both false and true
pub no_form : (b : Bool) → false ≡ b → b ≡ true → ⊥
no_form b e f = let apart : false ≡ true = e ∙ f in absurd cc

-- ---- the whole

module _ (form : Option Form) (only : Bool) (first now : Conversation) (same : first.form ≡ form) (alike : first.profile_only ≡ only) where
  -- what was told, said of the form and of what is asked for
  said_so : (lines : List (List ℕ)) (text : List ℕ) (told : List Entry) → HasConversed first now lines text told
      → Converses form only lines text told (standing_of now)
  said_so lines text told p =
      subst (λ (b : Bool). Converses form b lines text told (standing_of now)) alike
      (subst (λ (f : Option Form). Converses f first.profile_only lines text told (standing_of now)) same p.tells)

  -- what was told is the transcript of the lines
  pub transcript : (lines : List (List ℕ)) (text : List ℕ) (told : List Entry) → HasConversed first now lines text told → IsTranscript form only lines text
  transcript lines text told p = (told, standing_of now, said_so lines text told p)

  -- a fault behind the last line
  pub stops_behind : (sum : Sum) (f : LinesFault) (b c : Option (List ℕ)) (at_end : Bool) (read wrote : List ℕ)
      → Whole (Sums HasConversed first now sum) read wrote → at_end ≡ true
      → StopsLine (λ text. text ≡ unanswered_lines now.form (unanswered_commands (standing_of now))) f b c
      → (more : List ℕ) × Appends b c more × StopsConversation form only f at_end read (wrote ++ more)
  stops_behind sum Write b c at_end read wrote (lines, last, parts, one, (told, p, is_sum, short, few)) at_last (text, is, (n, less, appends)) =
      let of_form : now.form ≡ form = p.form ∙ same in
      let whole : text ≡ unanswered_lines form (unanswered_commands (standing_of now)) = is ∙ ap (λ (f : Option Form). unanswered_lines f (unanswered_commands (standing_of now))) of_form in (
        take n text,
        appends,
        inr (
          at_last,
          (
            wrote,
            standing_of now,
            take n text,
            (lines, last, parts, one, (told, said_so (lines ++ last_line last) wrote told p)),
            subst (λ (w : List ℕ). IsCutOff (take n text) w) whole (cut_off n text less),
            refl,
          ),
        ),
      )
  stops_behind sum NoMemory b c at_end read wrote whole at_last none = (
    [],
    none,
    inr (
      at_last,
      subst (λ (w : List ℕ). Whole (IsTranscript form only) read w) (sym (append-nil wrote))
          (whole_as (λ (lines : List (List ℕ)) (text : List ℕ) (h : Sums HasConversed first now sum lines text). transcript lines text h.0 h.1) read wrote whole),
    ),
  )
  stops_behind sum Read b c at_end read wrote whole at_last none = absurd none
  stops_behind sum (BadLine n) b c at_end read wrote whole at_last none = absurd none
  stops_behind sum TooManyLines b c at_end read wrote whole at_last none = absurd none
  stops_behind sum WornOut b c at_end read wrote whole at_last none = absurd none

  -- all was told, and then the commands that were never answered, and the fact holds of how they are counted
  pub counts_both : (sum sum' : Sum) (b c : Option (List ℕ)) (read wrote : List ℕ) (P : ℕ → List Entry → Type 0)
      → Whole (Sums HasConversed first now sum) read wrote → Appends b c (unanswered_lines now.form (unanswered_commands (standing_of now)))
      → ((n : ℕ) (told : List Entry) → length told ≤ 1000000000 → IsSum sum n told → IsSum sum' n (told ++ unanswered_entries (unanswered_commands (standing_of now))))
      → ((n : ℕ) (told : List Entry) → IsSum sum' n told → P n told)
      → (text : List ℕ) × Appends b c text × CountsConversation form only P read (wrote ++ text)
  counts_both sum sum' b c read wrote P (lines, last, parts, one, (told, p, is_sum, short, few)) appends more so =
      let of_form : now.form ≡ form = p.form ∙ same in
      let all = lines ++ last_line last in (
        unanswered_lines form (unanswered_commands (standing_of now)),
        subst (λ (f : Option Form). Appends b c (unanswered_lines f (unanswered_commands (standing_of now)))) of_form appends,
        (
          wrote,
          standing_of now,
          (
            lines,
            last,
            parts,
            one,
            (
              told,
              said_so all wrote told p,
              so (length all) (told ++ unanswered_entries (unanswered_commands (standing_of now))) (more (length all) told (omega (arith, short, few)) is_sum),
            ),
          ),
          refl,
        ),
      )

  -- the same, and whether there is a fault
  pub tells_both : (sum sum' : Sum) (b c : Option (List ℕ)) (some : Bool) (read wrote : List ℕ)
      → Whole (Sums HasConversed first now sum) read wrote → Appends b c (unanswered_lines now.form (unanswered_commands (standing_of now)))
      → ((n : ℕ) (told : List Entry) → length told ≤ 1000000000 → IsSum sum n told
      → IsSum sum' n (told ++ unanswered_entries (unanswered_commands (standing_of now))))
      → some ≡ sum'.has_fault → (text : List ℕ) × Appends b c text × TellsConversation form only some read (wrote ++ text)
  tells_both sum sum' b c some read wrote whole appends more is =
      counts_both sum sum' b c read wrote (λ (n : ℕ) (told : List Entry). some ≡ any_fault told) whole appends more (λ n told sum_of. is ∙ sum_of.fault)

-- what was told so far is a transcript, said of the form and of what is asked for
pub transcript_so : (form : Option Form) (only : Bool) (first : Conversation) → first.form ≡ form → first.profile_only ≡ only
    → (lines : List (List ℕ)) (text : List ℕ) → SoFar HasConversed first lines text → IsTranscript form only lines text
transcript_so form only first same alike lines text (now, told, p) = transcript form only first now same alike lines text told p

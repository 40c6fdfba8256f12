-- What is wrong with a line, and what is told of it.
use Rattle.std.proofs.Common.{◌≡◌, ◌∙◌, ℕ, List, length, Bool, true, false, Option, Some, None, Result, Ok, Err, IfOk, String, Global}
use Rattle.std.proofs.Common.{arith, refl, sym, ap, subst, is_some, string_bytes, option_map, codes}
use Rattle.std.specs.Prelude.{IsUtf8, IfSome, nat_le, if◌then◌else◌}
use Rattle.std.specs.Result.{result_err}
use Rattle.std.proofs.lemmas.Bool.Decides.{nat_tests}
use Rattle.bidi_tree.specs.Node.{Node}
use Rattle.bidi_tree.specs.declared.number.JsUint.{JsUint}
use Rattle.bidi_tree.specs.Text.{tree_of, tree_of_text}
use Rattle.bidi_shape.specs.Fits.{Fits}
use Rattle.bidi_shape.specs.Name.{command}
use Rattle.bidi_shape.specs.Outcome.{IfNoFit}
use Rattle.bidi_shape.specs.Term.{rule}
use Rattle.bidi_shape.specs.declared.fault.ShapeFault.{ShapeFault}
use Rattle.bidi_shape.specs.declared.fault.ShapeFault.TheVariants.{NoFit, NoMemory}
use Rattle.bidi_params.specs.declared.error_code.ErrorCode.{ErrorCode}
use Rattle.bidi_params.specs.declared.error_code.ErrorCode.TheVariants.{InvalidArgument}
use Rattle.bidi_messages.specs.Verdict as verdict
use Rattle.bidi_messages.specs.Verdict.{command_tree, echoed_id}
use Rattle.bidi_messages.specs.contracts.command.CommandShape.TheImpl.{ghosts}
use Rattle.bidi_messages.specs.declared.command.Command.{Command}
use Rattle.bidi_show.specs.MessageLines as show
use Rattle.bidi_show.specs.MessageLines.{HasTree, Refuses}
use Rattle.bidi_lines.specs.declared.side.Side.{Side}
use Rattle.bidi_lines.specs.declared.side.Side.TheVariants.{Local, Remote}
use Rattle.bidi_remarks.specs.Trouble.{HasMisfitOf, HasNoTree, HasTrouble, IsTrouble, IsTroubleAt, Misfit, Trouble, bad, no_fit, is_too_large}
use Rattle.bidi_remarks.specs.Trouble.{HasId, fits_none, is_no_text, is_not_json, of_tree}
use Rattle.bidi_remarks.specs.Explaining.{Explains, Telling, is_refused, telling}
use Rattle.bidi_remarks.specs.declared.bad_text.BadText.TheVariants.{ByteOrderMark, NotJson, NoUtf8, TooLarge, TooLong, NoDirection}
use Rattle.bidi_remarks.specs.declared.bad_text.BadText.{BadText}
use Rattle.bidi_remarks.specs.declared.texts.Form.{Form}
use Rattle.bidi_syntax.specs.declared.fault.Fault.{Fault}

-- the text that a line is has its tree
pub has_tree : (line text : List ℕ) (t : Node) → (text ≡ line) × IsUtf8 line → tree_of_text None text ≡ Some t → HasTree line t
has_tree line text t (same, is) read = (is, subst (λ (s : List ℕ). tree_of_text None s ≡ Some t) same read)

-- a line is taken, or refused for some text
pub taken : (side : Side) (line : List ℕ) (o : Option (String Global)) → is_some o ≡ false → Refuses side line (option_map string_bytes o) → Refuses side line None
taken side line None e h = h
taken side line (Some s) e h = absurd cc

pub refused : (side : Side) (line : List ℕ) (o : Option (String Global)) → is_some o ≡ true → Refuses side line (option_map string_bytes o)
    → (why : List ℕ) × Refuses side line (Some why)
refused side line None e h = absurd cc
refused side line (Some s) e h = (string_bytes s, h)

-- that is wrong with a line that has no tree
pub bad_line : (side : Side) (line : List ℕ) (b : BadText) → HasNoTree line b → IsTrouble side line (bad b)
bad_line side line (NoUtf8 place) (none, (front, valid, at)) = subst (λ (n : ℕ). IsTrouble side line (bad (NoUtf8 n))) (sym at) (is_no_text front none valid)
bad_line side line (NotJson fault) (is, none, e) = subst (λ (f : Option Fault). IsTrouble side line (bad (NotJson f))) (sym e) (is_not_json is none)
bad_line side line ByteOrderMark h = absurd h
bad_line side line TooLong h = absurd h
bad_line side line TooLarge h = absurd h
bad_line side line NoDirection h = absurd h

-- which has no tree
pub treeless : (line : List ℕ) (b : BadText) → HasNoTree line b → (t : Node) → HasTree line t → ⊥
treeless line (NoUtf8 place) (none, at) t (is, read) = none is
treeless line (NotJson fault) (is, none, e) t (also, read) = absurd cc
treeless line ByteOrderMark h t has = h
treeless line TooLong h t has = h
treeless line TooLarge h t has = h
treeless line NoDirection h t has = h

-- the id of a line that is read as a value
pub id_found : {E : Type 0} (line : List ℕ) (t : Node) (r : Result (Option JsUint) E) → HasTree line t
    → IfOk r (λ found. option_map (λ n. n.value) found ≡ echoed_id t) → IfOk r (λ id. HasId line (option_map (λ n. n.value) id))
id_found line t (Ok found) has is = subst (HasId line) (sym is) (of_tree t has)
id_found line t (Err e) has is = tt

-- ---- lines of a local end

-- one that is not too large has the tree of a command text
small_tree : (line : List ℕ) (o : Option Node) → is_too_large Local line ≡ false → tree_of_text None line ≡ o → command_tree line ≡ o
small_tree line o small read =
    let within : nat_le (length line) 1048576 ≡ true = grind (arith, nat_tests, small) in
    ap (λ (b : Bool). if b then tree_of line else None) within ∙ read

-- one that is has none
large_tree : (line : List ℕ) → is_too_large Local line ≡ true → command_tree line ≡ None
large_tree line large =
    let past : nat_le (length line) 1048576 ≡ false = grind (arith, nat_tests, large) in
    ap (λ (b : Bool). if b then tree_of line else None) past

-- nor has one that is no JSON
no_json_tree : (line : List ℕ) → tree_of_text None line ≡ None → command_tree line ≡ None
no_json_tree line none = go (nat_le (length line) 1048576)
  where
    go : (b : Bool) → (if b then tree_of line else None) ≡ None
    go true = none
    go false = refl

-- what has a verdict to be refused is refused
verdict_refused : (line : List ℕ) (id : Option ℕ) (code : ErrorCode) → show.HasVerdict line (verdict.Refused id code) → (why : List ℕ) × Refuses Local line (Some why)
verdict_refused line id code h = let v = verdict.Refused id code in (_, (show.verdict_shown v, (v, h, refl), refl))

-- where its tree fits the rule of commands it is taken
pub command_taken : (line : List ℕ) (t : Node) → HasTree line t → is_too_large Local line ≡ false → Fits t (rule command) → Refuses Local line None
command_taken line t (is, read) small fits =
    let v = verdict.Accepted t in
    let judged : show.HasVerdict line v = record {
      text = λ _. verdict.is_command t (small_tree line (Some t) small read) fits;
      no_text = λ none. absurd (none is);
    } in
    (show.verdict_shown v, (v, judged, refl), refl)

-- where it does not it is refused
pub command_refused : (line : List ℕ) (t : Node) → HasTree line t → is_too_large Local line ≡ false → (Fits t (rule command) → ⊥)
    → (why : List ℕ) × Refuses Local line (Some why)
command_refused line t (is, read) small misfit = verdict_refused line (verdict.echoed_id t) (verdict.refusal_code t) (record {
  text = λ _. verdict.is_no_command t (small_tree line (Some t) small read) misfit;
  no_text = λ none. absurd (none is);
})

-- so is one that is too large
pub large_refused : (side : Side) (line : List ℕ) (t : Node) → HasTree line t → is_too_large side line ≡ true → (why : List ℕ) × Refuses side line (Some why)
large_refused Local line t (is, read) large = verdict_refused line None InvalidArgument (record {
  text = λ _. verdict.is_not_json (large_tree line large);
  no_text = λ none. absurd (none is);
})
large_refused Remote line t has large = absurd cc

-- a tree of which a command was made fits the rule
pub command_fits : {E : Type 0} (t : Node) (r : Result Command E) → IfOk r (λ c. (ghosts.shape.tree_of c ≡ t) × ghosts.shape.well c) → result_err r ≡ None → Fits t (rule command)
command_fits t (Ok c) (same, well) none = subst (λ (x : Node). Fits x (rule command)) same (ghosts.shape.fits c well)
command_fits t (Err e) h none = absurd cc

-- one of which none was made does not
pub command_misfits : (t : Node) (r : Result Command ShapeFault) (e : ShapeFault) → IfNoFit r (Fits t (rule command) → ⊥) → result_err r ≡ Some e → e ≡ NoFit
    → Fits t (rule command) → ⊥
command_misfits t (Ok c) e h some is = absurd cc
command_misfits t (Err NoFit) e h some is = h
command_misfits t (Err NoMemory) e h some is = absurd cc

-- ---- lines of either end

-- one that has no tree is refused
pub no_tree : (side : Side) (line : List ℕ) (b : BadText) → HasNoTree line b → HasTrouble side line (Some (bad b))
no_tree side line b h = (not_taken side b h, bad_line side line b h)
  where
    not_taken : (side : Side) (b : BadText) → HasNoTree line b → (why : List ℕ) × Refuses side line (Some why)
    not_taken Local (NoUtf8 place) (none, at) = verdict_refused line None InvalidArgument (record { text = λ is. absurd (none is); no_text = λ _. refl })
    not_taken Local (NotJson fault) (is, none, e) = verdict_refused line None InvalidArgument (record {
      text = λ _. verdict.is_not_json (no_json_tree line none);
      no_text = λ _. refl;
    })
    not_taken Remote (NoUtf8 place) (none, at) = (codes "not json", (show.Refused (codes "not json"), show.is_no_text none, refl))
    not_taken Remote (NotJson fault) (is, none, e) = (codes "not json", (show.Refused (codes "not json"), show.is_not_json is none, refl))
    not_taken side ByteOrderMark h = absurd h
    not_taken side TooLong h = absurd h
    not_taken side TooLarge h = absurd h
    not_taken side NoDirection h = absurd h

-- ---- lines of a remote end

-- what is said of a refusal
pub said : {A P : Type 0} (o : Option A) → is_some o ≡ true → IfSome o (λ _. P) → P
said None e h = absurd cc
said (Some s) e h = h

-- one whose value is refused has the misfit of its tree
pub value_refused : (t : Node) (o : Option (String Global)) (m : Misfit) → is_some o ≡ true
    → ((line : List ℕ) → HasTree line t → Refuses Remote line (option_map string_bytes o)) → HasMisfitOf Remote t m
    → (line : List ℕ) → HasTree line t → HasTrouble Remote line (Some (no_fit m))
value_refused t o m some refuses misfit line read = (refused Remote line o some (refuses line read), fits_none t m read refl misfit)

-- ---- what is told

-- what is told of a refused line
pub explained : (form : Form) (side : Side) (n : ℕ) (line : List ℕ) (told : Telling) (x : Trouble) → ((why : List ℕ) × Refuses side line (Some why))
    → IsTroubleAt side n line x → told ≡ telling form side n x → Explains form side n line (Some told)
explained form side n line told x (why, refuses) at e = subst (λ (t : Telling). Explains form side n line (Some t)) (sym e) (is_refused why x refuses at)

-- The verdict on a text that is recorded in place of another, and the command that rows see in it.
use Rattle.std.proofs.Common.{◌≡◌, false, ℕ, ◌<◌, nat_le, cond, IfOk, Result, Ok, Err, List, length, codes, None, option_map, option_and_then, refl, ap, sym, ◌∙◌, arith}
use Rattle.std.specs.Prelude.{if◌then◌else◌, is_some}
use Rattle.std.proofs.lemmas.List.{length-map}
use Rattle.json.specs.Json.{if_last, value, max_depth as json_depth}
use Rattle.serde_json.specs.Read.{of_json, max_depth}
use Rattle.serde_json.proofs.OnLiterals.{serde_json_on_literals}
use Rattle.bidi_tree.specs.Text.{of_data, tree_of}
use Rattle.bidi_messages.specs.Verdict.{Verdict, IsVerdict, is_command, is_not_json, is_no_command, command_tree}
use Rattle.bidi_rows.specs.Command.{command_in, command_of}
use Rattle.bidi_recorder.specs.OneLine.{return_for, with_returns}
use Rattle.bidi_recorder.specs.RowCommands.{command_for_rows}
use Rattle.bidi_recorder.proofs.FeedLemmas.{tokens_same}

-- a consequence for each value holds for a result
pub if_ok : {A E : Type 0} {P Q : A → Type 0} → ((a : A) → P a → Q a) → (r : Result A E) → IfOk r P → IfOk r Q
if_ok f (Ok a) h = f a h
if_ok f (Err e) h = tt

-- a text with the tree that another has as a command has its verdict
pub same_verdict : {text : List ℕ} {v : Verdict} (said : List ℕ) → command_tree said ≡ command_tree text → IsVerdict text v → IsVerdict said v
same_verdict said same (is_command t e f) = is_command t (same ∙ e) f
same_verdict said same (is_not_json e) = is_not_json (same ∙ e)
same_verdict said same (is_no_command t e misfit) = is_no_command t (same ∙ e) misfit

-- a text with a carriage return in place of each line feed has the same tree
tree_with_returns : (text : List ℕ) → command_tree (with_returns text) ≡ command_tree text
tree_with_returns text =
    λ i. cond (nat_le (length-map text return_for i) 1048576)
    (option_map of_data (option_and_then of_json (option_and_then (λ p. if_last p.0 p.1) (value max_depth (tokens_same text i))))) None

-- and so the same verdict
pub verdict_with_returns : (text : List ℕ) (v : Verdict) → IsVerdict text v → IsVerdict (with_returns text) v
verdict_with_returns text v = same_verdict (with_returns text) (tree_with_returns text)

-- and it is the same command for rows
pub command_with_returns : (text : List ℕ) → command_for_rows (with_returns text) ≡ command_for_rows text
command_with_returns text =
    λ i. if is_some (tree_with_returns text i)
    then option_and_then command_in (option_and_then (λ p. if_last p.0 p.1) (value json_depth (tokens_same text i))) else None

no_command : (text : List ℕ) → 1048576 < length text → command_tree text ≡ None
no_command text long =
    let past : nat_le (length text) 1048576 ≡ false = grind arith in
    ap (λ b. cond b (tree_of text) None) past

no_value : command_tree (codes "{") ≡ None
unfolding serde_json_on_literals
no_value = refl

-- a text past the limit of a command has no tree, and neither has `{`
pub verdict_too_long : (text : List ℕ) (v : Verdict) → 1048576 < length text → IsVerdict text v → IsVerdict (codes "{") v
verdict_too_long text v long = same_verdict (codes "{") (no_value ∙ sym (no_command text long))

-- rows see no command in a text without a tree
unseen : (text : List ℕ) → command_tree text ≡ None → command_for_rows text ≡ None
unseen text none = λ i. if is_some (none i) then command_of text else None

-- so they see none in a text past the limit, nor in `{`
pub command_too_long : (text : List ℕ) → 1048576 < length text → command_for_rows (codes "{") ≡ command_for_rows text
command_too_long text long = unseen (codes "{") no_value ∙ sym (unseen text (no_command text long))

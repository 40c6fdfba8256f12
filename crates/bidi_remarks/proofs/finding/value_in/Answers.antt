use Rattle.std.proofs.Common.{◌≡◌, ℕ, List, Err, None, ap, refl, sym, subst}
use Rattle.std.specs.Str.{IsValidUpTo}
use Rattle.bidi_tree.specs.Text.{tree_of_text}
use Rattle.bidi_tree.specs.Json.{parsed}
use Rattle.bidi_remarks.proofs.FindingLemmas.{has_tree}
use Rattle.bidi_remarks.proofs.finding.value_in.Goals as goal

pub returns-in-Err : goal.returns-in-Err
returns-in-Err c =
    let (none, front) = c.in-Err.ensures.cases in
    (none, (c.valid_up_to.result, subst (IsValidUpTo c.args.line.now) (sym c.valid_up_to.ensures) front, refl))

pub returns-in-Ok-parse : goal.returns-in-Ok-parse
returns-in-Ok-parse c = has_tree c.args.line.now c.in-Ok.text.now (parsed c.in-Ok-parse.value) c.in-Ok.ensures.cases c.in-Ok-parse.ensures.ok

pub returns-in_ok-fault_of-in-Err-NotJson : goal.returns-in_ok-fault_of-in-Err-NotJson
returns-in_ok-fault_of-in-Err-NotJson c =
    let text = c.in-Ok.ensures.cases in
    let refused = c.in-Err-NotJson.ensures.not_json (ap Err c.in-Err-NotJson.field-0-is) in
    (text.1, subst (λ (s : List ℕ). tree_of_text None s ≡ None) text.0 refused.1, c.in_ok-fault_of-in-Err-NotJson.ensures)

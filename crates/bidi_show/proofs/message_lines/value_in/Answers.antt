use Rattle.std.proofs.Common.{◌≡◌, None, Err, ap, subst}
use Rattle.bidi_tree.specs.Text.{tree_of_text}
use Rattle.bidi_show.specs.MessageLines.{is_no_text, is_not_json}
use Rattle.bidi_show.proofs.message_lines.value_in.Goals as goal

pub returns-in_default : goal.returns-in_default
returns-in_default c = is_no_text c.in_default.ensures.cases.0

pub returns-in-Err-NotJson : goal.returns-in-Err-NotJson
returns-in-Err-NotJson c =
    let refused = c.in-Err-NotJson.ensures.not_json (ap Err c.in-Err-NotJson.field-0-is) in
    is_not_json c.in-Ok.ensures.cases.1 (subst (λ s. tree_of_text None s ≡ None) c.in-Ok.ensures.cases.0 refused.1)

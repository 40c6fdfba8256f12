use Rattle.std.proofs.Common.{◌≡◌, Some, None, option_map, true≢false, sym, ap, ◌∙◌}
use Rattle.bidi_tree.specs.Json.{parsed}
use Rattle.bidi_messages.proofs.ResponseLemmas.{fits_with, response_parts}
use Rattle.bidi_messages.proofs.response_reading.response_id.Goals as goal
use Rattle.bidi_messages.proofs.response_reading.response_id.Goals.{then-not-is_success-via-then-not-is_success}
use Rattle.bidi_messages.proofs.response_reading.response_id.Goals.{then-not-is_success-via-else-not-is_success+then-not-has_result}
use Rattle.bidi_messages.proofs.response_reading.response_id.Goals.{then-not-is_success-via-else-not-is_success+else-not-has_result+then-not-is_parsed_whole}

pub returns-clause-fits : goal.returns-clause-fits
returns-clause-fits c =
    let result = c.has_result.ensures.0 c.if-not-has_result.false in
    fits_with (parsed c.args.value.now) c.echoed_id.result result.0 (c.is_success.ensures.0 c.if-not-is_success.false) c.echoed_id.ensures result.1
    (c.is_parsed_whole.ensures.whole c.if-not-is_parsed_whole.false)

pub returns-then-not-is_success-clause-none : goal.returns-then-not-is_success-clause-none
returns-then-not-is_success-clause-none c = λ none stands f.
    let parts = response_parts (parsed c.args.value.now) f in
    elim c.then-not-is_success.branch [
      | then-not-is_success-via-then-not-is_success w ↦ true≢false (sym (c.is_success.ensures.1 parts.type) ∙ w.if-not-is_success.true)
      | then-not-is_success-via-else-not-is_success+then-not-has_result w ↦ true≢false (sym (w.has_result.ensures.1 parts.result) ∙ w.if-not-has_result.true)
      | then-not-is_success-via-else-not-is_success+else-not-has_result+then-not-is_parsed_whole w ↦
          true≢false (sym stands ∙ sym w.is_parsed_whole.ensures.value ∙ w.if-not-is_parsed_whole.true)
    ]

pub returns-clause-none : goal.returns-clause-none
returns-clause-none c = λ none stands f.
    let (n, is) = (response_parts (parsed c.args.value.now) f).id in
    let no : None ≡ Some n = ap (option_map (λ id. id.value)) (sym none) ∙ c.echoed_id.ensures ∙ is in
    absurd cc

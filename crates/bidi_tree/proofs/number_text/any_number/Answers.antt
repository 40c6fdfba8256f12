use Rattle.std.proofs.Common.{true, false, option_map, sym, ap, ◌∙◌}
use Rattle.fast_float.specs.Text.{scan}
use Rattle.serde_json.specs.Read.{number_from}
use Rattle.bidi_tree.specs.Text.{number_node}
use Rattle.bidi_tree.proofs.JsonLemmas.{minus_read, plain_read}
use Rattle.bidi_tree.proofs.number_text.any_number.Goals as goal

pub returns-in-Some : goal.returns-in-Some
returns-in-Some c =
    let read = ap (number_from true) c.scan.ensures.parts ∙ sym (minus_read c.args.text.now c.in-Some.digits.now c.in-Some.ensures) in
    c.negative.ensures ∙ ap (option_map number_node) read

pub returns-in-None : goal.returns-in-None
returns-in-None c =
    let read = ap (number_from false) (c.scan-in-None.ensures.parts ∙ ap scan c.as_bytes.ensures.value) ∙ sym (plain_read c.args.text.now c.in-None.ensures) in
    c.unsigned.ensures ∙ ap (option_map number_node) read

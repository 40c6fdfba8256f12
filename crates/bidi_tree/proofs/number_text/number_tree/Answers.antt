use Rattle.std.proofs.Common.{◌≡◌, Some, option_map, sym, ap, ◌∙◌}
use Rattle.serde_json.specs.Data.{unsigned}
use Rattle.serde_json.specs.Read.{number_of}
use Rattle.bidi_tree.specs.Text.{number_node}
use Rattle.bidi_tree.proofs.NumberLemmas.{number_of-digits}
use Rattle.bidi_tree.proofs.number_text.number_tree.Goals as goal

pub returns-in-Some : goal.returns-in-Some
returns-in-Some c =
    let p = c.in-Some.ensures.digits in
    let read : number_of c.args.text.now ≡ Some (unsigned c.in-Some.value) = ap number_of (sym c.as_bytes.ensures.value)
    ∙ number_of-digits c.as_bytes.result.now c.in-Some.value p.0 p.1 p.2 c.in-Some.ensures.fits in
    ap Some c.unsigned_tree.ensures ∙ sym (ap (option_map number_node) read)

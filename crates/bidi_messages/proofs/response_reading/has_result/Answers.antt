use Rattle.std.proofs.Common.{◌≡◌, Some, codes, refl, sym, ap, ◌∙◌}
use Rattle.json.specs.Value.{members_view}
use Rattle.bidi_tree.specs.Node as kind
use Rattle.bidi_tree.specs.Node.{get_member, no_members}
use Rattle.bidi_tree.specs.Kind.{members_in}
use Rattle.bidi_tree.specs.Json.{parsed, put_all}
use Rattle.bidi_tree.proofs.JsonLemmas.{parsed-Object}
use Rattle.bidi_messages.proofs.response_reading.has_result.Goals as goal

pub returns-in-Some-Object : goal.returns-in-Some-Object
returns-in-Some-Object c =
    let found = c.in-Some-Object in
    let ms = put_all (members_view found.field-0-0.items) no_members in
    let there : get_member (codes "result") (members_in (parsed c.args.value.now)) ≡ Some (kind.map ms) =
    sym found.ensures ∙ ap (λ v. Some (parsed v)) found.field-0-is ∙ ap Some (parsed-Object found.field-0-0) in
    (λ yes. (ms, there), λ has. refl)

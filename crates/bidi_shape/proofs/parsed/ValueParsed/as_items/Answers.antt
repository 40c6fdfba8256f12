use Rattle.std.proofs.Common.{Some, map, ap, sym, ◌∙◌}
use Rattle.bidi_tree.specs.Kind.{list_in}
use Rattle.bidi_tree.specs.Json.{parsed}
use Rattle.bidi_tree.specs.View.{items_of}
use Rattle.bidi_tree.proofs.JsonLemmas.{items_parsed, parsed-Array}
use Rattle.bidi_shape.proofs.parsed.ValueParsed.as_items.Goals as goal

pub returns-in-Array : goal.returns-in-Array
returns-in-Array c =
    let list = c.in-Array.items in
    let inside = ap (λ v. list_in (parsed v)) c.in-Array.is ∙ ap list_in (parsed-Array list) in
    ap (λ xs. Some (items_of (map parsed xs))) c.deref.ensures.value ∙ ap Some (items_parsed list.items) ∙ sym inside

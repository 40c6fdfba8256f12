use Rattle.std.proofs.Common.{ap, ◌∙◌}
use Rattle.bidi_loader.specs.Meaning.{items_then, these, parts_at}
use Rattle.bidi_loader.specs.Readings.{items_view}
use Rattle.bidi_loader.proofs.ItemLemmas.{these_more}
use Rattle.bidi_loader.proofs.items.with_last.Goals as goal

pub returns-in_ok-append-in-These : goal.returns-in_ok-append-in-These
returns-in_ok-append-in-These c = λ trees.
    ap (λ x. items_then (these (parts_at trees c.args.parts.items)) (items_view trees x)) c.in-These.is
    ∙ these_more trees c.args.parts.items c.in-These.found.items c.append.new.self.items c.in_ok-append-in-These.ensures.items

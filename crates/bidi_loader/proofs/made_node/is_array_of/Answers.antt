use Rattle.std.proofs.Common.{◌≡◌, arith, sym, subst}
use Rattle.bidi_grammar.specs.Term.{list_of}
use Rattle.bidi_grammar.specs.Source as source
use Rattle.bidi_grammar.specs.Source.{Made, made_tuple, made_list, of_type, PartsAre}
use Rattle.bidi_grammar.specs.View.{term_of}
use Rattle.bidi_loader.specs.declared.items.Items.TheVariants.{These, Many}
use Rattle.bidi_loader.specs.Meaning.{array_type, parts_at, type_at, written_trees}
use Rattle.bidi_loader.specs.Readings.{items_view, source_at}
use Rattle.bidi_loader.proofs.made_node.is_array_of.Goals as goal

pub returns-in-These-TupleOf : goal.returns-in-These-TupleOf
returns-in-These-TupleOf c = λ h ρ g.
    let w = c.args.written.now in
    let trees = written_trees w in
    let o = source_at w c.args.reading.now c.args.origins.now in
    let b = c.in-These-TupleOf in
    let parts : PartsAre o b.places.items (parts_at trees b.nodes.items) =
    subst (λ ns. PartsAre o ns (parts_at trees b.nodes.items)) c.deref.ensures.value
    (subst (λ ns. PartsAre o c.deref.result.now (parts_at trees ns)) c.deref-in-These-TupleOf.ensures.value (c.are_types_of.ensures h)) in
    subst (λ x. Made ρ g o (term_of c.args.term.now) (of_type (array_type (items_view trees x)))) (sym b.is-0)
    (subst (λ t. Made ρ g o (term_of t) (of_type (array_type (items_view trees (These b.nodes))))) (sym b.is-1)
    (made_tuple b.places.items (parts_at trees b.nodes.items) parts))

pub returns-else-least-found : goal.returns-else-least-found
returns-else-least-found c = λ h ρ g.
    let w = c.args.written.now in
    let trees = written_trees w in
    let o = source_at w c.args.reading.now c.args.origins.now in
    let b = c.in-Many-ListOf in
    let σ = type_at trees b.node in
    let same : b.least ≡ b.found = omega (arith, c.if-least-found.false) in
    subst (λ x. Made ρ g o (term_of c.args.term.now) (of_type (array_type (items_view trees x)))) (sym b.is-0)
    (subst (λ t. Made ρ g o (term_of t) (of_type (array_type (items_view trees (Many b.least b.node))))) (sym b.is-1)
    (subst (λ n. Made ρ g o (list_of n b.place) (of_type (source.list_of b.least σ))) same (made_list b.least b.place σ (c.is_type_of.ensures h))))

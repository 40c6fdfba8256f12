use Rattle.std.proofs.Common.{sym, subst}
use Rattle.bidi_grammar.specs.Source.{Comes, comes}
use Rattle.bidi_grammar.specs.View.{table, term_of}
use Rattle.bidi_loader.specs.declared.draft.Origin.TheVariants as origin
use Rattle.bidi_loader.specs.Meaning.{rules_of}
use Rattle.bidi_loader.specs.Readings.{source_at, source_of}
use Rattle.bidi_loader.proofs.testing.is_place_made.Goals as goal

pub returns-in-Rule : goal.returns-in-Rule
returns-in-Rule c = λ h r.
    let w = c.args.written.now in
    let reading = c.args.reading.now in
    let g = table c.args.terms.now in
    let τ = term_of c.args.term.now in
    subst (λ x. Comes (rules_of w) g (source_at w reading c.args.origins.now) τ (source_of w reading x)) (sym c.in-Rule.is)
    (comes τ (source_of w reading (origin.Rule c.in-Rule.i)) (c.is_made_of_rule.ensures h g))

pub returns-in-Alternative : goal.returns-in-Alternative
returns-in-Alternative c = λ h r.
    let w = c.args.written.now in
    let reading = c.args.reading.now in
    let τ = term_of c.args.term.now in
    subst (λ x. Comes (rules_of w) (table c.args.terms.now) (source_at w reading c.args.origins.now) τ (source_of w reading x)) (sym c.in-Alternative.is)
    (comes τ (source_of w reading (origin.Alternative c.in-Alternative.node c.in-Alternative.i)) (c.is_made_of_list.ensures h r))

pub returns-in-Alternatives : goal.returns-in-Alternatives
returns-in-Alternatives c = λ h r.
    let w = c.args.written.now in
    let reading = c.args.reading.now in
    let τ = term_of c.args.term.now in
    subst (λ x. Comes (rules_of w) (table c.args.terms.now) (source_at w reading c.args.origins.now) τ (source_of w reading x)) (sym c.in-Alternatives.is)
    (comes τ (source_of w reading (origin.Alternatives c.in-Alternatives.node c.in-Alternatives.from)) (c.is_made_of_lists.ensures h r))

use Rattle.std.proofs.Common.{arith, subst}
use Rattle.bidi_grammar.specs.Source.{comes, of_type}
use Rattle.bidi_grammar.specs.View.{table, term_of}
use Rattle.bidi_loader.specs.Meaning.{rules_of, type_at, written_trees}
use Rattle.bidi_loader.specs.Readings.{IsNode, source_at}
use Rattle.bidi_loader.proofs.ComesLemmas.{map_comes, array_comes, either_comes}
use Rattle.bidi_loader.proofs.made_node.is_made_of.Goals as goal

pub returns-else-group-k : goal.returns-else-group-k
returns-else-group-k c = λ h r here.
    let w = c.args.written.now in
    map_comes w c.args.reading.now (table c.args.terms.now) (source_at w c.args.reading.now c.args.origins.now) c.args.k c.in-Map.group (term_of c.args.term.now) r
    (subst (λ n. IsNode w c.args.k n) c.in-Map.is here) (omega (arith, c.if-group-k.false)) (c.is_made_of_lists.ensures h r)

pub returns-else-group-k-2 : goal.returns-else-group-k-2
returns-else-group-k-2 c = λ h r here.
    let w = c.args.written.now in
    let ρ = rules_of w in
    let g = table c.args.terms.now in
    let at = subst (λ n. IsNode w c.args.k n) c.in-Array.is here in
    array_comes w ρ g (source_at w c.args.reading.now c.args.origins.now) c.args.k c.in-Array.group (term_of c.args.term.now) at
    (omega (arith, c.if-group-k-2.false)) (c.is_array.ensures h r c.in-Array.group at ρ g)

pub returns-else-second-k : goal.returns-else-second-k
returns-else-second-k c = λ h r here.
    let w = c.args.written.now in
    let ρ = rules_of w in
    let g = table c.args.terms.now in
    either_comes w ρ g (source_at w c.args.reading.now c.args.origins.now) c.args.k c.in-Either.first c.in-Either.second (term_of c.args.term.now)
    (subst (λ n. IsNode w c.args.k n) c.in-Either.is here) (omega (arith, c.if-first-k.false)) (omega (arith, c.if-second-k.false)) (c.is_either.ensures h ρ g)

pub returns-in_default : goal.returns-in_default
returns-in_default c = λ h r here.
    comes (term_of c.args.term.now) (of_type (type_at (written_trees c.args.written.now) c.args.k)) (c.is_name_or_plain.ensures h r here)

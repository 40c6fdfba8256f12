use Rattle.std.proofs.Common.{arith, refl, sym, subst}
use Rattle.bidi_grammar.specs.Source.{Made, of_lists}
use Rattle.bidi_grammar.specs.View.{table, term_of}
use Rattle.bidi_grammar.proofs.TableLemmas.{term_here}
use Rattle.std.proofs.Common.{drop}
use Rattle.bidi_loader.specs.Meaning.{entries_at, rules_of, written_trees}
use Rattle.bidi_loader.specs.Readings.{IsMapOf, lists_at, source_at}
use Rattle.bidi_loader.proofs.ComesLemmas.{last_made, more_made}
use Rattle.bidi_loader.proofs.made_map.is_made_of_lists.Goals as goal

pub returns-then-len-from-eq1 : goal.returns-then-len-from-eq1
returns-then-len-from-eq1 c = λ h r.
    let w = c.args.written.now in
    let reading = c.args.reading.now in
    let o = source_at w reading c.args.origins.now in
    let τ = term_of c.args.term.now in
    let lists = c.index-lists.result.now in
    last_made w reading (rules_of w) (table c.args.terms.now) o c.args.node c.args.from τ lists c.index.result.now
    (omega (arith, c.if-node-len.false, c.len.ensures, reading.lists.ok.0)) c.index-lists.ensures
    (omega (arith, c.if-from-len.false, c.len-2.ensures, lists.ok.0)) c.index.ensures
    (omega (arith, c.if-len-from-eq1.true, c.len-3.ensures, c.if-from-len.false, c.len-2.ensures, lists.ok.0))
    (subst (λ ns. IsMapOf o τ (entries_at (written_trees w) ns)) c.deref.ensures.value (c.is_alternative.ensures h r))

pub returns-else-not-is_alternative : goal.returns-else-not-is_alternative
returns-else-not-is_alternative c = λ h r.
    let w = c.args.written.now in
    let reading = c.args.reading.now in
    let ρ = rules_of w in
    let g = table c.args.terms.now in
    let o = source_at w reading c.args.origins.now in
    let lists = c.index-lists.result.now in
    let x = c.index-terms-first.result in
    let b = c.in-Either in
    subst (λ t. Made ρ g o (term_of t) (of_lists (drop c.args.from (lists_at w reading c.args.node)))) (sym b.is)
    (more_made w reading ρ g o c.args.node c.args.from b.first b.rest (term_of x) lists c.index-in-Either.result.now
    (omega (arith, c.if-node-len.false, c.len.ensures, reading.lists.ok.0)) c.index-lists.ensures
    (omega (arith, c.if-from-len.false, c.len-2.ensures, lists.ok.0)) c.index-in-Either.ensures
    (term_here c.args.terms.now b.first x (omega (arith, c.if-first-terms.false)) c.index-terms-first.is)
    (subst (λ ns. IsMapOf o (term_of x) (entries_at (written_trees w) ns)) c.deref-in-Either.ensures.value (c.if-not-is_alternative.ensures refl r))
    (c.are_lists_of.ensures h))

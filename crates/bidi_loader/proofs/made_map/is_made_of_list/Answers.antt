use Rattle.std.proofs.Common.{arith, subst}
use Rattle.bidi_grammar.specs.View.{table, term_of}
use Rattle.bidi_loader.specs.Meaning.{entries_at, rules_of, written_trees}
use Rattle.bidi_loader.specs.Readings.{IsMapOf, source_at}
use Rattle.bidi_loader.proofs.ComesLemmas.{list_made}
use Rattle.bidi_loader.proofs.made_map.is_made_of_list.Goals as goal

pub returns : goal.returns
returns c = λ h r.
    let w = c.args.written.now in
    let reading = c.args.reading.now in
    let o = source_at w reading c.args.origins.now in
    let τ = term_of c.args.term.now in
    let lists = c.index-lists.result.now in
    list_made w reading (rules_of w) (table c.args.terms.now) o c.args.node c.args.i τ lists c.index.result.now
    (omega (arith, c.if-node-len.false, c.len.ensures, reading.lists.ok.0)) c.index-lists.ensures
    (omega (arith, c.if-i-len.false, c.len-2.ensures, lists.ok.0)) c.index.ensures
    (subst (λ ns. IsMapOf o τ (entries_at (written_trees w) ns)) c.deref.ensures.value (c.is_alternative.ensures h r))

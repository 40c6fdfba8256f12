use Rattle.std.proofs.Common.{◌≡◌, ◌<◌, length, arith, refl, sym, subst, below_more, get_or}
use Rattle.std.proofs.lemmas.List.{get_or-map}
use Rattle.bidi_grammar.specs.Source.{Comes, never}
use Rattle.bidi_grammar.specs.Term.{term_at}
use Rattle.bidi_grammar.specs.View.{table, term_of}
use Rattle.bidi_grammar.proofs.TableLemmas.{term_here}
use Rattle.bidi_loader.specs.declared.draft.Origin.TheVariants as origin
use Rattle.bidi_loader.specs.Meaning.{rules_of}
use Rattle.bidi_loader.specs.Readings.{source_at, source_of}
use Rattle.bidi_loader.proofs.ComesLemmas.{all_made}
use Rattle.bidi_loader.proofs.testing.is_made.Goals as goal

pub places-preserved : goal.places-preserved
places-preserved c = λ r.
    let w = c.args.written.now in
    let reading = c.args.reading.now in
    let ρ = rules_of w in
    let xs = c.args.terms.now in
    let g = table xs in
    let origins = c.args.origins.now in
    let o = source_at w reading origins in
    let n = c.places.n in
    let x = c.index-terms-n.result in
    let few : n < length xs = omega (arith, c.places-test.true, c.places.auto.n-end) in
    let some : n < length origins = omega (arith, few, c.if-terms-origins.false) in
    let at : term_at g n ≡ term_of x = term_here xs n x few c.index-terms-n.is in
    let from : o n ≡ source_of w reading (get_or origins n (origin.Type 0)) = get_or-map (source_of w reading) origins n (origin.Type 0) never some in
    below_more (λ k. Comes ρ g o (term_at g k) (o k)) n (c.places.invariant r)
    (subst (λ τ. Comes ρ g o τ (o n)) (sym at) (subst (λ s. Comes ρ g o (term_of x) s) (sym from) (c.if-not-is_place_made.ensures refl r)))

pub returns : goal.returns
returns c = λ h r.
    let w = c.args.written.now in
    all_made w c.args.reading.now (rules_of w) c.args.terms.now c.args.origins.now c.places.n c.if-terms-origins.false c.places-test.false (c.places.invariant r)

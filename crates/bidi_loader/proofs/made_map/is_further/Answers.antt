use Rattle.std.proofs.Common.{sym, subst, Some}
use Rattle.bidi_grammar.specs.Source.{RestIs, a_rest}
use Rattle.bidi_loader.specs.Meaning.{type_at, written_trees}
use Rattle.bidi_loader.specs.Readings.{source_at}
use Rattle.bidi_loader.proofs.made_map.is_further.Goals as goal

pub returns-in-Some : goal.returns-in-Some
returns-in-Some c = λ h.
    let w = c.args.written.now in
    let o = source_at w c.args.reading.now c.args.origins.now in
    let σ = type_at (written_trees w) c.args.value in
    subst (λ r. RestIs o r (Some σ)) (sym c.in-Some.is) (a_rest c.in-Some.place σ (c.is_type_of.ensures h))

use Rattle.std.proofs.Common.{ap, refl, sym, subst, ◌∙◌, ◌∷◌, map}
use Rattle.bidi_grammar.specs.Source.{RowsAre, no_row_for}
use Rattle.bidi_grammar.specs.View.{need_of, row_of}
use Rattle.bidi_loader.specs.Meaning.{entry_of, type_at, written_trees}
use Rattle.bidi_loader.specs.Readings.{AreTexts, entry_view, source_at, text_at}
use Rattle.bidi_loader.specs.declared.entry.Entry.TheVariants.{Named}
use Rattle.bidi_loader.proofs.MadeLemmas.{row_behind}
use Rattle.bidi_loader.proofs.made_map.behind_entry.Goals as goal

pub returns-in-Further : goal.returns-in-Further
returns-in-Further c = λ r xs h.
    let w = c.args.written.now in
    let trees = written_trees w in
    let o = source_at w c.args.reading.now c.args.origins.now in
    let known = subst (λ ts. AreTexts w ts) (sym c.deref.ensures.value) r.texts in
    let e = c.in_ok-entry.ensures known ∙ ap (entry_view trees c.deref.result.now c.args.node) c.in-Further.is in
    subst (λ G. RowsAre o (map row_of c.args.rows.now) (entry_of G ∷ xs)) (sym e)
    (no_row_for (type_at trees c.in-Further._value) (map row_of c.args.rows.now) xs h)

pub returns-then-is_row : goal.returns-then-is_row
returns-then-is_row c = λ r xs h.
    let w = c.args.written.now in
    let trees = written_trees w in
    let texts = c.args.reading.now.texts.items in
    let o = source_at w c.args.reading.now c.args.origins.now in
    let known = subst (λ ts. AreTexts w ts) (sym c.deref.ensures.value) r.texts in
    let e = c.in_ok-entry.ensures known ∙ ap (entry_view trees c.deref.result.now c.args.node) c.in-Named.is
    ∙ ap (λ ts. entry_view trees ts c.args.node (Named c.in-Named.need c.in-Named.value)) c.deref.ensures.value in
    row_behind o c.args.rows.now c.in_ok-row-in-Named.row.now c.in_ok-row-in-Named.rest.now _ (text_at texts c.args.node) (need_of c.in-Named.need) (type_at trees c.in-Named.value) xs
    c.in_ok-row-in-Named.ensures.cases.0 e (c.if-is_row.ensures refl) h

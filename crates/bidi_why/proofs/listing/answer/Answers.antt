use Rattle.std.proofs.Common.{List, ℕ, subst}
use Rattle.std.specs.Prelude.{OnErr}
use Rattle.std.specs.Io.KnownBytes.{Appends}
use Rattle.bidi_lines.specs.Devices.{AppendsBeginning}
use Rattle.bidi_why.specs.Telling.{TellsNext}
use Rattle.bidi_why.proofs.TellingLemmas.{on_ok, stops_write}
use Rattle.bidi_why.proofs.listing.answer.Goals as goal

pub returns-clause-ok : goal.returns-clause-ok
returns-clause-ok g c =
    let a = g.W.Sink.contents c.args.sink.now in
    let b = g.W.Sink.contents c.write.new.sink in
    on_ok c.write.result c.write.ensures.ok (λ appends. (
      c.in_ok-text.text.items,
      subst (λ (t : List ℕ). Appends a b t) c.deref.ensures.value appends,
      c.in_ok-text.ensures.text,
    ))

pub returns-clause-err : goal.returns-clause-err
returns-clause-err g c =
    let a = g.W.Sink.contents c.args.sink.now in
    let b = g.W.Sink.contents c.write.new.sink in
    stops_write c.write.result a b c.in_ok-text.text.items
    (λ t. TellsNext g.E.Explainer.has_told c.args.explainer.now c.tell.new.explainer c.args.sum.now c.tell.new.sum c.args.line t)
    (subst (λ (t : List ℕ). OnErr c.write.result (AppendsBeginning a b t)) c.deref.ensures.value c.write.ensures.err)
    c.write.ensures.fault c.in_ok-text.ensures.text

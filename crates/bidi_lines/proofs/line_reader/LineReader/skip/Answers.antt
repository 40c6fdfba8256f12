use Rattle.std.proofs.Common.{◌≡◌, length, ◌∙◌, ap, arith}
use Rattle.std.proofs.lemmas.List.{drop_all}
use Rattle.bidi_lines.proofs.SkippingLemmas.{skip_unended}
use Rattle.bidi_lines.proofs.line_reader.LineReader.skip.Goals as goal

pub returns-clause-skips : goal.returns-clause-skips
returns-clause-skips g c =
    let items = c.in-Ok.ensures.items in
    let same : c.in-Ok.last.items ≡ c.args.self.now = items ∙ c.held-2.ensures in
    let first = ap length c.held.ensures in
    let long = ap length same in
    skip_unended _ (g.S.Source.has_ended c.args.source.now) c.args.self.now c.give.new.self c.in-Ok.last c.requires (omega (arith, first)) same
    (c.give.ensures ∙ drop_all _ c.args.self.now (omega (arith, long)))

use Rattle.std.proofs.Common.{List, ℕ, length, take, ap, sym, ◌∙◌, subst, arith}
use Rattle.bidi_lines.specs.Feeds.{has_feed}
use Rattle.bidi_lines.specs.InputLines.{BeginsBadly}
use Rattle.bidi_lines.proofs.InputLineLemmas.{feed_too_late, no_feed_at_end, no_more, says_fault, too_long}
use Rattle.bidi_lines.proofs.line_reader.LineReader.find.Goals as goal

pub returns-then-end-gt-LONGEST_LINE-clause-says : goal.returns-then-end-gt-LONGEST_LINE-clause-says
returns-then-end-gt-LONGEST_LINE-clause-says g c =
    subst (λ (bs : List ℕ). BeginsBadly (g.S.Source.has_ended c.reads.source) bs) c.held-held.ensures
    (feed_too_late _ c.held-held.result.now c.in-Some.end c.in-Some.ensures.line (omega arith) c.in-Some.ensures.within)

pub returns-then-seen-gt-LONGEST_LINE-clause-says : goal.returns-then-seen-gt-LONGEST_LINE-clause-says
returns-then-seen-gt-LONGEST_LINE-clause-says g c =
    subst (λ (bs : List ℕ). BeginsBadly (g.S.Source.has_ended c.reads.source) bs) c.held-held.ensures
    (too_long _ c.held-held.result.now c.in_default.ensures.none (omega arith))

pub returns-in_err-read_more-clause-says : goal.returns-in_err-read_more-clause-says
returns-in_err-read_more-clause-says g c =
    let e = c.in_err-read_more.ensures.err in
    let held = e.1 ∙ sym c.held-held.ensures in
    let same = ap length held in
    says_fault (λ (long : ℕ). take long c.read_more.new.self) c.from_residual.result c.in_err-read_more.field-0.0 _ _ c.from_residual.ensures e.0
    (ap has_feed held ∙ c.in_default.ensures.none) (omega (arith, same))

pub returns-else-seen-eq0-clause-says : goal.returns-else-seen-eq0-clause-says
returns-else-seen-eq0-clause-says g c =
    let read = c.in_ok-read_more.ensures in
    let told = read.end (omega arith) in
    let same = no_more c.reads.self c.read_more.new.self read.bytes.0 read.bytes.1 (omega arith) in
    let held = ap length c.held-held.ensures in
    no_feed_at_end _ c.read_more.new.self (ap has_feed (same ∙ sym c.held-held.ensures) ∙ c.in_default.ensures.none) told.0 (omega (arith, held))

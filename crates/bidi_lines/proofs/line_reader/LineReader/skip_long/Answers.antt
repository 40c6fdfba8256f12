use Rattle.std.proofs.Common.{◌≡◌, ◌+◌, ◌++◌, ℕ, List, [], length, length-append, take, drop, refl, sym, ◌∙◌, ap, subst, arith}
use Rattle.std.proofs.lemmas.List.{drop_all}
use Rattle.bidi_lines.specs.Devices.{ReadsOn}
use Rattle.bidi_lines.specs.Feeds.{has_feed}
use Rattle.bidi_lines.proofs.DeviceLemmas.{ReadsOn-nil}
use Rattle.bidi_lines.proofs.FeedLemmas.{no_feed_append}
use Rattle.bidi_lines.proofs.SkippingLemmas.{nothing, skip_done, skip_fault, skip_last, skip_more}
use Rattle.bidi_lines.proofs.line_reader.LineReader.skip_long.Goals as goal

pub skips-init : goal.skips-init
skips-init g c = let long = c.requires.long in (
  [],
  record { bytes = ReadsOn-nil _ _; no_feed = refl; long = omega arith; some = omega (arith, long); failures = refl },
)

pub returns-in-Some-clause-skips : goal.returns-in-Some-clause-skips
returns-in-Some-clause-skips g c =
    let (gone, s) = c.skips.invariant in
    let held = c.held-held.result.now in
    let end = c.in-Some.end in
    skip_done _ _ (g.S.Source.has_ended c.skips.source) c.args.self.now gone c.skips.self (take end held) (drop (end + 1) held) c.give.new.self s.bytes s.no_feed
    (sym c.held-held.ensures ∙ c.in-Some.ensures.some) c.in-Some.ensures.line (c.give.ensures ∙ ap (drop (end + 1)) (sym c.held-held.ensures))
    c.requires.no_feed c.requires.long

pub returns-in_err-read_more-clause-skips : goal.returns-in_err-read_more-clause-skips
returns-in_err-read_more-clause-skips g c =
    let (gone, s) = c.skips.invariant in
    let held = c.held-held.ensures in
    let long = ap length held in
    let none : c.give-in-skips.new.self ≡ [] = c.give-in-skips.ensures ∙ drop_all _ c.skips.self (omega (arith, long)) in
    let reads : ReadsOn (g.S.Source.left c.skips.source) (g.S.Source.left c.read_more.new.source) [] c.read_more.new.self =
    subst (λ (z : List ℕ). ReadsOn (g.S.Source.left c.skips.source) (g.S.Source.left c.read_more.new.source) z c.read_more.new.self) none c.in_err-read_more.ensures.bytes in
    let stays = c.in_err-read_more.ensures.err in
    skip_fault _ _ c.from_residual.result c.in_err-read_more.field-0.0 (g.S.Source.has_ended c.read_more.new.source) c.args.self.now (gone ++ c.skips.self)
    c.read_more.new.self c.from_residual.ensures stays.0 (skip_more _ _ _ c.args.self.now gone c.skips.self c.read_more.new.self s.bytes reads)
    (no_feed_append gone c.skips.self s.no_feed (ap has_feed (sym held) ∙ c.in_default.ensures.none)) (stays.1 ∙ none)

pub returns-then-branch-eq0-clause-skips : goal.returns-then-branch-eq0-clause-skips
returns-then-branch-eq0-clause-skips g c =
    let (gone, s) = c.skips.invariant in
    let held = c.held-held.ensures in
    let long = ap length held in
    let read = c.in_ok-read_more.ensures in
    let none : c.give-in-skips.new.self ≡ [] = c.give-in-skips.ensures ∙ drop_all _ c.skips.self (omega (arith, long)) in
    let empty = ap length none in
    let count = read.count in
    let reads : ReadsOn (g.S.Source.left c.skips.source) (g.S.Source.left c.read_more.new.source) [] c.read_more.new.self =
    subst (λ (z : List ℕ). ReadsOn (g.S.Source.left c.skips.source) (g.S.Source.left c.read_more.new.source) z c.read_more.new.self) none read.bytes in
    let told = read.end (omega arith) in
    skip_last _ _ (g.S.Source.has_ended c.read_more.new.source) c.args.self.now gone c.skips.self c.read_more.new.self
    (skip_more _ _ _ c.args.self.now gone c.skips.self c.read_more.new.self s.bytes reads) s.no_feed (ap has_feed (sym held) ∙ c.in_default.ensures.none)
    told.0 (nothing c.read_more.new.self (omega (arith, count, empty))) c.requires.long

pub skips-preserved : goal.skips-preserved
skips-preserved g c =
    let (gone, s) = c.skips.invariant in
    let held = c.held-held.ensures in
    let long = ap length held in
    let read = c.in_ok-read_more.ensures in
    let none : c.give-in-skips.new.self ≡ [] = c.give-in-skips.ensures ∙ drop_all _ c.skips.self (omega (arith, long)) in
    let reads : ReadsOn (g.S.Source.left c.skips.source) (g.S.Source.left c.read_more.new.source) [] c.read_more.new.self =
    subst (λ (z : List ℕ). ReadsOn (g.S.Source.left c.skips.source) (g.S.Source.left c.read_more.new.source) z c.read_more.new.self) none read.bytes in
    let before = s.long in
    let some = s.some in
    let whole = length-append gone c.skips.self in
    let count = read.count in (
      gone ++ c.skips.self,
      record {
        bytes = skip_more _ _ _ c.args.self.now gone c.skips.self c.read_more.new.self s.bytes reads;
        no_feed = no_feed_append gone c.skips.self s.no_feed (ap has_feed (sym held) ∙ c.in_default.ensures.none);
        long = omega (arith, before, some, whole);
        some = omega (arith, count);
        failures = read.failures ∙ s.failures;
      },
    )

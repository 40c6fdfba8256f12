use Rattle.std.proofs.Common.{◌≡◌, ◌<◌, true, nat_lt, refl, ap, arith}
use Rattle.std.proofs.lemmas.Bool.Decides.{nat_tests}
use Rattle.bidi_contexts.specs.Acts.{Framed}
use Rattle.bidi_contexts.specs.ContextRows.{row_of}
use Rattle.bidi_contexts.specs.Contexts.{level_of}
use Rattle.bidi_contexts.specs.Limits.{lowest_level}
use Rattle.bidi_contexts.specs.Outcome.{has_room}
use Rattle.bidi_browser.proofs.PlanLemmas.{frame-passes, framed-row, unasked-birth}
use Rattle.bidi_browser.proofs.births.plan_frame.Goals as goal

pub returns-clause-plans : goal.returns-clause-plans
returns-clause-plans c = λ past moment stands ids.
    let found = c.in_ok-parent.ensures past stands.contexts in
    let p = found.0 in
    let url = c.in_ok-url.url in
    let parent = c.in_ok-parent.parent.now in
    let level = ap (λ r. r.level) found.2 in
    let low = c.if-level-ge-LOWEST_LEVEL.false in
    let at = c.level.ensures in
    let less : (row_of parent).level < lowest_level = omega (arith, low, at) in
    let high : nat_lt (level_of past p) lowest_level ≡ true = grind (arith, nat_tests, less, level) in
    let room : has_room past ≡ true = let some = c.if-not-has_room.false in
    let same = c.has_room.ensures.room past stands ids in grind (arith, nat_tests, some, same) in
    let context = c.in_ok-context.context in
    let row = framed-row past p url (row_of parent) (row_of context) _ _ stands.contexts.accepted stands.next_context stands.next_realm
    found.2 (c.in_ok-context.ensures less) in (
      Framed p url,
      frame-passes past _ _ p url found.1 c.in_ok-url.ensures room high,
      unasked-birth past (Framed p url) (row_of context) _ _ row c.in_ok-before.ensures.told c.new.ensures.items,
      refl,
      (refl, row, refl),
      λ unasked. c.new.ensures.items,
    )

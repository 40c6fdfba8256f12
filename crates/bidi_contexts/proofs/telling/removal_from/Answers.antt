use Rattle.std.proofs.Common.{◌∙◌, refl, sym, ap, subst}
use Rattle.std.specs.Prelude.{flat_map}
use Rattle.bidi_contexts.specs.ContextRows.{row_of}
use Rattle.bidi_contexts.specs.View.{AreWell}
use Rattle.bidi_contexts.specs.View.{seen}
use Rattle.bidi_contexts.proofs.ToldLemmas.{removal_with, removals-with, removal-gone, removal-stays}
use Rattle.bidi_contexts.proofs.SubtreeLemmas.{left-start, left-next, left-end}
use Rattle.bidi_contexts.proofs.telling.removal_from.Goals as goal

pub loop-context-init : goal.loop-context-init
loop-context-init c = record {
  told = λ past cs s. left-start (removal_with past c.args.user) c.args.contexts.now past 1 cs (seen c.new-events.result.items)
      (ap seen c.new-events.ensures.items) s;
  well = subst AreWell (sym c.new-events.ensures.items) tt;
}

pub loop-context-preserved-in_ok-push_removal : goal.loop-context-preserved-in_ok-push_removal
loop-context-preserved-in_ok-push_removal c =
    let held = c.loop-context in record {
      told = λ past cs s.
          left-next (removal_with past c.args.user) held.rest.now c.split_at.result.0.now c.split_at.result.1.now c.in-Some.behind.now c.in-Some.context.now
          c.len_below.result past 1 (seen held.events.items) (seen c.push_removal.new.events.items) _
          c.in-Some.ensures.cases.0 c.len_below.ensures.is c.split_at.ensures.front c.split_at.ensures.back
          (held.invariant.told past cs s)
          (λ k level row below. removal-gone past c.args.user k (row_of c.in-Some.context.now) (seen held.events.items) (seen c.push_removal.new.events.items)
          row (sym c.user.ensures.user ∙ c.if-user.true) (c.in_ok-push_removal.ensures.told past k row below));
      well = c.in_ok-push_removal.ensures.well held.invariant.well;
    }

pub loop-context-preserved : goal.loop-context-preserved
loop-context-preserved c =
    let held = c.loop-context in record {
      told = λ past cs s.
          left-next (removal_with past c.args.user) held.rest.now c.split_at.result.0.now c.split_at.result.1.now c.in-Some.behind.now c.in-Some.context.now
          c.len_below.result past 1 (seen held.events.items) (seen held.events.items) _
          c.in-Some.ensures.cases.0 c.len_below.ensures.is c.split_at.ensures.front c.split_at.ensures.back
          (held.invariant.told past cs s)
          (λ k level row below. removal-stays past c.args.user k (row_of c.in-Some.context.now) (seen held.events.items) (seen held.events.items)
          row (λ same. c.if-user.false (c.user.ensures.user ∙ same)) refl);
      well = held.invariant.well;
    }

pub returns-clause-told : goal.returns-clause-told
returns-clause-told c = λ past cs s.
    left-end (removal_with past c.args.user) c.loop-context.rest.now past 1 (seen c.loop-context.events.items) (flat_map (removal_with past c.args.user) cs)
    c.in_default.ensures.cases (c.loop-context.invariant.told past cs s)
    ∙ removals-with past c.args.user cs

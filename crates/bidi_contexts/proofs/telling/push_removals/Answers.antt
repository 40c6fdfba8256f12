use Rattle.std.proofs.Common.{◌++◌}
use Rattle.std.specs.Prelude.{flat_map}
use Rattle.bidi_contexts.specs.Occurrences.{removal}
use Rattle.bidi_contexts.specs.View.{seen}
use Rattle.bidi_contexts.proofs.SubtreeLemmas.{left-all, left-next, left-end}
use Rattle.bidi_contexts.proofs.telling.push_removals.Goals as goal

pub loop-context-init : goal.loop-context-init
loop-context-init c = record {
  told = λ past l cs s. left-all (removal past) c.args.contexts.now past l cs (seen c.args.events.now.items) s;
  well = λ w. w;
}

pub loop-context-preserved : goal.loop-context-preserved
loop-context-preserved c =
    let held = c.loop-context in record {
      told = λ past l cs s.
          left-next (removal past) held.rest.now c.split_at.result.0.now c.split_at.result.1.now c.in-Some.behind.now c.in-Some.context.now
          c.len_below.result past l (seen held.events.items) (seen c.push_removal.new.events.items) _
          c.in-Some.ensures.cases.0 c.len_below.ensures.is c.split_at.ensures.front c.split_at.ensures.back
          (held.invariant.told past l cs s) (λ k level row below. c.in_ok-push_removal.ensures.told past k row below);
      well = λ w. c.in_ok-push_removal.ensures.well (held.invariant.well w);
    }

pub returns-clause-told : goal.returns-clause-told
returns-clause-told c = λ past l cs s.
    left-end (removal past) c.loop-context.rest.now past l (seen c.loop-context.events.items)
    (seen c.args.events.now.items ++ flat_map (removal past) cs) c.in_default.ensures.cases (c.loop-context.invariant.told past l cs s)

use Rattle.std.proofs.Common.{◌≡◌, ◌≤◌, length}
use Rattle.bidi_tree.proofs.OutlineLemmas.{IsBefore}
use Rattle.bidi_tree.proofs.outline.put_outline.Given as goal

abbrev pub invariant-loop-place : goal.invariant-loop-place
invariant-loop-place l = record {
  within : l.place ≤ length l.members.entries.items;
  same : l.members.entries.items ≡ l.fn.members.entries.items;
  before : IsBefore l.name l.place l.members.entries.items;
}

abbrev pub decreases-loop-place : goal.decreases-loop-place
decreases-loop-place l = l.place

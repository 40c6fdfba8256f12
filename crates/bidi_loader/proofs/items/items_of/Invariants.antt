use Rattle.std.proofs.Common.{◌≡◌, ◌<◌}
use Rattle.bidi_loader.specs.Meaning.{items_at, items_then, parts_at, these, written_trees}
use Rattle.bidi_loader.proofs.items.items_of.Given as goal

abbrev pub invariant-spine : goal.invariant-spine
invariant-spine l = l.place < l.bound
    → items_then (these (parts_at (written_trees l.written) l.parts.items)) (items_at (written_trees l.written) l.place) ≡ items_at (written_trees l.written) l.group

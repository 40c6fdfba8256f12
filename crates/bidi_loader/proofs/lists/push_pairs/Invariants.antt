use Rattle.std.proofs.Common.{◌≡◌, ◌++◌, List, map, take}
use Rattle.bidi_loader.specs.Meaning.{Tree, entries_at}
use Rattle.bidi_loader.specs.Readings.{lists_view}
use Rattle.std.specs.Global.{Vec}
use Rattle.std.proofs.Common.{ℕ}
use Rattle.bidi_loader.proofs.lists.push_pairs.Given as goal

abbrev pub invariant-seconds : goal.invariant-seconds
invariant-seconds l = (trees : List Tree) → lists_view trees l.lists
    ≡ lists_view trees l.initial.lists ++ map (λ ys. entries_at trees l.first.items ++ ys) (map (λ (v : Vec ℕ). entries_at trees v.items) (take l.second-index l.seconds.items))

use Rattle.std.proofs.Common.{◌≡◌, ℕ, List, map, take}
use Rattle.std.specs.Global.{Vec}
use Rattle.bidi_grammar.specs.Source.{pairs}
use Rattle.bidi_loader.specs.Meaning.{Tree, entries_at}
use Rattle.bidi_loader.specs.Readings.{lists_view}
use Rattle.bidi_loader.proofs.lists.all_pairs.Given as goal

abbrev pub invariant-firsts : goal.invariant-firsts
invariant-firsts l = (trees : List Tree) → lists_view trees l.lists
    ≡ pairs (map (λ (v : Vec ℕ). entries_at trees v.items) (take l.first-index l.firsts.items)) (lists_view trees l.seconds)

use Rattle.std.proofs.Common.{◌≡◌, ◌+◌, map, drop}
use Rattle.bidi_scripted.specs.View.{follower_of}
use Rattle.bidi_names.specs.Sums.{total}
use Rattle.bidi_scripted.proofs.script.left_by_followers.Given as goal

-- what is left, with what all have, is what there was with what the rest has
abbrev pub invariant-loop-follower : goal.invariant-loop-follower
invariant-loop-follower l = l.left + total (map (λ f. (follower_of f).bytes) l.followers) ≡ l.fn.bytes + total (map (λ f. (follower_of f).bytes) (drop l.follower-index l.followers))

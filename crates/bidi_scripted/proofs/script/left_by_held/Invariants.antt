use Rattle.std.proofs.Common.{◌≡◌, ◌+◌, map, length, drop}
use Rattle.bidi_scripted.specs.View.{held_of}
use Rattle.bidi_names.specs.Sums.{total}
use Rattle.bidi_scripted.proofs.script.left_by_held.Given as goal

-- what is left, with what all have, is what there was with what the rest has
abbrev pub invariant-loop-command : goal.invariant-loop-command
invariant-loop-command l = l.left + total (map (λ h. length (held_of h).text) l.held) ≡ l.fn.bytes + total (map (λ h. length (held_of h).text) (drop l.command-index l.held))

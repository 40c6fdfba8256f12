use Rattle.std.proofs.Common.{◌≡◌, map, take, string_bytes}
use Rattle.bidi_names.proofs.names.owned.Given as goal

abbrev pub invariant-loop-text : goal.invariant-loop-text
invariant-loop-text l = map string_bytes l.names.items ≡ map (λ t. t.now) (take l.text-index l.texts)

use Rattle.std.proofs.Common.{map, drop}
use Rattle.std.specs.Prelude.{◌↔◌}
use Rattle.bidi_lenient.specs.Methods.{HasAny}
use Rattle.bidi_lenient.proofs.method.has_any.Given as goal

-- one of the names occurs exactly if one of those that are left does
abbrev pub invariant-loop-name : goal.invariant-loop-name
invariant-loop-name l = HasAny (map (λ n. n.now) l.names) l.text ↔ HasAny (map (λ n. n.now) (drop l.name-index l.names)) l.text

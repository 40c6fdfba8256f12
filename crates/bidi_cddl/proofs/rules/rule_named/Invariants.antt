-- No rule so far has the name.
use Rattle.std.proofs.Common.{◌≡◌, ℕ, ◌<◌, map}
use Rattle.std.specs.Prelude.{Some, slice_get}
use Rattle.bidi_cddl.specs.Definition.{rule, rule_of}
use Rattle.bidi_cddl.specs.declared.written.Body.{Body}
use Rattle.bidi_cddl.proofs.rules.rule_named.Given as goal

abbrev pub invariant-loop-place : goal.invariant-loop-place
invariant-loop-place l = (k : ℕ) → k < l.place → (b : Body) → slice_get (map rule_of l.rules) k ≡ Some (rule l.name b) → ⊥

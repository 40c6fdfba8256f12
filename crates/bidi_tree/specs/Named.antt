-- A `Sorted` whose keys are borrowed names, in byte order. Defined by this project.
use Rattle.std.specs.Prelude.{ℕ, List}
use Rattle.std.specs.Borrow.{Bor}
use Rattle.std.specs.contracts.prelude.RefStrOrd.TheImpl as order
use Rattle.std.specs.contracts.prelude.RefStrPartialEq.TheImpl as equality
use Rattle.std.specs.contracts.prelude.RefStrPartialOrd.TheImpl as partial_order
use Rattle.bidi_tree.specs.declared.sorted.Sorted.{Sorted}

-- a borrowed name, by its bytes
abbrev pub Name : Type 0
Name = Bor (List ℕ)

-- a `Sorted` of values by borrowed names
abbrev pub Named : Type 0 → Type 0
Named X = Sorted Name X order.ghosts equality.ghosts partial_order.ghosts

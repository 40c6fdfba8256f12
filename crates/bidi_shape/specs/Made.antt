-- The answers of constructors, in the words of their contracts. Defined by this project.
use Rattle.std.specs.Prelude.{Result, Ok, Err}
pub use Rattle.bidi_tree.specs.Node.{MembersAreWhole}
pub use Rattle.bidi_tree.specs.View.{members_node}
pub use Rattle.bidi_shape.specs.Term.{rule as named}
pub use Rattle.bidi_shape.specs.Parts.{has_named}
pub use Rattle.bidi_shape.specs.Table.{names_in}
pub use Rattle.bidi_shape.specs.ValueLaws.{others_of}
use Rattle.bidi_shape.specs.declared.making.MakeFault.{MakeFault}
use Rattle.bidi_shape.specs.declared.making.MakeFault.TheVariants.{Clash, Shadowed, TooDeep, NoMemory}

-- the cause of this fault holds, and no cause before it does: `Clash`, then `Shadowed`, then `TooDeep`; nothing is said of memory
abbrev pub IsFirst : MakeFault → Type 0 → Type 0 → Type 0 → Type 0
IsFirst Clash clash shadowed deep = clash
IsFirst Shadowed clash shadowed deep = (clash → ⊥) × shadowed
IsFirst TooDeep clash shadowed deep = (clash → ⊥) × (shadowed → ⊥) × deep
IsFirst NoMemory clash shadowed deep = Unit {0}

-- an Ok has a value with the property P, and no cause holds; an error names the first cause that holds
-- example: a RealmTarget with the further member `realm` is a Clash, with a text `context` Shadowed, with `x` of 61 levels TooDeep
abbrev pub Makes : {V : Type 0} → Result V MakeFault → Type 0 → Type 0 → Type 0 → (V → Type 0) → Type 0
Makes (Ok v) clash shadowed deep P = (clash → ⊥) × (shadowed → ⊥) × (deep → ⊥) × P v
Makes (Err e) clash shadowed deep P = IsFirst e clash shadowed deep

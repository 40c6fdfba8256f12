-- Facts that hold if a reader answers `NoFit`. Defined by this project.
use Rattle.std.specs.Prelude.{◌≡◌, Result, Ok, Err}
use Rattle.std.specs.Result.{IsErrAnd}
use Rattle.bidi_shape.specs.declared.fault.ShapeFault.{ShapeFault}
use Rattle.bidi_shape.specs.declared.fault.ShapeFault.TheVariants.{NoFit, NoMemory}

-- the fact P holds if the fault is `NoFit`; nothing is said of `NoMemory`
abbrev pub WhenNoFit : ShapeFault → Type 0 → Type 0
WhenNoFit NoFit P = P
WhenNoFit NoMemory P = Unit {0}

-- the fact P holds if the answer is the error `NoFit`; nothing is said of an Ok or of `NoMemory`
abbrev pub IfNoFit : {X : Type 0} → Result X ShapeFault → Type 0 → Type 0
IfNoFit (Ok v) P = Unit {0}
IfNoFit (Err e) P = WhenNoFit e P

-- a fault that `?` returns early keeps its fact
pub handed_on : {Y : Type 0} {P Q : Type 0} (e : ShapeFault) (r : Result Y ShapeFault) → IsErrAnd r (λ y. y ≡ e) → WhenNoFit e P → (P → Q) → IfNoFit r Q
handed_on e (Ok v) h f g = tt
handed_on NoFit (Err NoFit) h f g = g f
handed_on NoMemory (Err NoFit) h f g = cc
handed_on e (Err NoMemory) h f g = tt

-- the fact of a fault that is known to be `NoFit`
pub known_misfit : {P : Type 0} (e : ShapeFault) → e ≡ NoFit → WhenNoFit e P → P
known_misfit NoFit is h = h
known_misfit NoMemory is h = cc

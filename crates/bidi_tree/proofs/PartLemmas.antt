-- Parts of a text that are written one behind another.
use Rattle.std.proofs.Common.{◌≡◌, ◌∙◌, ◌++◌, List, ap, append_assoc}

-- a part behind another
pub behind : {A : Type 0} {s1 s2 : List A} (s0 a b : List A) → s1 ≡ s0 ++ a → s2 ≡ s1 ++ b → s2 ≡ s0 ++ (a ++ b)
behind s0 a b first second = second ∙ (ap (λ s. s ++ b) first ∙ append_assoc s0 a b)

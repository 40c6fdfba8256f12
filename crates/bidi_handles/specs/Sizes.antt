-- The size of a tree. Defined by this project.
use Rattle.std.specs.Prelude.{ℕ, min, ◌-◌, ◌^◌, length}
use Rattle.bidi_tree.specs.Node.{Node, levels}
use Rattle.bidi_tree.specs.Text.{compact_text}
use Rattle.bidi_handles.specs.declared.size.Size.{Size}

-- a count in 64 bits, which stops at the greatest number that they hold
abbrev pub counted : ℕ → ℕ
counted n = min n (2 ^ 64 - 1)

-- the levels of a tree, and the bytes of its compact text
-- example: `{}` has 1 level and 2 bytes
abbrev pub size_of : Node → Size
size_of t = record { levels = counted (levels t); bytes = counted (length (compact_text t)) }

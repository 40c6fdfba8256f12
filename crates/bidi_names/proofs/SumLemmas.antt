-- Sums of what items have, one after another.
use Rattle.std.proofs.Common.{◌≡◌, ◌<◌, ◌+◌, ℕ, List, length, map, drop, get_or, ap}
use Rattle.bidi_sessions.proofs.ListLemmas.{from-item}
use Rattle.bidi_names.specs.Sums.{total}

-- the next item, and those behind it
pub total_next : {X : Type 0} (f : X → ℕ) (xs : List X) (i : ℕ) (x : X) → i < length xs → x ≡ get_or xs i x
    → total (map f (drop i xs)) ≡ f x + total (map f (drop (i + 1) xs))
total_next f xs i x less is = ap (λ ys. total (map f ys)) (from-item xs i x less is)

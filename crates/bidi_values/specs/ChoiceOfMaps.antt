-- Maps whose first row is a choice: each is a map with one of its alternatives.
use Rattle.std.proofs.Common.{◌⊎◌, inl, inr, ◌≡◌, ℕ, List, Some}
use Rattle.bidi_tree.specs.Node as node
use Rattle.bidi_tree.specs.Node.{Node, Members, get_member}
use Rattle.bidi_shape.specs.Term.{required, Term, Openness, either, map_of, Rows, row}
use Rattle.bidi_shape.specs.Fits.{Fits, fits_map, fits_first, fits_second, RowsFit, there}

-- a map still fits if the term of its first row is replaced by a wider one
pub wider : {k : List ℕ} {σ τ : Term} {rs : Rows} {o : Openness} {t : Node}
    → ((u : Node) → Fits u σ → Fits u τ) → Fits t (map_of (row k required σ rs) o) → Fits t (map_of (row k required τ rs) o)
wider {k} {σ} {τ} {rs} go (fits_map ms rows o f h) = fits_map ms (row k required τ rs) o (rows_wider f) h
  where
    rows_wider : {ms : Members} → RowsFit ms (row k required σ rs) → RowsFit ms (row k required τ rs)
    rows_wider (there m l n ρ rest u e f more) = there m k required τ rs u e (go u f) more

-- a map whose first row is a choice fits the map with one of the two alternatives
pub one_of_two : {k : List ℕ} {σ τ : Term} {rs : Rows} {o : Openness} {t : Node}
    → Fits t (map_of (row k required (either σ τ) rs) o) → Fits t (map_of (row k required σ rs) o) ⊎ Fits t (map_of (row k required τ rs) o)
one_of_two {k} {σ} {τ} {rs} (fits_map ms rows o f h) = by_row f
  where
    by_value : (m : Members) (u : Node)
        → get_member k m ≡ Some u → Fits u (either σ τ) → RowsFit m rs → RowsFit m (row k required σ rs) ⊎ RowsFit m (row k required τ rs)
    by_value m u e (fits_first v a b f) more = inl (there m k required σ rs u e f more)
    by_value m u e (fits_second v a b f) more = inr (there m k required τ rs u e f more)

    both : RowsFit ms (row k required σ rs) ⊎ RowsFit ms (row k required τ rs)
        → Fits (node.map ms) (map_of (row k required σ rs) o) ⊎ Fits (node.map ms) (map_of (row k required τ rs) o)
    both (inl f) = inl (fits_map ms (row k required σ rs) o f h)
    both (inr f) = inr (fits_map ms (row k required τ rs) o f h)

    by_row : RowsFit ms (row k required (either σ τ) rs)
        → Fits (node.map ms) (map_of (row k required σ rs) o) ⊎ Fits (node.map ms) (map_of (row k required τ rs) o)
    by_row (there m l n ρ rest u e f more) = both (by_value m u e f more)

-- a tree that fits the first alternative fits the choice
pub to_first : {σ τ : Term} (u : Node) → Fits u σ → Fits u (either σ τ)
to_first {σ} {τ} u f = fits_first u σ τ f

-- a tree that fits the second alternative fits the choice
pub to_second : {σ τ : Term} (u : Node) → Fits u τ → Fits u (either σ τ)
to_second {σ} {τ} u f = fits_second u σ τ f

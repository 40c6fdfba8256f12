-- Laws of the members and items of an object or an array that fits. After RFC 8610, 3.5.
use Rattle.std.proofs.Common.{◌≡◌, ◌≤◌, max, arith, Ordering, Less, Equal, Greater, nat_cmp, ℕ, List, Some, sym, subst}
use Rattle.std.specs.Cmp.Lexicographic.{slice_cmp}
use Rattle.std.specs.Ordering.{match_ordering}
use Rattle.bidi_tree.specs.Node as node
use Rattle.bidi_tree.specs.Node.{Node, Items, item, Members, no_members, member, get_member, levels, members_levels}
use Rattle.bidi_shape.specs.Term.{Need, required, Term, Rows, row}
use Rattle.bidi_shape.specs.Fits.{RowsFit, there, absent}
use Rattle.bidi_shape.specs.Parts.{PartFits}

-- ---- rows

-- if the rows fit, the first row does
pub RowsFit-first : {k : List ℕ} {τ : Term} {rs : Rows} {ms : Members} → RowsFit ms (row k required τ rs) → PartFits required τ (get_member k ms)
RowsFit-first (there m l n ρ rest u e f more) = subst (PartFits required ρ) (sym e) f

-- if the rows fit, the rows after the first do
pub RowsFit-more : {k : List ℕ} {need : Need} {σ : Term} {rs : Rows} {ms : Members} → RowsFit ms (row k need σ rs) → RowsFit ms rs
RowsFit-more (there m l n ρ rest u e f more) = more
RowsFit-more (absent m l ρ rest e more) = more

-- a consequence for the rows after the first carries over to all rows
pub RowsFit-row : {k : List ℕ} {need : Need} {σ : Term} {rs qs : Rows} {ms : Members}
    → (RowsFit ms qs → RowsFit ms rs) → RowsFit ms (row k need σ qs) → RowsFit ms (row k need σ rs)
RowsFit-row {rs} go (there m l n ρ rest u e f more) = there m l n ρ rs u e f (go more)
RowsFit-row {rs} go (absent m l ρ rest e more) = absent m l ρ rs e (go more)

-- ---- levels

-- a member has fewer levels than its object
pub member_levels : (k : List ℕ) (t : Node) (ms : Members) → get_member k ms ≡ Some t → levels t ≤ members_levels ms
member_levels k t no_members e = cc
member_levels k t (member l u ms) e = go (slice_cmp nat_cmp k l) (member_levels k t ms) e
  where
    go : (o : Ordering) → (get_member k ms ≡ Some t → levels t ≤ members_levels ms)
        → match_ordering o (get_member k ms) (Some u) (get_member k ms) ≡ Some t → levels t ≤ max (levels u) (members_levels ms)
    go Less ih e = omega (arith, ih e)
    go Equal ih e = let same : u ≡ t = cc in rw (← same) (omega arith)
    go Greater ih e = omega (arith, ih e)

-- ---- items

-- equal arrays have equal items: an equal first item, and equal other items
pub same_items : {xs ys : Items} → node.list xs ≡ node.list ys → xs ≡ ys
same_items e = cc

pub first_item : {x y : Node} {xs ys : Items} → item x xs ≡ item y ys → x ≡ y
first_item e = cc

pub other_items : {x y : Node} {xs ys : Items} → item x xs ≡ item y ys → xs ≡ ys
other_items e = cc

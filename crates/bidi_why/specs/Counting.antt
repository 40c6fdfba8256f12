-- The causes of what was told, and how often each was met. The limits and the form are this project's own.
use Rattle.std.specs.Prelude.{ℕ, ◌+◌, ◌==◌, ◌&&◌, Bool, List, [], ◌∷◌, ◌++◌, length, map, nat_le, nat_lt, bytes_eq, codes, decimal, IsPermutation, if◌then◌else◌}
use Rattle.std.specs.List.{list_any, sum_by}
use Rattle.std.specs.List.Sorted.{IsSorted}
use Rattle.std.specs.Ordering.{nat_cmp, ordering_then}
use Rattle.std.specs.declared.cmp.Ordering.{Ordering}
use Rattle.bidi_why.specs.declared.counting.Cause.{Cause}
use Rattle.bidi_why.specs.declared.counting.Causes.{Causes}

-- how many lines were counted, each by its cause or among the others
abbrev pub lines_counted : Causes → ℕ
lines_counted c = sum_by (λ r. r.count) c.rows.items + c.others

-- A cause, how often it was met, and how many causes were met before it.
pub record Row : Type 0 where
  pub cause : List ℕ
  pub count : ℕ
  pub place : ℕ

-- The causes that are told apart, in the order in which they were first met, and how often any other was met.
pub record Counts : Type 0 where
  pub rows : List Row
  pub others : ℕ

-- before anything was told
abbrev pub no_counts : Counts
no_counts = record { rows = []; others = 0 }

-- the row is that of this cause
abbrev pub is_of : List ℕ → Row → Bool
is_of c r = bytes_eq r.cause c

-- the cause of the row was met once more
abbrev pub once_more : Row → Row
once_more r = record { cause = r.cause; count = r.count + 1; place = r.place }

-- the rows, where the one of this cause was met once more
abbrev pub counted_in : List ℕ → List Row → List Row
counted_in c [] = []
counted_in c (r ∷ rs) = if is_of c r then once_more r ∷ rs else r ∷ counted_in c rs

-- the most causes that are told apart
abbrev pub most_causes : ℕ
most_causes = 1000

-- the most bytes of a cause that is told apart
abbrev pub longest_cause : ℕ
longest_cause = 4096

-- a new cause is told apart if there is room for it, and if it is not too long
abbrev pub is_told_apart : List ℕ → List Row → Bool
is_told_apart c rows = nat_lt (length rows) most_causes && nat_le (length c) longest_cause

-- the row of a new cause
abbrev pub new_row : List ℕ → List Row → Row
new_row c rows = record { cause = c; count = 1; place = length rows }

-- a cause was met: it is counted in its row, or in a new one, or among the others
abbrev pub counts_with : Counts → List ℕ → Counts
counts_with n c =
    if list_any (is_of c) n.rows then record { rows = counted_in c n.rows; others = n.others }
    else if is_told_apart c n.rows then record { rows = n.rows ++ new_row c n.rows ∷ []; others = n.others }
    else record { rows = n.rows; others = n.others + 1 }

-- these causes were met, one after the other
abbrev pub counts_after : Counts → List (List ℕ) → Counts
counts_after n [] = n
counts_after n (c ∷ cs) = counts_after (counts_with n c) cs

-- how two rows compare: the more frequent cause comes first, and of equally frequent ones the one that was met first
abbrev pub row_order : Row → Row → Ordering
row_order r s = ordering_then (nat_cmp s.count r.count) (nat_cmp r.place s.place)

-- The same rows, the most frequent first, and of equally frequent ones the one that was met first.
pub record IsRanking (ranked : List Row) (rows : List Row) : Type 0 where
  pub same : IsPermutation rows ranked
  pub order : IsSorted row_order ranked

-- `COUNT CAUSE`
abbrev pub count_line : ℕ → List ℕ → List ℕ
count_line n cause = decimal n ++ codes " " ++ cause ++ codes "\n"

-- the line of a cause with its number
abbrev pub row_line : Row → List ℕ
row_line r = count_line r.count r.cause

-- a last line of all other causes, if there are any
abbrev pub others_line : ℕ → List ℕ
others_line n = if n == 0 then [] else count_line n (codes "other causes")

-- a cause of the code with its number
abbrev pub row_of : Cause → Row
row_of r = record { cause = r.text.items; count = r.count; place = r.place }

-- the counts of the code
abbrev pub counts_of : Causes → Counts
counts_of c = record { rows = map row_of c.rows.items; others = c.others }

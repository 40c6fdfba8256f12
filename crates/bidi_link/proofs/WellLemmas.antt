-- Each link of the code has the state of some link.
use Rattle.std.proofs.Common.{ℕ, List, [], ◌∷◌, map}
use Rattle.std.specs.List.{AllByRecursion}
use Rattle.bidi_link.specs.declared.link_end.LinkEnd.{LinkEnd}
use Rattle.bidi_ledger.specs.Link.{Link}
use Rattle.bidi_link.specs.Rows.{Agrees}
use Rattle.bidi_link.specs.Stands.{RowsAgree}

-- the link of the code has the state of some link
abbrev pub AgreesWithSome : LinkEnd → Type 0
AgreesWithSome end = (l : ℕ) × (v : Link) × Agrees end l v

-- each of the links has such a state, if they agree with the states given for their numbers
pub rows-agree : (f : ℕ → Link) (rows : List (ℕ × LinkEnd)) → RowsAgree rows f → AllByRecursion AgreesWithSome (map (λ row. row.1) rows)
rows-agree f [] agree = tt
rows-agree f (row ∷ rows) agree = ((row.0, f row.0, agree.0), rows-agree f rows agree.1)

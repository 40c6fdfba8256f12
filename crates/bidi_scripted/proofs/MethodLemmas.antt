-- The methods of a set, and of the rows whose methods are in it.
use Rattle.std.proofs.Common.{◌≡◌, ◌∙◌, ◌<◌, ◌+◌, ℕ, zero, suc, Bool, true, false, List, [], ◌∷◌, ◌++◌, length, map, set, take, drop, get_or, None, refl, sym, ap, subst, arith, true≢false}
use Rattle.std.specs.Prelude.{filter, bytes_eq, ◌&&◌, if◌then◌else◌}
use Rattle.std.specs.List.{position}
use Rattle.std.proofs.lemmas.Slice.Eq.{bytes_eq-Decides}
use Rattle.bidi_rows.specs.declared.row.Row as declared_row
use Rattle.bidi_rows.specs.Command.{Command}
use Rattle.bidi_rows.specs.Matching.{is_part}
use Rattle.bidi_rows.specs.Rows.{Row}
use Rattle.bidi_rows.specs.View.{row_of}
use Rattle.bidi_scripted.specs.Methods.{has_method, AreListed}
use Rattle.bidi_scripted.specs.declared.method_set.MethodSet.{MethodSet}
use Rattle.bidi_scripted.proofs.UseLemmas.{is_for, position-fails}

-- a mark that is set stays, whatever mark is set next
pub mark-kept : (marks : List Bool) (i j : ℕ) → get_or marks j false ≡ true → get_or (set marks i true) j false ≡ true
mark-kept [] i j marked = marked
mark-kept (m ∷ marks) zero zero marked = refl
mark-kept (m ∷ marks) zero (suc j) marked = marked
mark-kept (m ∷ marks) (suc i) zero marked = marked
mark-kept (m ∷ marks) (suc i) (suc j) marked = mark-kept marks i j marked

module _ (methods : MethodSet) where
  -- rows without some of them
  pub listed-filter : (p : Row → Bool) (rows : List Row) → AreListed methods rows → AreListed methods (filter p rows)
  listed-filter p [] all = tt
  listed-filter p (r ∷ rows) all = kept (p r) (listed-filter p rows all.1)
    where
      kept : (b : Bool) → AreListed methods (filter p rows) → AreListed methods (if b then r ∷ filter p rows else filter p rows)
      kept true rest = (all.0, rest)
      kept false rest = rest

  -- a row at a place
  pub listed-at : (rows : List declared_row.Row) (i : ℕ) (d : declared_row.Row) → AreListed methods (map row_of rows) → i < length rows
      → has_method methods (row_of (get_or rows i d)).method ≡ true
  listed-at [] i d all less = absurd (omega (arith, less))
  listed-at (r ∷ rows) zero d all less = all.0
  listed-at (r ∷ rows) (suc i) d all less = listed-at rows i d all.1 (omega (arith, less))

  -- rows with another at a place
  pub listed-set : (rows : List declared_row.Row) (i : ℕ) (r : declared_row.Row) → AreListed methods (map row_of rows)
      → has_method methods (row_of r).method ≡ true → AreListed methods (map row_of (set rows i r))
  listed-set [] i r all one = tt
  listed-set (x ∷ rows) zero r all one = (one, all.1)
  listed-set (x ∷ rows) (suc i) r all one = (all.0, listed-set rows i r all.1 one)

  -- rows without that at a place
  pub listed-gone : (rows : List declared_row.Row) (i : ℕ) → AreListed methods (map row_of rows) → AreListed methods (map row_of (take i rows ++ drop (suc i) rows))
  listed-gone [] zero all = tt
  listed-gone [] (suc i) all = tt
  listed-gone (x ∷ rows) zero all = all.1
  listed-gone (x ∷ rows) (suc i) all = (all.0, listed-gone rows i all.1)

  pub listed-removed : (rows : List declared_row.Row) (i : ℕ) → AreListed methods (map row_of rows) → AreListed methods (map row_of (take i rows ++ drop (i + 1) rows))
  listed-removed rows i all =
      let next : suc i ≡ i + 1 = omega arith in
      subst (λ k. AreListed methods (map row_of (take i rows ++ drop k rows))) next (listed-gone rows i all)

  -- no row is for a command whose method is not in the set
  pub not-for : (command : Command) (r : declared_row.Row) → has_method methods (row_of r).method ≡ true → has_method methods command.method ≡ false
      → is_for command r ≡ false
  not-for command r listed none = fails (bytes_eq (row_of r).method command.method) refl
    where
      fails : (b : Bool) → bytes_eq (row_of r).method command.method ≡ b → is_for command r ≡ false
      fails true same =
          absurd (true≢false (sym listed ∙ (ap (has_method methods) ((bytes_eq-Decides (row_of r).method command.method).0 same) ∙ none)))
      fails false other = ap (λ b. b && is_part (row_of r).part command.params) other

  pub none-for : (command : Command) (rows : List declared_row.Row) → AreListed methods (map row_of rows) → has_method methods command.method ≡ false
      → None ≡ position (is_for command) rows
  none-for command rows all none =
      position-fails (is_for command) rows (λ k d less. not-for command (get_or rows k d) (listed-at rows k d all less) none)

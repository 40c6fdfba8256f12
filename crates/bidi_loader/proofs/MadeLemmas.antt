-- Terms that were made of plain types, of entries and of lists.
use Rattle.std.proofs.Common.{◌≡◌, ◌<◌, ℕ, List, ◌∷◌, Option, Some, None, sym, subst, ◌∙◌, map, string_bytes}
use Rattle.std.specs.Prelude.{IfSome}
use Rattle.bidi_grammar.specs.Term as term
use Rattle.bidi_grammar.specs.Term.{Need, Term, Bound, Grammar, row}
use Rattle.bidi_grammar.specs.View.{row_of, need_of}
use Rattle.bidi_grammar.specs.declared.term.Row as code_row
use Rattle.bidi_grammar.specs.Source as source
use Rattle.bidi_grammar.specs.Source.{Written, Group, Entry, named, at_name, Rules, Source, of_type, RowsAre, a_row, Made, made_exactly, made_text, made_bool, made_truth, made_null, made_whole, made_number, made_any}
use Rattle.bidi_loader.specs.declared.plain.Plain.{Plain}
use Rattle.std.specs.Borrow.{Bor}
use Rattle.bidi_cddl.specs.declared.written.Node.TheVariants as node
use Rattle.bidi_cddl.specs.declared.written.Written as code
use Rattle.bidi_loader.specs.Plain.{bounded}
use Rattle.bidi_loader.specs.Meaning.{entry_of, type_at, written_trees}
use Rattle.bidi_loader.proofs.NodeLemmas.{bounded-is}
use Rattle.bidi_loader.specs.Readings.{IsNode, IsPlainOf, IsRowOf, plain_view}

-- a plain term says what its type says
pub plain_made : (ρ : Rules) (g : Grammar) (o : ℕ → Source) (τ : Term) (σ : Written) → IsPlainOf τ σ → Made ρ g o τ (of_type σ)
plain_made ρ g o (term.exactly s) (source.exactly u) e = subst (λ k. Made ρ g o (term.exactly s) (of_type (source.exactly k))) e (made_exactly s)
plain_made ρ g o term.text source.text e = made_text
plain_made ρ g o term.bool source.bool e = made_bool
plain_made ρ g o (term.truth b) (source.truth c) e = subst (λ k. Made ρ g o (term.truth b) (of_type (source.truth k))) e (made_truth b)
plain_made ρ g o term.null source.null e = made_null
plain_made ρ g o (term.whole a b) (source.whole m n) e =
    subst (λ k. Made ρ g o (term.whole a b) (of_type (source.whole k n))) e.0 (subst (λ k. Made ρ g o (term.whole a b) (of_type (source.whole a k))) e.1 (made_whole a b))
plain_made ρ g o (term.number a b) (source.number m n) e =
    subst (λ k. Made ρ g o (term.number a b) (of_type (source.number k n))) e.0 (subst (λ k. Made ρ g o (term.number a b) (of_type (source.number a k))) e.1 (made_number a b))
plain_made ρ g o term.any source.any e = made_any
plain_made ρ g o τ σ e = absurd e

-- a row in front of others
pub row_behind : (o : ℕ → Source) (rows : List code_row.Row) (r : code_row.Row) (rest : List code_row.Row) (G : Group) (k : List ℕ) (need : Need) (σ : Written) (xs : List Entry)
    → rows ≡ r ∷ rest → G ≡ named k need σ → IsRowOf o (row_of r) (named k need σ) → RowsAre o (map row_of rest) xs → RowsAre o (map row_of rows) (entry_of G ∷ xs)
row_behind o rows r rest G k need σ xs e f h rs =
    let first : RowsAre o (row (string_bytes r.name) (need_of r.need) r.term ∷ map row_of rest) (at_name k need σ ∷ xs) =
    subst (λ l. RowsAre o (row l (need_of r.need) r.term ∷ map row_of rest) (at_name k need σ ∷ xs)) (sym h.0)
    (subst (λ d. RowsAre o (row k d r.term ∷ map row_of rest) (at_name k need σ ∷ xs)) (sym h.1.0)
    (a_row k need r.term σ (map row_of rest) xs h.1.1 rs)) in
    subst (λ A. RowsAre o (map row_of rows) (entry_of A ∷ xs)) (sym f)
    (subst (λ vs. RowsAre o (map row_of vs) (at_name k need σ ∷ xs)) (sym e) first)

-- two types with one meaning, of which the second is plain
pub eq_some : (r : Option Plain) (σ τ : Written) → σ ≡ τ → IfSome r (λ p. τ ≡ plain_view p) → IfSome r (λ p. σ ≡ plain_view p)
eq_some r σ τ e h = subst (λ υ. IfSome r (λ p. υ ≡ plain_view p)) (sym e) h

-- a node with a bound, by the type that it bounds
pub bounded_some : (r : Option Plain) (w : code.Written) (k i : ℕ) (control s : Bor (List ℕ)) → IsNode w k (node.Bounded i control s)
    → IfSome r (λ p. (i < k) × (bounded (type_at (written_trees w) i) control.now s.now ≡ plain_view p))
    → IfSome r (λ p. type_at (written_trees w) k ≡ plain_view p)
bounded_some (Some p) w k i control s here h = bounded-is w k i control s here h.0 ∙ h.1
bounded_some None w k i control s here h = tt

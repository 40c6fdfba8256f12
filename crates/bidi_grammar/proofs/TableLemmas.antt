-- The term at a place of a table, and what its numbers are.
use Rattle.std.proofs.Common.{◌≡◌, ◌∙◌, ◌≤◌, ◌<◌, ℕ, zero, suc, List, [], ◌∷◌, true, refl, arith, ap, subst, sym, length, get_or}
use Rattle.std.proofs.lemmas.List.{get_or-map, length-map}
use Rattle.bidi_grammar.specs.Term.{Term, nothing, term_at}
use Rattle.bidi_grammar.specs.View.{term_of, table, is_grounded, IsGrounded}
use Rattle.bidi_grammar.specs.declared.term.Term as code

pub term_here : (xs : List code.Term) (n : ℕ) (x : code.Term) → n < length xs → x ≡ get_or xs n x → term_at (table xs) n ≡ term_of x
term_here xs n x few at = get_or-map term_of xs n x nothing few ∙ ap term_of (sym at)

pub grounded_here : (xs : List code.Term) (n : ℕ) (τ : Term) → IsGrounded (table xs) → n < length xs → term_at (table xs) n ≡ τ → is_grounded (length xs) n τ ≡ true
grounded_here xs n τ h few e =
    let long : length (table xs) ≡ length xs = length-map xs term_of in
    let some : n < length (table xs) = rw long few in
    subst (λ σ. is_grounded (length xs) n σ ≡ true) e (subst (λ k. is_grounded k n (term_at (table xs) n) ≡ true) long (h.1 n some))

pub few_terms : (xs : List code.Term) → IsGrounded (table xs) → length xs ≤ 65536
few_terms xs h = subst (λ k. k ≤ 65536) (length-map xs term_of) h.0

-- past the end of a table there is nothing
pub term_past : (g : List Term) (n : ℕ) → length g ≤ n → term_at g n ≡ nothing
term_past [] n few = refl
term_past (τ ∷ g) zero few = absurd (omega (arith, few))
term_past (τ ∷ g) (suc n) few = term_past g n (omega (arith, few))

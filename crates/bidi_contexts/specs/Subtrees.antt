-- What contracts see of a slice of contexts in tree order: the subtrees in it, and where a subtree ends.
use Rattle.std.specs.Prelude.{◌≡◌, ℕ, zero, suc, ◌==◌, nat_le, true, List, [], ◌∷◌, map, flat_map}
use Rattle.std.specs.List.{list_any, position_or_len}
use Rattle.bidi_contexts.specs.declared.context.Context.{Context}
use Rattle.bidi_contexts.specs.Acts.{Act}
use Rattle.bidi_contexts.specs.Accepted.{AreAccepted}
use Rattle.bidi_contexts.specs.Contexts.{level_of, subtree_of}
use Rattle.bidi_contexts.specs.ContextRows.{row_of, row_at}

-- The contexts are the subtrees of the listed ones, which are all at one level, in a past that can be.
pub record AreSubtrees (contexts : List Context) (past : List Act) (l : ℕ) (cs : List ℕ) : Type 0 where
  pub rows : map row_of contexts ≡ map (row_at past) (flat_map (subtree_of past) cs)
  pub level : (c : ℕ) → list_any (λ x. x == c) cs ≡ true → level_of past c ≡ l
  pub accepted : AreAccepted past

-- The place at which the subtree that begins at a place ends, by the levels of the contexts: at the next level that is no greater.
abbrev pub end_in : List ℕ → ℕ → ℕ
end_in [] i = 0
end_in (l ∷ ls) zero = suc (position_or_len (λ k. nat_le k l) ls)
end_in (l ∷ ls) (suc i) = suc (end_in ls i)

-- The contexts that a subscription covers. After WebDriver BiDi, "The session.subscribe Command".
use Rattle.std.specs.Prelude.{ℕ, ◌==◌, Bool, true, false, List}
use Rattle.std.specs.List.{list_any}
use Rattle.bidi_contexts.specs.declared.occurrence.Top.{Top}

-- A scope is all contexts, those in the trees of some top-level contexts, or those in some user contexts.
pub data Scope : Type 0 where
  All : Scope
  Below : (tops : List ℕ) → Scope
  Within : (users : List ℕ) → Scope

-- whether a scope is all contexts
abbrev pub is_global : Scope → Bool
is_global All = true
is_global (Below tops) = false
is_global (Within users) = false

-- whether the number is one of these
abbrev pub is_listed : List ℕ → ℕ → Bool
is_listed ns n = list_any (λ m. m == n) ns

-- whether a scope has the contexts in the tree of this top-level context
abbrev pub covers : Scope → Top → Bool
covers All top = true
covers (Below tops) top = is_listed tops top.number
covers (Within users) top = is_listed users top.user

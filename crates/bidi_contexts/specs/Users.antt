-- User contexts: which are live, and their ids. After WebDriver BiDi, "User contexts" of "The browser Module".
use Rattle.std.specs.Prelude.{ℕ, zero, suc, ◌==◌, Bool, false, not, ◌||◌, List, [], ◌∷◌, filter, find, codes, bytes_eq, Option, is_some}
use Rattle.bidi_tree.specs.Node.{Node, text, no_members}
use Rattle.bidi_handles.specs.declared.id.IdKind.TheVariants.{UserContext}
use Rattle.bidi_handles.specs.Ids.{id_of}
use Rattle.bidi_handles.specs.Maps.{◌being◌and◌, mapped}
use Rattle.bidi_contexts.specs.Acts.{Act, UserRemoved, given}
use Rattle.bidi_contexts.specs.Contexts.{up_to}

-- The user context of the number was removed.
abbrev pub is_removed : List Act → ℕ → Bool
is_removed [] u = false
is_removed (UserRemoved v ∷ past) u = u == v || is_removed past u
is_removed (act ∷ past) u = is_removed past u

-- The live user contexts beside `default`, in order of creation.
abbrev pub others : List Act → List ℕ
others past = filter (λ u. not (is_removed past u)) (up_to (given past UserContext))

-- All live user contexts; 0 is `default`.
abbrev pub users : List Act → List ℕ
users past = 0 ∷ others past

-- The id of a user context.
abbrev pub user_id : ℕ → List ℕ
user_id zero = codes "default"
user_id (suc n) = id_of UserContext (suc n)

-- The live user context of an id, which has to match letter for letter.
-- example: `default` is always live, `Default` never
abbrev pub user_named : List Act → List ℕ → Option ℕ
user_named past id = find (λ u. bytes_eq id (user_id u)) (users past)

-- A live user context has the id.
abbrev pub is_live_user : List Act → List ℕ → Bool
is_live_user past id = is_some (user_named past id)

-- The tree of what is reported of a user context.
-- example: `{"userContext":"default"}`
abbrev pub user_info : ℕ → Node
user_info u = mapped ("userContext" being text (user_id u) and no_members)

-- Which contexts exist, and how they form trees: questions about the past of the browser. After WebDriver BiDi, "The browsingContext Module".
use Rattle.std.specs.Prelude.{ℕ, zero, suc, ◌==◌, nat_eq, nat_lt, Bool, false, not, ◌&&◌, ◌||◌, if◌then◌else◌, List, []}
use Rattle.std.specs.Prelude.{◌∷◌, ◌++◌, filter, flat_map, find, bytes_eq, Option, Some, None, is_none, unwrap_or}
use Rattle.std.specs.Option.{option_eq}
use Rattle.bidi_handles.specs.declared.id.IdKind.TheVariants.{Context, Window}
use Rattle.bidi_handles.specs.Ids.{id_of}
use Rattle.bidi_contexts.specs.Limits.{lowest_level}
use Rattle.bidi_contexts.specs.Acts.{Act, Made, Framed, Removed, Moved, UserRemoved, given, next_number}

-- The parent of a context; a top-level context has none.
abbrev pub parent_of : List Act → ℕ → Option ℕ
parent_of [] c = None
parent_of (Framed p url ∷ past) c = if c == next_number past Context then Some p else parent_of past c
parent_of (act ∷ past) c = parent_of past c

-- The top-level context above a context, which may be the context itself.
abbrev pub top_of : List Act → ℕ → ℕ
top_of [] c = c
top_of (Framed p url ∷ past) c = if c == next_number past Context then top_of past p else top_of past c
top_of (act ∷ past) c = top_of past c

-- The level of a context; a top-level context is at level 1, and a child is one level below its parent.
abbrev pub level_of : List Act → ℕ → ℕ
level_of [] c = 1
level_of (Framed p url ∷ past) c = if c == next_number past Context then suc (level_of past p) else level_of past c
level_of (act ∷ past) c = level_of past c

-- The context c is a, or a descendant of a.
abbrev pub is_under : List Act → ℕ → ℕ → Bool
is_under [] a c = a == c
is_under (Framed p url ∷ past) a c = if c == next_number past Context then a == c || is_under past a p else is_under past a c
is_under (act ∷ past) a c = is_under past a c

-- The window of a context; a child has the window of its parent.
abbrev pub window_of : List Act → ℕ → ℕ
window_of [] c = 1
window_of (Made w u ∷ past) c = if c == next_number past Context then unwrap_or w (next_number past Window) else window_of past c
window_of (Framed p url ∷ past) c = if c == next_number past Context then window_of past p else window_of past c
window_of (act ∷ past) c = window_of past c

-- The user context of a context, where 0 is `default`; a child has the user context of its parent.
abbrev pub user_of : List Act → ℕ → ℕ
user_of [] c = 0
user_of (Made w u ∷ past) c = if c == next_number past Context then u else user_of past c
user_of (Framed p url ∷ past) c = if c == next_number past Context then user_of past p else user_of past c
user_of (act ∷ past) c = user_of past c

-- A context of the number has been created.
abbrev pub is_born : List Act → ℕ → Bool
is_born past c = nat_lt 0 c && nat_lt c (next_number past Context)

-- A context is gone: it or an ancestor was removed, an ancestor navigated, or its user context was removed.
abbrev pub is_gone : List Act → ℕ → Bool
is_gone [] c = false
is_gone (Removed a ∷ past) c = is_under past a c || is_gone past c
is_gone (Moved a move ∷ past) c = (is_under past a c && not (a == c)) || is_gone past c
is_gone (UserRemoved u ∷ past) c = user_of past c == u || is_gone past c
is_gone (act ∷ past) c = is_gone past c

-- A context is live: it was created and is not gone.
abbrev pub is_alive : List Act → ℕ → Bool
is_alive past c = is_born past c && not (is_gone past c)

-- The numbers from 1 to n.
abbrev pub up_to : ℕ → List ℕ
up_to zero = []
up_to (suc n) = up_to n ++ suc n ∷ []

-- The live contexts, in order of creation.
abbrev pub contexts : List Act → List ℕ
contexts past = filter (is_alive past) (up_to (given past Context))

-- The live context of an id, which has to match letter for letter.
abbrev pub context_of : List Act → List ℕ → Option ℕ
context_of past id = find (λ c. bytes_eq id (id_of Context c)) (contexts past)

-- The live top-level contexts, in order of creation.
abbrev pub tops : List Act → List ℕ
tops past = filter (λ c. is_none (parent_of past c)) (contexts past)

-- The live top-level contexts of a user context, in order of creation.
abbrev pub tops_in : List Act → ℕ → List ℕ
tops_in past u = filter (λ c. user_of past c == u) (tops past)

-- The live children of a context, in order of creation.
abbrev pub children_of : List Act → ℕ → List ℕ
children_of past c = filter (λ d. option_eq nat_eq (parent_of past d) (Some c)) (contexts past)

-- A context and its descendants down to n levels, parents before children and each subtree whole.
abbrev pub subtree_within : ℕ → List Act → ℕ → List ℕ
subtree_within zero past c = []
subtree_within (suc n) past c = c ∷ flat_map (subtree_within n past) (children_of past c)

-- A context and all its descendants, parents before children and each subtree whole.
abbrev pub subtree_of : List Act → ℕ → List ℕ
subtree_of = subtree_within lowest_level

-- All live contexts in tree order: the top-level ones in order of creation, each with its subtree.
abbrev pub tree_order : List Act → List ℕ
tree_order past = flat_map (subtree_of past) (tops past)

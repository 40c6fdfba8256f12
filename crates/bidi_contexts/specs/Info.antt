-- The tree of an Info. After WebDriver BiDi, "The browsingContext.Info Type"; that `originalOpener` is null is this project's own.
use Rattle.std.specs.Prelude.{ℕ, ◌-◌, zero, suc, map, Option, Some, None, option_map}
use Rattle.bidi_tree.specs.Node.{Node, null, text, Members, no_members}
use Rattle.bidi_handles.specs.declared.id.IdKind.TheVariants.{Context, Window}
use Rattle.bidi_contexts.specs.Acts.{Act}
use Rattle.bidi_contexts.specs.Urls.{url_text}
use Rattle.bidi_contexts.specs.Limits.{lowest_level}
use Rattle.bidi_contexts.specs.Contexts.{parent_of, window_of, user_of, children_of}
use Rattle.bidi_contexts.specs.Users.{user_id}
use Rattle.bidi_contexts.specs.Places.{url_of}
use Rattle.bidi_handles.specs.Maps.{◌being◌and◌, mapped, listed, id_tree}
use Rattle.std.specs.Prelude.{List}

-- The id of the parent, or null for a top-level context.
abbrev pub parent_tree : Option ℕ → Node
parent_tree None = null
parent_tree (Some p) = id_tree Context p

-- The member `children`: null at depth 0, otherwise the list of Infos; without a depth there is no bound.
abbrev pub children_tree : Option ℕ → List Node → Node
children_tree None infos = listed infos
children_tree (Some zero) infos = null
children_tree (Some (suc n)) infos = listed infos

-- The depth that is left one level below.
abbrev pub depth_below : Option ℕ → Option ℕ
depth_below = option_map (λ n. n - 1)

-- The members of the Info of a context, without its parent.
abbrev pub info_members : List Act → ℕ → Node → Members
info_members past c children =
    "children" being children and
    "clientWindow" being id_tree Window (window_of past c) and
    "context" being id_tree Context c and
    "originalOpener" being null and
    "url" being text (url_text (url_of past c)) and
    "userContext" being text (user_id (user_of past c)) and no_members

-- The Info of a context in its parent's list of children, down to n levels.
abbrev pub info_within : ℕ → List Act → Option ℕ → ℕ → Node
info_within zero past depth c = null
info_within (suc n) past depth c =
    mapped (info_members past c (children_tree depth (map (info_within n past (depth_below depth)) (children_of past c))))

-- The Info of a context at the root of a tree, with its parent, down to a depth.
-- example: at depth 0 `children` is null
abbrev pub info_of : List Act → Option ℕ → ℕ → Node
info_of past depth c =
    mapped ("parent" being parent_tree (parent_of past c) and
    info_members past c (children_tree depth (map (info_within lowest_level past (depth_below depth)) (children_of past c))))

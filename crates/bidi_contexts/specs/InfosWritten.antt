-- What contracts see of Infos that the code writes as JSON: their trees, and that these fit their rule.
use Rattle.std.specs.Prelude.{◌≡◌, ◌++◌, ℕ, List, [], ◌∷◌, Bool, true, false, flat_map, Option, Some, None}
use Rattle.std.specs.List.{AllByRecursion}
use Rattle.json.specs.Token.{Token, key}
use Rattle.json.specs.Written.{Written}
use Rattle.bidi_tree.specs.Node.{Node, no_members, IsSound, IsWhole}
use Rattle.bidi_tree.specs.Data.{tokens_of}
use Rattle.bidi_tree.specs.Text.{compact_text}
use Rattle.bidi_shape.specs.Name.{info}
use Rattle.bidi_shape.specs.Term.{either, list_of, null, rule}
use Rattle.bidi_shape.specs.Fits.{Fits}
use Rattle.bidi_handles.specs.Maps.{◌being◌and◌, mapped, listed}
use Rattle.bidi_contexts.specs.Info.{parent_tree}
use Rattle.bidi_contexts.specs.ContextRows.{ContextRow}

-- The tree is an Info by its rule, it reads back, and it has at most n levels.
abbrev pub IsInfo : ℕ → Node → Type 0
IsInfo n t = Fits t (rule info) × IsSound t × IsWhole t n

-- Each of the trees is such an Info.
abbrev pub AreInfos : ℕ → List Node → Type 0
AreInfos n infos = AllByRecursion (IsInfo n) infos

-- The tree can be the member `children` of an Info, it reads back, and it has at most n levels.
abbrev pub AreChildren : ℕ → Node → Type 0
AreChildren n t = Fits t (either (list_of 0 (rule info)) null) × IsSound t × IsWhole t n

-- The member `parent` of the Info of a row, which only the root of a tree has.
abbrev pub parent_at : Bool → ContextRow → Option Node
parent_at true row = Some (parent_tree row.parent)
parent_at false row = None

-- The tokens of a member, if there is one.
abbrev pub member_tokens : List ℕ → Option Node → List Token
member_tokens name None = []
member_tokens name (Some t) = key name ∷ tokens_of t

-- Some Infos of at most n levels were written one after another, and they are those that are told.
pub record WroteInfos (old new : Written) (n : ℕ) (AreTold : List Node → Type 0) : Type 0 where
  pub infos : List Node
  pub before : new.before ≡ old.before
  pub tokens : new.tokens ≡ old.tokens ++ flat_map tokens_of infos
  pub well : AreInfos n infos
  pub told : AreTold infos

-- The member `children` of an Info was written, with at most n levels, and it is the one that is told.
pub record WroteChildren (old new : Written) (n : ℕ) (IsTold : Node → Type 0) : Type 0 where
  pub children : Node
  pub before : new.before ≡ old.before
  pub tokens : new.tokens ≡ old.tokens ++ tokens_of children
  pub well : AreChildren n children
  pub told : IsTold children

-- The object whose one member `contexts` is the list of these Infos.
abbrev pub infos_tree : List Node → Node
infos_tree infos = mapped ("contexts" being listed infos and no_members)

-- The text is that of the object whose one member `contexts` is a list of Infos, and these are those that are told.
pub record TellsInfos (s : List ℕ) (AreTold : List Node → Type 0) : Type 0 where
  pub infos : List Node
  pub written : s ≡ compact_text (infos_tree infos)
  pub well : AreInfos 34 infos
  pub told : AreTold infos

-- What a step of a reading says.
use Rattle.std.specs.Prelude.{◌≡◌, ℕ, List, map, drop, Bool, true, false, Some, slice_get}
use Rattle.bidi_cddl.specs.Token.{Token, token_of}
use Rattle.bidi_cddl.specs.Node.{Node, node_of}
use Rattle.bidi_cddl.specs.Reads.{TypeReads, Type1Reads, Type2Reads, GroupReads, AlternativeReads, EntryReads}
use Rattle.bidi_cddl.specs.declared.token.Placed as code_placed
use Rattle.bidi_cddl.specs.declared.written.Node as code_node
use Rattle.bidi_cddl.specs.declared.step.Form as code
use Rattle.bidi_cddl.specs.declared.step.Form.TheVariants as form
use Rattle.bidi_cddl.specs.declared.step.Step.{Step}
use Rattle.bidi_cddl.specs.declared.level.Level.{Level}
use Rattle.bidi_cddl.specs.declared.level.Level.TheVariants.{Type2, Type1, AnyType, Entry, Alternative, Group}

-- the tokens of the code
abbrev pub tokens_of : List code_placed.Placed → List Token
tokens_of ps = map (λ (p : code_placed.Placed). token_of p.token) ps

-- the nodes of the code
abbrev pub nodes_of : List code_node.Node → List Node
nodes_of nodes = map node_of nodes

-- at a level, the node at a place is read from the front of some tokens, and others are left
abbrev pub LevelReads : Level → List Node → ℕ → List Token → List Token → Type 0
LevelReads Type2 nodes n ts us = Type2Reads nodes n ts us
LevelReads Type1 nodes n ts us = Type1Reads nodes n ts us
LevelReads AnyType nodes n ts us = TypeReads nodes n ts us
LevelReads Entry nodes n ts us = EntryReads nodes n ts us
LevelReads Alternative nodes n ts us = AlternativeReads nodes n ts us
LevelReads Group nodes n ts us = GroupReads nodes n ts us

-- what a form reads
abbrev pub level_of : code.Form → Level
level_of form.Leaf = Type2
level_of (form.Parentheses a) = Type2
level_of (form.Braces a) = Type2
level_of (form.Brackets a) = Type2
level_of form.Range = Type1
level_of (form.Bounded a) = Type1
level_of (form.Default a) = Type1
level_of (form.Either a b) = AnyType
level_of (form.Member a) = Entry
level_of (form.Further a) = Entry
level_of (form.Bare a) = Entry
level_of (form.Inside a) = Entry
level_of form.Empty = Alternative
level_of (form.Last a) = Alternative
level_of (form.Both a b) = Alternative
level_of (form.Choice a b) = Group

-- all that is read at the first level is also read at the second
abbrev pub is_also : Level → Level → Bool
is_also Type2 Type2 = true
is_also Type2 Type1 = true
is_also Type2 AnyType = true
is_also Type1 Type1 = true
is_also Type1 AnyType = true
is_also AnyType AnyType = true
is_also Entry Entry = true
is_also Alternative Alternative = true
is_also Alternative Group = true
is_also Group Group = true
is_also first second = false

-- the tokens from the first of a step to the one behind its last are read at a level
abbrev pub StepReads : Level → List Node → List Token → Step → Type 0
StepReads level nodes ts s = LevelReads level nodes s.node (drop s.from ts) (drop s.to ts)

-- so are those of each step, at the level of its form
abbrev pub AllRead : List Node → List Token → List Step → Type 0
AllRead nodes ts steps = (i : ℕ) (s : Step) → slice_get steps i ≡ Some s → StepReads (level_of s.form) nodes ts s

-- a step is read at a level if some steps are read
abbrev pub ReadsAfter : List Step → Level → List Node → List Token → Step → Type 0
ReadsAfter steps level nodes ts s = AllRead nodes ts steps → StepReads level nodes ts s

-- so it is whatever the nodes are
abbrev pub ReadsAlways : List Step → Level → List Token → Step → Type 0
ReadsAlways steps level ts s = (nodes : List Node) → ReadsAfter steps level nodes ts s

-- a step is a part that is read at a level if some steps are read, whatever the nodes and the tokens are
abbrev pub IsPart : List Step → Level → Step → Type 0
IsPart steps level s = (nodes : List Node) (ts : List Token) → ReadsAfter steps level nodes ts s

-- the tokens between two places are read in some way if some steps are read, whatever the nodes are
abbrev pub Between : (List Node → List Token → List Token → Type 0) → List Step → List Token → ℕ → ℕ → Type 0
Between R steps ts from to = (nodes : List Node) → AllRead nodes ts steps → R nodes (drop from ts) (drop to ts)

-- so they are whatever the tokens are
abbrev pub BetweenAny : (List Node → List Token → List Token → Type 0) → List Step → ℕ → ℕ → Type 0
BetweenAny R steps from to = (ts : List Token) → Between R steps ts from to

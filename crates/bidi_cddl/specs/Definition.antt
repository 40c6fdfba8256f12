-- Definitions, how tokens are read as them, and the rules that they make. After RFC 8610, sections 2.2.2.2 and 3.9, and appendix B.
use Rattle.std.specs.Prelude.{◌≡◌, ℕ, List, [], ◌∷◌, ◌++◌, set, Option, Some, None, slice_get}
use Rattle.bidi_cddl.specs.Token.{Token, a_name, a_sign}
use Rattle.bidi_cddl.specs.Node as node
use Rattle.bidi_cddl.specs.Node.{Node, IsNode}
use Rattle.bidi_cddl.specs.Reads.{TypeReads, GroupReads, EntryReads}
use Rattle.bidi_cddl.specs.declared.token.Sign.{Sign}
use Rattle.bidi_cddl.specs.declared.token.Sign.TheVariants as sign
use Rattle.bidi_cddl.specs.declared.written.Body.{Body}
use Rattle.bidi_cddl.specs.declared.written.Body.TheVariants as body
use Rattle.bidi_cddl.specs.declared.written.Rule as code_rule
use Rattle.bidi_cddl.specs.declared.definition.Adds.{Adds}
use Rattle.bidi_cddl.specs.declared.definition.Adds.TheVariants as adds
use Rattle.bidi_cddl.specs.declared.definition.Definition as code

-- a definition: a name, what it adds, and a type or a group
pub data Definition : Type 0 where
  defines : List ℕ → Adds → Body → Definition

-- a rule: a name, and a type or a group
pub data Rule : Type 0 where
  rule : List ℕ → Body → Rule

-- a definition of the code
abbrev pub definition_of : code.Definition → Definition
definition_of d = defines d.name.now d.adds d.body

-- a rule of the code
abbrev pub rule_of : code_rule.Rule → Rule
rule_of r = rule r.name.now r.body

-- a group in parentheses
pub data ParenthesesRead (nodes : List Node) : ℕ → List Token → List Token → Type 0 where
  in_parentheses : (g : ℕ) (ts us : List Token) → GroupReads nodes g ts (a_sign sign.CloseParenthesis ∷ us)
      → ParenthesesRead nodes g (a_sign sign.OpenParenthesis ∷ ts) us

-- what is behind `=` or `/=`: a type, a group in parentheses, or what is read as either
pub data BodyReads (nodes : List Node) : Body → List Token → List Token → Type 0 where
  a_type : (n : ℕ) (ts us : List Token) → TypeReads nodes n ts us → BodyReads nodes (body.Type n) ts us
  a_group : (g : ℕ) (ts us : List Token) → ParenthesesRead nodes g ts us → BodyReads nodes (body.Group g) ts us
  type_or_group : (n g : ℕ) (ts us : List Token) → TypeReads nodes n ts us → ParenthesesRead nodes g ts us
      → BodyReads nodes (body.Either n g) ts us

-- what is behind `//=`: an entry
pub data EntryBody (nodes : List Node) : Body → List Token → List Token → Type 0 where
  an_entry : (n : ℕ) (ts us : List Token) → EntryReads nodes n ts us → EntryBody nodes (body.Group n) ts us

-- what is behind the sign of a definition
abbrev pub AddedReads : List Node → Adds → Body → List Token → List Token → Type 0
AddedReads nodes adds.Rule b ts us = BodyReads nodes b ts us
AddedReads nodes adds.Types b ts us = BodyReads nodes b ts us
AddedReads nodes adds.Groups b ts us = EntryBody nodes b ts us

-- the sign of a definition: `=`, `/=` or `//=`
abbrev pub sign_of : Adds → Sign
sign_of adds.Rule = sign.Equals
sign_of adds.Types = sign.MoreTypes
sign_of adds.Groups = sign.MoreGroups

-- a definition: `name = X`, `name /= X` or `name //= A`
pub data DefinitionReads (nodes : List Node) : Definition → List Token → List Token → Type 0 where
  a_definition : (k : List ℕ) (a : Adds) (b : Body) (ts us : List Token) → AddedReads nodes a b ts us
      → DefinitionReads nodes (defines k a b) (a_name k ∷ a_sign (sign_of a) ∷ ts) us

-- definitions, one behind the other, and nothing else
pub data DefinitionsRead (nodes : List Node) : List Definition → List Token → Type 0 where
  no_definition : DefinitionsRead nodes [] []
  one_more : (d : Definition) (ds : List Definition) (ts us : List Token) → DefinitionReads nodes d ts us → DefinitionsRead nodes ds us
      → DefinitionsRead nodes (d ∷ ds) ts

-- ---- the rules that definitions make

-- no rule has the name
abbrev pub IsNew : List ℕ → List Rule → Type 0
IsNew k rules = (i : ℕ) (b : Body) → slice_get rules i ≡ Some (rule k b) → ⊥

-- the type that a rule stands for, if it may be one
abbrev pub type_in : Body → Option ℕ
type_in (body.Type n) = Some n
type_in (body.Group g) = None
type_in (body.Either n g) = Some n

-- the group that a rule stands for, if it may be one
abbrev pub group_in : Body → Option ℕ
group_in (body.Type n) = None
group_in (body.Group g) = Some g
group_in (body.Either n g) = Some g

-- what a rule stands for with a definition more: a choice of what it was, the first, and of what is added, the second
pub data Joins (nodes : List Node) : Adds → Body → Body → Body → Type 0 where
  types : (b c : Body) (m n k : ℕ) → type_in b ≡ Some m → type_in c ≡ Some n → IsNode nodes k (node.either m n)
      → Joins nodes adds.Types b c (body.Type k)
  groups : (b c : Body) (m n k : ℕ) → group_in b ≡ Some m → group_in c ≡ Some n → IsNode nodes k (node.choice m n)
      → Joins nodes adds.Groups b c (body.Group k)

-- the rules that some definitions make: the first definition of a name makes a rule, and a further one changes what it stands for
pub data RulesMade (nodes : List Node) : List Definition → List Rule → Type 0 where
  nothing : RulesMade nodes [] []
  first : (k : List ℕ) (a : Adds) (b : Body) (ds : List Definition) (rules : List Rule) → RulesMade nodes ds rules → IsNew k rules
      → RulesMade nodes (ds ++ defines k a b ∷ []) (rules ++ rule k b ∷ [])
  further : (k : List ℕ) (a : Adds) (b c d : Body) (i : ℕ) (ds : List Definition) (rules : List Rule) → RulesMade nodes ds rules
      → slice_get rules i ≡ Some (rule k b) → Joins nodes a b c d → RulesMade nodes (ds ++ defines k a c ∷ []) (set rules i (rule k d))

-- the rules are those of definitions that the tokens are read as
abbrev pub RulesRead : List Node → List Rule → List Token → Type 0
RulesRead nodes rules ts = (ds : List Definition) × (DefinitionsRead nodes ds ts × RulesMade nodes ds rules)

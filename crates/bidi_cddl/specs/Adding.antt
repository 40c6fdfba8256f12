-- What adding a definition does to what is written.
use Rattle.std.specs.Prelude.{◌≡◌, ℕ, List, [], ◌∷◌, ◌++◌, map, length, Some, slice_get}
use Rattle.bidi_cddl.specs.Node.{Node}
use Rattle.bidi_cddl.specs.Definition.{Joins, Rule, RulesMade, definition_of, rule, rule_of}
use Rattle.bidi_cddl.specs.Definition as cddl
use Rattle.bidi_cddl.specs.Steps.{nodes_of}
use Rattle.bidi_cddl.specs.declared.written.Written.{Written}
use Rattle.bidi_cddl.specs.declared.written.Body.{Body}
use Rattle.bidi_cddl.specs.declared.written.Rule as code
use Rattle.bidi_cddl.specs.declared.rules.Found.{Found}
use Rattle.bidi_cddl.specs.declared.definition.Adds.{Adds}
use Rattle.bidi_cddl.specs.declared.definition.Definition.{Definition}

-- the nodes
abbrev pub nodes_in : Written → List Node
nodes_in w = nodes_of w.nodes.items

-- the rules
abbrev pub rules_in : Written → List Rule
rules_in w = map rule_of w.rules.items

-- a rule is at its place, and has this name
abbrev pub IsFound : List ℕ → Found → List code.Rule → Type 0
IsFound k found rules = (slice_get rules found.place ≡ Some found.rule) × (found.rule.name.now ≡ k)

-- a node is behind the others now, at a place, and the rules are as they were
abbrev pub IsPushed : Written → Written → Node → ℕ → Type 0
IsPushed old new node n = (nodes_in new ≡ nodes_in old ++ node ∷ []) × ((n ≡ length (nodes_in old)) × (new.rules ≡ old.rules))

-- a node is behind the others now which joins two bodies to a third, and the rules are as they were
abbrev pub IsJoined : Written → Written → Adds → Body → Body → Body → Type 0
IsJoined old new a b c d = (node : Node) × ((nodes_in new ≡ nodes_in old ++ node ∷ []) × (Joins (nodes_in new) a b c d × (new.rules ≡ old.rules)))

-- whatever definitions made the rules before, they and this one make the rules now
abbrev pub IsAdded : Written → Written → Definition → Type 0
IsAdded old new d =
    (ds : List cddl.Definition) → RulesMade (nodes_in old) ds (rules_in old) → RulesMade (nodes_in new) (ds ++ definition_of d ∷ []) (rules_in new)

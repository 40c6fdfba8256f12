-- The rules that definitions make.
use Rattle.std.proofs.Common.{◌≡◌, ◌∙◌, ℕ, ◌<◌, List, [], ◌∷◌, ◌++◌, ap, arith, get_or, length, map, set, subst, sym}
use Rattle.std.specs.Prelude.{Some, None, option_map, slice_get}
use Rattle.std.proofs.Math.ListN.{get_or-append}
use Rattle.std.proofs.Math.Seq.{get_or-append_seam}
use Rattle.std.proofs.lemmas.List.{length-append, length-map, map-append, map-set}
use Rattle.std.proofs.lemmas.Option.{get_or_from_slice_get, slice_get-get_or, slice_get-map, slice_get_within}
use Rattle.bidi_cddl.specs.Adding.{IsAdded, IsJoined, IsPushed, nodes_in, rules_in}
use Rattle.bidi_cddl.specs.Definition as cddl
use Rattle.bidi_cddl.specs.Definition.{IsNew, Joins, Rule, RulesMade, defines, definition_of, group_in, rule, rule_of, type_in}
use Rattle.bidi_cddl.specs.Node as node
use Rattle.bidi_cddl.specs.Node.{Node, IsNode}
use Rattle.bidi_cddl.specs.Steps.{nodes_of}
use Rattle.bidi_cddl.specs.declared.written.Written.{Written}
use Rattle.bidi_cddl.specs.declared.written.Rule as code
use Rattle.bidi_cddl.specs.declared.written.Body.{Body}
use Rattle.bidi_cddl.specs.declared.written.Body.TheVariants as body
use Rattle.bidi_cddl.specs.declared.definition.Adds.{Adds}
use Rattle.bidi_cddl.specs.declared.definition.Adds.TheVariants as adds
use Rattle.bidi_cddl.specs.declared.definition.Definition.{Definition}

-- the node at a place stays there when others are added
pub stays : (xs ys : List Node) (i : ℕ) (x : Node) → IsNode xs i x → IsNode (xs ++ ys) i x
stays xs ys i x there =
    let within : i < length xs = slice_get_within xs i x there in
    let longer : i < length (xs ++ ys) = omega (arith, length-append xs ys) in
    slice_get-get_or (xs ++ ys) i x longer ∙ ap Some (get_or-append xs ys x i within ∙ get_or_from_slice_get xs i x x there)

-- the node behind the others
pub pushed : (xs ys : List Node) (n : ℕ) (x : Node) → ys ≡ xs ++ x ∷ [] → n ≡ length xs → IsNode ys n x
pushed xs ys n x more at =
    let longer : length xs < length (xs ++ x ∷ []) = omega (arith, length-append xs (x ∷ [])) in
    let there : IsNode (xs ++ x ∷ []) (length xs) x =
    slice_get-get_or (xs ++ x ∷ []) (length xs) x longer ∙ ap Some (get_or-append_seam xs x [] x) in
    subst (λ zs. IsNode zs n x) (sym more) (subst (λ k. IsNode (xs ++ x ∷ []) k x) (sym at) there)

-- two bodies stay joined
pub stay_joined : (xs ys : List Node) (a : Adds) (b c d : Body) → Joins xs a b c d → Joins (xs ++ ys) a b c d
stay_joined xs ys a b c d (cddl.types p q m n k e f there) = cddl.types p q m n k e f (stays xs ys k (node.either m n) there)
stay_joined xs ys a b c d (cddl.groups p q m n k e f there) = cddl.groups p q m n k e f (stays xs ys k (node.choice m n) there)

-- the rules stay made
pub stay_made : (xs ys : List Node) (ds : List cddl.Definition) (rules : List Rule) → RulesMade xs ds rules → RulesMade (xs ++ ys) ds rules
stay_made xs ys ds rules cddl.nothing = cddl.nothing
stay_made xs ys ds rules (cddl.first k a b es others made new) = cddl.first k a b es others (stay_made xs ys es others made) new
stay_made xs ys ds rules (cddl.further k a b c d i es others made there joins) =
    cddl.further k a b c d i es others (stay_made xs ys es others made) there (stay_joined xs ys a b c d joins)

-- a choice of types
pub types_joined : (old new : Written) (b c : Body) (m k n : ℕ) → Some m ≡ type_in b → Some k ≡ type_in c → IsPushed old new (node.either m k) n
    → IsJoined old new adds.Types b c (body.Type n)
types_joined old new b c m k n e f p =
    (node.either m k, (p.0, (cddl.types b c m k n (sym e) (sym f) (pushed (nodes_in old) (nodes_in new) n (node.either m k) p.0 p.1.0), p.1.1)))

-- a choice of groups
pub groups_joined : (old new : Written) (b c : Body) (m k n : ℕ) → Some m ≡ group_in b → Some k ≡ group_in c → IsPushed old new (node.choice m k) n
    → IsJoined old new adds.Groups b c (body.Group n)
groups_joined old new b c m k n e f p =
    (node.choice m k, (p.0, (cddl.groups b c m k n (sym e) (sym f) (pushed (nodes_in old) (nodes_in new) n (node.choice m k) p.0 p.1.0), p.1.1)))

-- a rule with a new name
pub rule_added : (old new : Written) (d : Definition) (r : code.Rule) → IsNew d.name.now (rules_in old) → new.nodes ≡ old.nodes
    → new.rules.items ≡ old.rules.items ++ r ∷ [] → rule_of r ≡ rule d.name.now d.body → IsAdded old new d
rule_added old new d r fresh same more is = λ ds made.
    let grown : rules_in new ≡ rules_in old ++ rule d.name.now d.body ∷ [] =
    ap (map rule_of) more ∙ (map-append rule_of old.rules.items (r ∷ []) ∙ ap (λ x. rules_in old ++ x ∷ []) is) in
    let kept : nodes_in old ≡ nodes_in new = ap (λ v. nodes_of v.items) (sym same) in
    subst (λ rules. RulesMade (nodes_in new) (ds ++ definition_of d ∷ []) rules) (sym grown)
    (cddl.first d.name.now d.adds d.body ds (rules_in old) (subst (λ N. RulesMade N ds (rules_in old)) kept made) fresh)

-- a rule that stands for more
pub rule_changed : (old new : Written) (d : Definition) (i : ℕ) (r q : code.Rule) (e : Body) (x : Node) → slice_get old.rules.items i ≡ Some r
    → r.name.now ≡ d.name.now → nodes_in new ≡ nodes_in old ++ x ∷ [] → Joins (nodes_in new) d.adds r.body d.body e
    → new.rules.items ≡ set old.rules.items i q → rule_of q ≡ rule r.name.now e → IsAdded old new d
rule_changed old new d i r q e x there named more joins changed is = λ ds made.
    let k = d.name.now in
    let grown : RulesMade (nodes_in new) ds (rules_in old) =
    subst (λ N. RulesMade N ds (rules_in old)) (sym more) (stay_made (nodes_in old) (x ∷ []) ds (rules_in old) made) in
    let seen : slice_get (rules_in old) i ≡ Some (rule k r.body) =
    slice_get-map rule_of old.rules.items i ∙ (ap (option_map rule_of) there ∙ ap (λ name. Some (rule name r.body)) named) in
    let now : rules_in new ≡ set (rules_in old) i (rule k e) =
    ap (map rule_of) changed ∙ (map-set rule_of old.rules.items i q ∙ ap (set (rules_in old) i) (is ∙ ap (λ name. rule name e) named)) in
    subst (λ rules. RulesMade (nodes_in new) (ds ++ definition_of d ∷ []) rules) (sym now)
    (cddl.further k d.adds r.body d.body e i ds (rules_in old) grown seen joins)

-- there is a rule at each place
pub some_rule : (rules : List code.Rule) (i : ℕ) → i < length rules → None ≡ slice_get rules i → ⊥
some_rule rules i lt none =
    let d : Rule = rule [] (body.Type 0) in
    let within : i < length (map rule_of rules) = omega (arith, length-map rules rule_of) in
    let some : slice_get (map rule_of rules) i ≡ Some (get_or (map rule_of rules) i d) = slice_get-get_or (map rule_of rules) i d within in
    let gone : slice_get (map rule_of rules) i ≡ None = slice_get-map rule_of rules i ∙ ap (option_map rule_of) (sym none) in
    let wrong : Some (get_or (map rule_of rules) i d) ≡ None = sym some ∙ gone in
    cc

-- the rule at a place has another name
pub other_name : (rules : List code.Rule) (i : ℕ) (r : code.Rule) (k : List ℕ) (b : Body) → slice_get rules i ≡ Some r → (r.name.now ≡ k → ⊥)
    → slice_get (map rule_of rules) i ≡ Some (rule k b) → ⊥
other_name rules i r k b there other is =
    let seen : slice_get (map rule_of rules) i ≡ Some (rule r.name.now r.body) = slice_get-map rule_of rules i ∙ ap (option_map rule_of) there in
    let same : Some (rule r.name.now r.body) ≡ Some (rule k b) = sym seen ∙ is in
    let named : r.name.now ≡ k = cc in
    other named

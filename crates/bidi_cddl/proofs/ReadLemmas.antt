-- What a step says, from what its parts say and the tokens between them.
use Rattle.std.proofs.Common.{◌≡◌, ◌∙◌, ℕ, ◌+◌, ◌<◌, List, [], ◌∷◌, Bool, true, ap, ap₂, arith, drop, get_or, inl, inr, length, map, refl, subst, sym, take}
use Rattle.std.proofs.Math.Seq.{drop-length}
use Rattle.std.proofs.lemmas.Bool.{cases_lt}
use Rattle.std.specs.Prelude.{⊤, IsTrue, MatchOption, Option, Some, None, codes, option_map, slice_get}
use Rattle.std.proofs.lemmas.List.{drop-map, drop_more, get_or-take, length-take}
use Rattle.std.proofs.lemmas.Option.{get_or_from_slice_get, slice_get-get_or, slice_get-map, slice_get_within}
use Rattle.bidi_cddl.specs.Token.{Token, token_of, a_name, a_number, a_string, a_control, a_sign}
use Rattle.bidi_cddl.specs.Node as node
use Rattle.bidi_cddl.specs.Node.{Node, IsNode, node_of}
use Rattle.bidi_cddl.specs.Reads as reads
use Rattle.bidi_cddl.specs.Reads.{TypeReads, Type1Reads, Type2Reads, GroupReads, AlternativeReads, EntryReads, OccursReads, KeyReads, TextReads, CommaReads, is_bound, is_value}
use Rattle.bidi_cddl.specs.Steps.{AllRead, LevelReads, StepReads, is_also, level_of, nodes_of, tokens_of}
use Rattle.bidi_cddl.specs.declared.step.Step.{Step}
use Rattle.bidi_cddl.specs.declared.definition.Definition as code_definition
use Rattle.bidi_cddl.specs.declared.token.Placed as code_placed
use Rattle.bidi_cddl.specs.declared.token.Sign.{Sign}
use Rattle.bidi_cddl.specs.declared.token.Sign.TheVariants as sign
use Rattle.bidi_cddl.specs.declared.written.Node as code_node
use Rattle.bidi_cddl.specs.declared.written.Body.{Body}
use Rattle.bidi_cddl.specs.declared.written.Body.TheVariants as body
use Rattle.bidi_cddl.specs.Definition as definition
use Rattle.bidi_cddl.specs.Definition.{AddedReads, BodyReads, DefinitionReads, DefinitionsRead, EntryBody, ParenthesesRead, defines, definition_of}
use Rattle.bidi_cddl.specs.declared.definition.Adds.{Adds}
use Rattle.bidi_cddl.specs.declared.written.Occurs.TheVariants.{AtLeast, Optional}
use Rattle.bidi_cddl.specs.declared.written.Occurs.{Occurs}
use Rattle.bidi_cddl.specs.declared.level.Level.{Level}
use Rattle.bidi_cddl.specs.declared.level.Level.TheVariants.{Type2, Type1, AnyType, Entry, Alternative, Group}

-- what is read at one level is read at another
pub lift : (a b : Level) (nodes : List Node) (n : ℕ) (ts us : List Token) → is_also a b ≡ true → LevelReads a nodes n ts us → LevelReads b nodes n ts us
lift Type2 Type2 nodes n ts us h r = r
lift Type2 Type1 nodes n ts us h r = reads.no_operator n ts us r
lift Type2 AnyType nodes n ts us h r = reads.no_choice n ts us (reads.no_operator n ts us r)
lift Type1 Type1 nodes n ts us h r = r
lift Type1 AnyType nodes n ts us h r = reads.no_choice n ts us r
lift AnyType AnyType nodes n ts us h r = r
lift Entry Entry nodes n ts us h r = r
lift Alternative Alternative nodes n ts us h r = r
lift Alternative Group nodes n ts us h r = reads.one_alternative n ts us r
lift Group Group nodes n ts us h r = r
lift a b nodes n ts us h r = absurd (cc)

-- the same with other names for the node and the tokens
pub moved : (R : ℕ → List Token → List Token → Type 0) (m n : ℕ) (xs ys us vs : List Token) → m ≡ n → xs ≡ ys → us ≡ vs → R m xs us → R n ys vs
moved R m n xs ys us vs e f g r = subst (λ k. R k ys vs) e (subst (λ ws. R m ws vs) f (subst (λ ws. R m xs ws) g r))

-- a string
pub text_says : (nodes : List Node) (n : ℕ) (k : List ℕ) (xs us : List Token) → IsNode nodes n (node.a_text k) → xs ≡ a_string k ∷ us → Type2Reads nodes n xs us
text_says nodes n k xs us is e = subst (λ ws. Type2Reads nodes n ws us) (sym e) (reads.a_text n k us is)

-- a number
pub number_says : (nodes : List Node) (n : ℕ) (k : List ℕ) (xs us : List Token) → IsNode nodes n (node.a_number k) → xs ≡ a_number k ∷ us → Type2Reads nodes n xs us
number_says nodes n k xs us is e = subst (λ ws. Type2Reads nodes n ws us) (sym e) (reads.a_number n k us is)

-- a name
pub name_says : (nodes : List Node) (n : ℕ) (k : List ℕ) (xs us : List Token) → IsNode nodes n (node.a_name k) → xs ≡ a_name k ∷ us → Type2Reads nodes n xs us
name_says nodes n k xs us is e = subst (λ ws. Type2Reads nodes n ws us) (sym e) (reads.a_name n k us is)

-- a type in parentheses
pub parentheses_say : (nodes : List Node) (m n : ℕ) (xs fs gs us : List Token) → m ≡ n → xs ≡ a_sign sign.OpenParenthesis ∷ fs
    → gs ≡ a_sign sign.CloseParenthesis ∷ us → TypeReads nodes m fs gs → Type2Reads nodes n xs us
parentheses_say nodes m n xs fs gs us e e1 e2 r =
    subst (λ ws. Type2Reads nodes n ws us) (sym e1)
    (reads.parentheses n fs us (moved (TypeReads nodes) m n fs fs gs (a_sign sign.CloseParenthesis ∷ us) e refl e2 r))

-- a map
pub braces_say : (nodes : List Node) (n m g : ℕ) (xs fs gs us : List Token) → IsNode nodes n (node.a_map g) → m ≡ g → xs ≡ a_sign sign.OpenBrace ∷ fs
    → gs ≡ a_sign sign.CloseBrace ∷ us → GroupReads nodes m fs gs → Type2Reads nodes n xs us
braces_say nodes n m g xs fs gs us is e e1 e2 r =
    subst (λ ws. Type2Reads nodes n ws us) (sym e1)
    (reads.braces n g fs us is (moved (GroupReads nodes) m g fs fs gs (a_sign sign.CloseBrace ∷ us) e refl e2 r))

-- an array
pub brackets_say : (nodes : List Node) (n m g : ℕ) (xs fs gs us : List Token) → IsNode nodes n (node.an_array g) → m ≡ g
    → xs ≡ a_sign sign.OpenBracket ∷ fs → gs ≡ a_sign sign.CloseBracket ∷ us → GroupReads nodes m fs gs → Type2Reads nodes n xs us
brackets_say nodes n m g xs fs gs us is e e1 e2 r =
    subst (λ ws. Type2Reads nodes n ws us) (sym e1)
    (reads.brackets n g fs us is (moved (GroupReads nodes) m g fs fs gs (a_sign sign.CloseBracket ∷ us) e refl e2 r))

-- a type with a bound
pub bound_says : (nodes : List Node) (n m a : ℕ) (c k : List ℕ) (xs fs gs hs us : List Token) → IsNode nodes n (node.bounded a c k) → m ≡ a → fs ≡ xs
    → is_bound c ≡ true → gs ≡ a_control c ∷ hs → hs ≡ a_number k ∷ us → Type2Reads nodes m fs gs → Type1Reads nodes n xs us
bound_says nodes n m a c k xs fs gs hs us is e e1 bound e2 e3 r =
    let behind : gs ≡ a_control c ∷ a_number k ∷ us = subst (λ ws. gs ≡ a_control c ∷ ws) e3 e2 in
    reads.bounded n a c k xs us bound is (moved (Type2Reads nodes) m a fs xs gs (a_control c ∷ a_number k ∷ us) e e1 behind r)

-- a type with a default
pub default_says : (nodes : List Node) (m n : ℕ) (v : Token) (xs fs gs hs us : List Token) → m ≡ n → fs ≡ xs → is_value v ≡ true
    → gs ≡ a_control (reads.default_name) ∷ hs → hs ≡ v ∷ us → Type2Reads nodes m fs gs → Type1Reads nodes n xs us
default_says nodes m n v xs fs gs hs us e e1 value e2 e3 r =
    let behind : gs ≡ a_control reads.default_name ∷ v ∷ us = subst (λ ws. gs ≡ a_control reads.default_name ∷ ws) e3 e2 in
    reads.default n v xs us value (moved (Type2Reads nodes) m n fs xs gs (a_control reads.default_name ∷ v ∷ us) e e1 behind r)

-- a range
pub range_says : (nodes : List Node) (n : ℕ) (a b : List ℕ) (open_ended : Bool) (d : Sign) (xs gs hs us : List Token) → IsNode nodes n (node.range a b open_ended)
    → d ≡ reads.dots open_ended → xs ≡ a_number a ∷ gs → gs ≡ a_sign d ∷ hs → hs ≡ a_number b ∷ us → Type1Reads nodes n xs us
range_says nodes n a b open_ended d xs gs hs us is dots e1 e2 e3 =
    let last : xs ≡ a_number a ∷ a_sign d ∷ hs = subst (λ ws. xs ≡ a_number a ∷ ws) e2 e1 in
    let whole : xs ≡ a_number a ∷ a_sign d ∷ a_number b ∷ us = subst (λ ws. xs ≡ a_number a ∷ a_sign d ∷ ws) e3 last in
    let right : xs ≡ a_number a ∷ a_sign (reads.dots open_ended) ∷ a_number b ∷ us = subst (λ x. xs ≡ a_number a ∷ a_sign x ∷ a_number b ∷ us) dots whole in
    subst (λ ws. Type1Reads nodes n ws us) (sym right) (reads.range n a b open_ended us is)

-- a choice of types
pub either_says : (nodes : List Node) (n l m a b : ℕ) (xs fs gs hs ks us : List Token) → IsNode nodes n (node.either a b) → l ≡ a → m ≡ b → fs ≡ xs → ks ≡ us
    → gs ≡ a_sign sign.Slash ∷ hs → Type1Reads nodes l fs gs → TypeReads nodes m hs ks → TypeReads nodes n xs us
either_says nodes n l m a b xs fs gs hs ks us is e f e1 e2 e3 r s =
    reads.either n a b xs hs us is (moved (Type1Reads nodes) l a fs xs gs (a_sign sign.Slash ∷ hs) e e1 e3 r) (moved (TypeReads nodes) m b hs hs ks us f refl e2 s)

-- a choice of groups
pub choice_says : (nodes : List Node) (n l m a b : ℕ) (xs fs gs hs ks us : List Token) → IsNode nodes n (node.choice a b) → l ≡ a → m ≡ b → fs ≡ xs → ks ≡ us
    → gs ≡ a_sign sign.TwoSlashes ∷ hs → AlternativeReads nodes l fs gs → GroupReads nodes m hs ks → GroupReads nodes n xs us
choice_says nodes n l m a b xs fs gs hs ks us is e f e1 e2 e3 r s =
    reads.choice n a b xs hs us is (moved (AlternativeReads nodes) l a fs xs gs (a_sign sign.TwoSlashes ∷ hs) e e1 e3 r)
    (moved (GroupReads nodes) m b hs hs ks us f refl e2 s)

-- a member
pub member_says : (nodes : List Node) (n m a : ℕ) (o : Occurs) (k : List ℕ) (xs fs gs hs ks us : List Token) → IsNode nodes n (node.member o k a) → m ≡ a
    → hs ≡ gs → ks ≡ us → OccursReads o xs fs → KeyReads k fs gs → TypeReads nodes m hs ks → EntryReads nodes n xs us
member_says nodes n m a o k xs fs gs hs ks us is e e1 e2 occurs key r =
    reads.member n a o k xs fs gs us is occurs key (moved (TypeReads nodes) m a hs gs ks us e e1 e2 r)

-- further members
pub further_says : (nodes : List Node) (n m a : ℕ) (o : Occurs) (xs fs gs hs ks us : List Token) → IsNode nodes n (node.further o a) → m ≡ a
    → hs ≡ gs → ks ≡ us → OccursReads o xs fs → TextReads fs gs → TypeReads nodes m hs ks → EntryReads nodes n xs us
further_says nodes n m a o xs fs gs hs ks us is e e1 e2 occurs key r =
    reads.further n a o xs fs gs us is occurs key (moved (TypeReads nodes) m a hs gs ks us e e1 e2 r)

-- a type alone
pub alone_says : (nodes : List Node) (n m a : ℕ) (o : Occurs) (xs fs hs ks us : List Token) → IsNode nodes n (node.bare o a) → m ≡ a
    → hs ≡ fs → ks ≡ us → OccursReads o xs fs → TypeReads nodes m hs ks → EntryReads nodes n xs us
alone_says nodes n m a o xs fs hs ks us is e e1 e2 occurs r =
    reads.alone n a o xs fs us is occurs (moved (TypeReads nodes) m a hs fs ks us e e1 e2 r)

-- a group in parentheses
pub inside_says : (nodes : List Node) (n m g : ℕ) (o : Occurs) (xs fs gs hs us : List Token) → IsNode nodes n (node.inside o g) → m ≡ g
    → fs ≡ a_sign sign.OpenParenthesis ∷ gs → hs ≡ a_sign sign.CloseParenthesis ∷ us → OccursReads o xs fs → GroupReads nodes m gs hs → EntryReads nodes n xs us
inside_says nodes n m g o xs fs gs hs us is e e1 e2 occurs r =
    reads.inside n g o xs gs us is (subst (OccursReads o xs) e1 occurs)
    (moved (GroupReads nodes) m g gs gs hs (a_sign sign.CloseParenthesis ∷ us) e refl e2 r)

-- no entry
pub empty_says : (nodes : List Node) (n : ℕ) (xs us : List Token) → IsNode nodes n node.empty → xs ≡ us → AlternativeReads nodes n xs us
empty_says nodes n xs us is e = subst (AlternativeReads nodes n xs) e (reads.no_entry n xs is)

-- an entry without others behind it
pub last_says : (nodes : List Node) (m n : ℕ) (xs fs gs us : List Token) → m ≡ n → fs ≡ xs → CommaReads gs us → EntryReads nodes m fs gs → AlternativeReads nodes n xs us
last_says nodes m n xs fs gs us e e1 comma r = reads.last n xs gs us (moved (EntryReads nodes) m n fs xs gs gs e e1 refl r) comma

-- an entry and others
pub both_say : (nodes : List Node) (n l m a b : ℕ) (xs fs gs hs is ks us : List Token) → IsNode nodes n (node.both a b) → l ≡ a → m ≡ b → fs ≡ xs → ks ≡ us
    → is ≡ hs → CommaReads gs hs → EntryReads nodes l fs gs → AlternativeReads nodes m is ks → AlternativeReads nodes n xs us
both_say nodes n l m a b xs fs gs hs is ks us there e f e1 e2 e3 comma r s =
    reads.both n a b xs gs hs us there (moved (EntryReads nodes) l a fs xs gs gs e e1 refl r) comma (moved (AlternativeReads nodes) m b is hs ks us f e3 e2 s)

-- the token at a place is the first of what is left there
pub token_there : (tokens : List code_placed.Placed) (from : ℕ) (p : code_placed.Placed) (t : Token) → slice_get tokens from ≡ Some p → token_of p.token ≡ t
    → drop from (tokens_of tokens) ≡ t ∷ drop (from + 1) (tokens_of tokens)
token_there tokens from p t there is =
    let f : code_placed.Placed → Token = λ q. token_of q.token in
    let cut : drop from tokens ≡ get_or tokens from p ∷ drop (from + 1) tokens = drop_more tokens from p (slice_get_within tokens from p there) in
    let first : f (get_or tokens from p) ≡ t = ap f (get_or_from_slice_get tokens from p p there) ∙ is in
    drop-map f from tokens ∙ (ap (map f) cut ∙ ap₂ (λ (x : Token) (xs : List Token). x ∷ xs) first (sym (drop-map f (from + 1) tokens)))

-- the node at a place
pub node_there : (nodes : List code_node.Node) (n : ℕ) (x : code_node.Node) (y : Node) → Some x ≡ slice_get nodes n → node_of x ≡ y → IsNode (nodes_of nodes) n y
node_there nodes n x y there is = slice_get-map node_of nodes n ∙ (ap (option_map node_of) (sym there) ∙ ap Some is)

-- a test that came out true
pub holds : (b : Bool) → b ≡ true → IsTrue b
holds b e = e

-- what holds of a value, if there is one
pub match_map : (o : Option ℕ) (P Q : ℕ → Type 0) → ((n : ℕ) → P n → Q n) → MatchOption o ⊤ P → MatchOption o ⊤ Q
match_map None P Q f h = tt
match_map (Some n) P Q f h = f n h

-- a comma
pub comma_says : (xs us : List Token) → xs ≡ a_sign sign.Comma ∷ us → CommaReads xs us
comma_says xs us e = subst (λ ws. CommaReads ws us) (sym e) (reads.a_comma us)

-- a name and a colon
pub word_says : (k : List ℕ) (xs ys us : List Token) → xs ≡ a_name k ∷ ys → ys ≡ a_sign sign.Colon ∷ us → KeyReads k xs us
word_says k xs ys us e f = subst (λ ws. KeyReads k ws us) (sym (subst (λ ws. xs ≡ a_name k ∷ ws) f e)) (reads.bare_word k us)

-- a string and a colon
pub quoted_says : (k : List ℕ) (xs ys us : List Token) → xs ≡ a_string k ∷ ys → ys ≡ a_sign sign.Colon ∷ us → KeyReads k xs us
quoted_says k xs ys us e f = subst (λ ws. KeyReads k ws us) (sym (subst (λ ws. xs ≡ a_string k ∷ ws) f e)) (reads.quoted k us)

-- a string and an arrow
pub arrow_says : (k : List ℕ) (xs ys us : List Token) → xs ≡ a_string k ∷ ys → ys ≡ a_sign sign.Arrow ∷ us → KeyReads k xs us
arrow_says k xs ys us e f = subst (λ ws. KeyReads k ws us) (sym (subst (λ ws. xs ≡ a_string k ∷ ws) f e)) (reads.by_arrow k us)

-- `text =>`
pub any_text_says : (xs us : List Token) → xs ≡ a_name (codes "text") ∷ a_sign sign.Arrow ∷ us → TextReads xs us
any_text_says xs us e = subst (λ ws. TextReads ws us) (sym e) (reads.text us)

-- `tstr =>`
pub tstr_says : (xs us : List Token) → xs ≡ a_name (codes "tstr") ∷ a_sign sign.Arrow ∷ us → TextReads xs us
tstr_says xs us e = subst (λ ws. TextReads ws us) (sym e) (reads.tstr us)

-- `?`
pub optional_says : (xs us : List Token) → xs ≡ a_sign sign.Question ∷ us → OccursReads Optional xs us
optional_says xs us e = subst (λ ws. OccursReads Optional ws us) (sym e) (reads.optional us)

-- `*`
pub star_says : (n : ℕ) (xs us : List Token) → 0 ≡ n → xs ≡ a_sign sign.Star ∷ us → OccursReads (AtLeast n) xs us
star_says n xs us z e = subst (λ k. OccursReads (AtLeast k) xs us) z (subst (λ ws. OccursReads (AtLeast 0) ws us) (sym e) (reads.any_number us))

-- `+`
pub plus_says : (n : ℕ) (xs us : List Token) → 1 ≡ n → xs ≡ a_sign sign.Plus ∷ us → OccursReads (AtLeast n) xs us
plus_says n xs us z e = subst (λ k. OccursReads (AtLeast k) xs us) z (subst (λ ws. OccursReads (AtLeast 1) ws us) (sym e) (reads.one_or_more us))

-- `n*`
pub count_says : (m n : ℕ) (k : List ℕ) (xs ys us : List Token) → reads.number_value k ≡ Some m → m ≡ n → xs ≡ a_number k ∷ ys → ys ≡ a_sign sign.Star ∷ us
    → OccursReads (AtLeast n) xs us
count_says m n k xs ys us value same e f =
    subst (λ j. OccursReads (AtLeast j) xs us) same
    (subst (λ ws. OccursReads (AtLeast m) ws us) (sym (subst (λ ws. xs ≡ a_number k ∷ ws) f e)) (reads.at_least m k us value))

-- an entry behind `//=`
pub entry_body : (nodes : List Node) (m n : ℕ) (b : Body) (xs fs gs us : List Token) → b ≡ body.Group n → m ≡ n → fs ≡ xs → gs ≡ us → EntryReads nodes m fs gs
    → EntryBody nodes b xs us
entry_body nodes m n b xs fs gs us e e1 e2 e3 r =
    subst (λ c. EntryBody nodes c xs us) (sym e) (definition.an_entry n xs us (moved (EntryReads nodes) m n fs xs gs us e1 e2 e3 r))

-- a group in parentheses
pub group_body : (nodes : List Node) (m n : ℕ) (xs fs gs us : List Token) → m ≡ n → xs ≡ a_sign sign.OpenParenthesis ∷ fs
    → gs ≡ a_sign sign.CloseParenthesis ∷ us → GroupReads nodes m fs gs → ParenthesesRead nodes n xs us
group_body nodes m n xs fs gs us e e1 e2 r =
    subst (λ ws. ParenthesesRead nodes n ws us) (sym e1)
    (definition.in_parentheses n fs us (moved (GroupReads nodes) m n fs fs gs (a_sign sign.CloseParenthesis ∷ us) e refl e2 r))

-- a definition
pub definition_says : (nodes : List Node) (k : List ℕ) (a : Adds) (b : Body) (d : Sign) (xs ys ws us : List Token) → d ≡ definition.sign_of a
    → xs ≡ a_name k ∷ ys → ys ≡ a_sign d ∷ ws → AddedReads nodes a b ws us → DefinitionReads nodes (defines k a b) xs us
definition_says nodes k a b d xs ys ws us sign_is e f r =
    let whole : xs ≡ a_name k ∷ a_sign d ∷ ws = subst (λ zs. xs ≡ a_name k ∷ zs) f e in
    let right : xs ≡ a_name k ∷ a_sign (definition.sign_of a) ∷ ws = subst (λ x. xs ≡ a_name k ∷ a_sign x ∷ ws) sign_is whole in
    subst (λ zs. DefinitionReads nodes (defines k a b) zs us) (sym right) (definition.a_definition k a b ws us r)

-- steps that are read one by one are all read
pub all_below : (nodes : List Node) (ts : List Token) (steps before : List Step) (i : ℕ) → before ≡ take i steps
    → ((j : ℕ) (t : Step) → j < i → slice_get steps j ≡ Some t → StepReads (level_of t.form) nodes ts t) → AllRead nodes ts before
all_below nodes ts steps before i cut read = λ j t e.
    let there : slice_get (take i steps) j ≡ Some t = subst (λ xs. slice_get xs j ≡ Some t) cut e in
    let within : j < length (take i steps) = slice_get_within (take i steps) j t there in
    let low : j < i = omega (arith, length-take i steps) in
    let inside : j < length steps = omega (arith, length-take i steps) in
    let same : get_or steps j t ≡ t = sym (get_or-take i steps j t low) ∙ get_or_from_slice_get (take i steps) j t t there in
    read j t low (slice_get-get_or steps j t inside ∙ ap Some same)

-- one step more is read
pub read_more : (nodes : List Node) (ts : List Token) (steps : List Step) (i : ℕ) (s : Step) → slice_get steps i ≡ Some s
    → ((j : ℕ) (t : Step) → j < i → slice_get steps j ≡ Some t → StepReads (level_of t.form) nodes ts t) → StepReads (level_of s.form) nodes ts s
    → (j : ℕ) (t : Step) → j < i + 1 → slice_get steps j ≡ Some t → StepReads (level_of t.form) nodes ts t
read_more nodes ts steps i s there read r j t lt e =
    elim (cases_lt j i) [
      | inl low ↦ read j t low e
      | inr high ↦
          let at : j ≡ i = omega arith in
          let both : Some s ≡ Some t = sym there ∙ (ap (slice_get steps) (sym at) ∙ e) in
          let same : s ≡ t = cc in
          subst (λ u. StepReads (level_of u.form) nodes ts u) same r
    ]

-- behind the last definition there is none
pub no_more : (nodes : List Node) (ds : List code_definition.Definition) (tokens : List code_placed.Placed)
    → DefinitionsRead nodes (map definition_of (drop (length ds) ds)) (drop (length tokens) (tokens_of tokens))
no_more nodes ds tokens =
    let f : code_placed.Placed → Token = λ q. token_of q.token in
    let none : map definition_of (drop (length ds) ds) ≡ [] = ap (map definition_of) (drop-length ds) in
    let end : drop (length tokens) (tokens_of tokens) ≡ [] = drop-map f (length tokens) tokens ∙ ap (map f) (drop-length tokens) in
    subst (λ xs. DefinitionsRead nodes xs (drop (length tokens) (tokens_of tokens))) (sym none)
    (subst (λ us. DefinitionsRead nodes [] us) (sym end) definition.no_definition)

-- one definition before others
pub one_before : (nodes : List Node) (ds : List code_definition.Definition) (i n : ℕ) (d : code_definition.Definition) (ts : List Token) (to : ℕ) → i + 1 ≡ n
    → slice_get ds i ≡ Some d → DefinitionReads nodes (definition_of d) (drop d.from ts) (drop to ts)
    → DefinitionsRead nodes (map definition_of (drop n ds)) (drop to ts) → DefinitionsRead nodes (map definition_of (drop i ds)) (drop d.from ts)
one_before nodes ds i n d ts to at there r rest =
    let cut : drop i ds ≡ get_or ds i d ∷ drop (i + 1) ds = drop_more ds i d (slice_get_within ds i d there) in
    let first : get_or ds i d ≡ d = get_or_from_slice_get ds i d d there in
    let whole : map definition_of (drop i ds) ≡ definition_of d ∷ map definition_of (drop n ds) =
    ap (map definition_of) cut ∙ ap₂ (λ x k. definition_of x ∷ map definition_of (drop k ds)) first at in
    subst (λ xs. DefinitionsRead nodes xs (drop d.from ts)) (sym whole)
    (definition.one_more (definition_of d) (map definition_of (drop n ds)) (drop d.from ts) (drop to ts) r rest)

-- How tokens are read as types and groups. After RFC 8610, appendix B, in the subset of this project.
-- `TypeReads nodes n ts us`: the type that is the node at n is read from the front of ts, and us is left. The others are alike.
use Rattle.std.specs.Prelude.{◌≡◌, ℕ, ◌+◌, ◌-◌, ◌*◌, List, [], ◌∷◌, Bool, true, false, ◌||◌, if◌then◌else◌, Option, Some, None, bytes_eq, codes}
use Rattle.bidi_cddl.specs.Bytes.{is_digit}
use Rattle.bidi_cddl.specs.Token as token
use Rattle.bidi_cddl.specs.Token.{Token, a_sign, a_control}
use Rattle.bidi_cddl.specs.Node as node
use Rattle.bidi_cddl.specs.Node.{Node, IsNode}
use Rattle.bidi_cddl.specs.declared.token.Sign.{Sign}
use Rattle.bidi_cddl.specs.declared.token.Sign.TheVariants as sign
use Rattle.bidi_cddl.specs.declared.written.Occurs.{Occurs}
use Rattle.bidi_cddl.specs.declared.written.Occurs.TheVariants.{Once, Optional, AtLeast}

-- the control operator gives a bound: `.ge`, `.gt`, `.le` or `.lt`
abbrev pub is_bound : List ℕ → Bool
is_bound s = bytes_eq s (codes ".ge") || bytes_eq s (codes ".gt") || bytes_eq s (codes ".le") || bytes_eq s (codes ".lt")

-- the number that some digits write, from the number that the digits before them write
abbrev pub number_value_from : ℕ → List ℕ → Option ℕ
number_value_from n [] = Some n
number_value_from n (b ∷ bs) = if is_digit b then number_value_from (n * 10 + (b - 48)) bs else None

-- the number that some digits write
abbrev pub number_value : List ℕ → Option ℕ
number_value s = number_value_from 0 s

-- the sign between the numbers of a range: `...` without its end, and `..` with it
abbrev pub dots : Bool → Sign
dots true = sign.ThreeDots
dots false = sign.TwoDots

-- the control operator that gives a default
abbrev pub default_name : List ℕ
default_name = codes ".default"

-- the token is a value: a name, a number or a string
abbrev pub is_value : Token → Bool
is_value (token.a_name k) = true
is_value (token.a_number k) = true
is_value (token.a_string k) = true
is_value (a_control k) = false
is_value (a_sign s) = false

-- how often an entry may occur: `?`, `*`, `+`, `n*`, or nothing
pub data OccursReads : Occurs → List Token → List Token → Type 0 where
  once : (ts : List Token) → OccursReads Once ts ts
  optional : (ts : List Token) → OccursReads Optional (a_sign sign.Question ∷ ts) ts
  any_number : (ts : List Token) → OccursReads (AtLeast 0) (a_sign sign.Star ∷ ts) ts
  one_or_more : (ts : List Token) → OccursReads (AtLeast 1) (a_sign sign.Plus ∷ ts) ts
  at_least : (n : ℕ) (k : List ℕ) (ts : List Token) → number_value k ≡ Some n → OccursReads (AtLeast n) (token.a_number k ∷ a_sign sign.Star ∷ ts) ts

-- the name of a member, before its type: `name:`, `"name":` or `"name" =>`
pub data KeyReads : List ℕ → List Token → List Token → Type 0 where
  bare_word : (k : List ℕ) (ts : List Token) → KeyReads k (token.a_name k ∷ a_sign sign.Colon ∷ ts) ts
  quoted : (k : List ℕ) (ts : List Token) → KeyReads k (token.a_string k ∷ a_sign sign.Colon ∷ ts) ts
  by_arrow : (k : List ℕ) (ts : List Token) → KeyReads k (token.a_string k ∷ a_sign sign.Arrow ∷ ts) ts

-- what is before the type of further members: `text =>` or `tstr =>`
pub data TextReads : List Token → List Token → Type 0 where
  text : (ts : List Token) → TextReads (token.a_name (codes "text") ∷ a_sign sign.Arrow ∷ ts) ts
  tstr : (ts : List Token) → TextReads (token.a_name (codes "tstr") ∷ a_sign sign.Arrow ∷ ts) ts

-- a comma, or none
pub data CommaReads : List Token → List Token → Type 0 where
  no_comma : (ts : List Token) → CommaReads ts ts
  a_comma : (ts : List Token) → CommaReads (a_sign sign.Comma ∷ ts) ts

mutual
  -- a type: `X / Y`, or no choice
  pub data TypeReads (nodes : List Node) : ℕ → List Token → List Token → Type 0 where
    no_choice : (n : ℕ) (ts us : List Token) → Type1Reads nodes n ts us → TypeReads nodes n ts us
    either : (n a b : ℕ) (ts us vs : List Token) → IsNode nodes n (node.either a b)
        → Type1Reads nodes a ts (a_sign sign.Slash ∷ us) → TypeReads nodes b us vs → TypeReads nodes n ts vs

  -- a type without a choice: a range, or a type and maybe a control operator; `.default` and its value say nothing
  pub data Type1Reads (nodes : List Node) : ℕ → List Token → List Token → Type 0 where
    no_operator : (n : ℕ) (ts us : List Token) → Type2Reads nodes n ts us → Type1Reads nodes n ts us
    range : (n : ℕ) (a b : List ℕ) (open_ended : Bool) (us : List Token) → IsNode nodes n (node.range a b open_ended)
        → Type1Reads nodes n (token.a_number a ∷ a_sign (dots open_ended) ∷ token.a_number b ∷ us) us
    bounded : (n m : ℕ) (c k : List ℕ) (ts us : List Token) → is_bound c ≡ true → IsNode nodes n (node.bounded m c k)
        → Type2Reads nodes m ts (a_control c ∷ token.a_number k ∷ us) → Type1Reads nodes n ts us
    default : (n : ℕ) (value : Token) (ts us : List Token) → is_value value ≡ true
        → Type2Reads nodes n ts (a_control default_name ∷ value ∷ us) → Type1Reads nodes n ts us

  -- a type of one token or in brackets
  pub data Type2Reads (nodes : List Node) : ℕ → List Token → List Token → Type 0 where
    a_text : (n : ℕ) (k : List ℕ) (us : List Token) → IsNode nodes n (node.a_text k) → Type2Reads nodes n (token.a_string k ∷ us) us
    a_number : (n : ℕ) (k : List ℕ) (us : List Token) → IsNode nodes n (node.a_number k) → Type2Reads nodes n (token.a_number k ∷ us) us
    a_name : (n : ℕ) (k : List ℕ) (us : List Token) → IsNode nodes n (node.a_name k) → Type2Reads nodes n (token.a_name k ∷ us) us
    parentheses : (n : ℕ) (ts us : List Token) → TypeReads nodes n ts (a_sign sign.CloseParenthesis ∷ us)
        → Type2Reads nodes n (a_sign sign.OpenParenthesis ∷ ts) us
    braces : (n g : ℕ) (ts us : List Token) → IsNode nodes n (node.a_map g) → GroupReads nodes g ts (a_sign sign.CloseBrace ∷ us)
        → Type2Reads nodes n (a_sign sign.OpenBrace ∷ ts) us
    brackets : (n g : ℕ) (ts us : List Token) → IsNode nodes n (node.an_array g) → GroupReads nodes g ts (a_sign sign.CloseBracket ∷ us)
        → Type2Reads nodes n (a_sign sign.OpenBracket ∷ ts) us

  -- a group: `A // B`, or one alternative
  pub data GroupReads (nodes : List Node) : ℕ → List Token → List Token → Type 0 where
    one_alternative : (n : ℕ) (ts us : List Token) → AlternativeReads nodes n ts us → GroupReads nodes n ts us
    choice : (n a b : ℕ) (ts us vs : List Token) → IsNode nodes n (node.choice a b)
        → AlternativeReads nodes a ts (a_sign sign.TwoSlashes ∷ us) → GroupReads nodes b us vs → GroupReads nodes n ts vs

  -- an alternative: entries, and maybe a comma behind each
  pub data AlternativeReads (nodes : List Node) : ℕ → List Token → List Token → Type 0 where
    no_entry : (n : ℕ) (ts : List Token) → IsNode nodes n node.empty → AlternativeReads nodes n ts ts
    last : (n : ℕ) (ts us vs : List Token) → EntryReads nodes n ts us → CommaReads us vs → AlternativeReads nodes n ts vs
    both : (n a b : ℕ) (ts us vs ws : List Token) → IsNode nodes n (node.both a b)
        → EntryReads nodes a ts us → CommaReads us vs → AlternativeReads nodes b vs ws → AlternativeReads nodes n ts ws

  -- an entry
  pub data EntryReads (nodes : List Node) : ℕ → List Token → List Token → Type 0 where
    member : (n a : ℕ) (o : Occurs) (k : List ℕ) (ts us vs ws : List Token) → IsNode nodes n (node.member o k a)
        → OccursReads o ts us → KeyReads k us vs → TypeReads nodes a vs ws → EntryReads nodes n ts ws
    further : (n a : ℕ) (o : Occurs) (ts us vs ws : List Token) → IsNode nodes n (node.further o a)
        → OccursReads o ts us → TextReads us vs → TypeReads nodes a vs ws → EntryReads nodes n ts ws
    alone : (n a : ℕ) (o : Occurs) (ts us vs : List Token) → IsNode nodes n (node.bare o a)
        → OccursReads o ts us → TypeReads nodes a us vs → EntryReads nodes n ts vs
    inside : (n g : ℕ) (o : Occurs) (ts us vs : List Token) → IsNode nodes n (node.inside o g)
        → OccursReads o ts (a_sign sign.OpenParenthesis ∷ us) → GroupReads nodes g us (a_sign sign.CloseParenthesis ∷ vs) → EntryReads nodes n ts vs

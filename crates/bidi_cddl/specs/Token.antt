-- Tokens. After RFC 8610, appendix B.
use Rattle.std.specs.Prelude.{ℕ, ◌+◌, ◌==◌, ◌&&◌, if◌then◌else◌, List, length, Option, Some, None}
use Rattle.bidi_cddl.specs.declared.token.Sign.{Sign}
use Rattle.bidi_cddl.specs.declared.token.Sign.TheVariants.{Equals, MoreTypes, MoreGroups, Slash, TwoSlashes, Arrow, TwoDots, ThreeDots, Question, Star, Plus, Comma, Colon}
use Rattle.bidi_cddl.specs.declared.token.Sign.TheVariants.{OpenParenthesis, CloseParenthesis, OpenBrace, CloseBrace, OpenBracket, CloseBracket, OpenAngle, CloseAngle}
use Rattle.bidi_cddl.specs.declared.token.Sign.TheVariants.{Tilde, Ampersand, Hash, Caret}
use Rattle.bidi_cddl.specs.declared.token.Token as code
use Rattle.bidi_cddl.specs.declared.token.Token.TheVariants as variant
use Rattle.bidi_cddl.specs.declared.token.Placed as code_placed

-- a token: a name, a number, a string without its quotation marks, a control operator with its dot, or a sign
pub data Token : Type 0 where
  a_name : List ℕ → Token
  a_number : List ℕ → Token
  a_string : List ℕ → Token
  a_control : List ℕ → Token
  a_sign : Sign → Token

-- a token, and the byte at which it begins
pub data Placed : Type 0 where
  placed : Token → ℕ → Placed

-- a token of the code
abbrev pub token_of : code.Token → Token
token_of (variant.Name s) = a_name s.now
token_of (variant.Number s) = a_number s.now
token_of (variant.Text s) = a_string s.now
token_of (variant.Control s) = a_control s.now
token_of (variant.Sign s) = a_sign s

-- a token of the code and the byte at which it begins
abbrev pub placed_of : code_placed.Placed → Placed
placed_of p = placed (token_of p.token) p.at

-- the token alone
abbrev pub bare : Placed → Token
bare (placed t n) = t

-- how many bytes a sign has
abbrev pub sign_size : Sign → ℕ
sign_size MoreGroups = 3
sign_size ThreeDots = 3
sign_size MoreTypes = 2
sign_size TwoSlashes = 2
sign_size Arrow = 2
sign_size TwoDots = 2
sign_size _ = 1

-- how many bytes a token has
abbrev pub token_size : Token → ℕ
token_size (a_name s) = length s
token_size (a_number s) = length s
token_size (a_string s) = length s + 2
token_size (a_control s) = length s
token_size (a_sign s) = sign_size s

-- the sign of one byte
abbrev pub single_sign : ℕ → Option Sign
single_sign b =
    if b == 61 then Some Equals else (if b == 63 then Some Question else (if b == 42 then Some Star else (if b == 43 then Some Plus else
    (if b == 44 then Some Comma else (if b == 58 then Some Colon else (if b == 40 then Some OpenParenthesis else (if b == 41 then Some CloseParenthesis else
    (if b == 123 then Some OpenBrace else (if b == 125 then Some CloseBrace else (if b == 91 then Some OpenBracket else (if b == 93 then Some CloseBracket else
    (if b == 60 then Some OpenAngle else (if b == 62 then Some CloseAngle else (if b == 126 then Some Tilde else (if b == 38 then Some Ampersand else
    (if b == 35 then Some Hash else (if b == 94 then Some Caret else None)))))))))))))))))

-- the sign that begins with `/`, by the two bytes that follow
abbrev pub slash_sign : ℕ → ℕ → Sign
slash_sign b c = if b == 61 then MoreTypes else (if b == 47 then (if c == 61 then MoreGroups else TwoSlashes) else Slash)

-- the sign that begins with `.`, by the two bytes that follow
abbrev pub dots_sign : ℕ → ℕ → Option Sign
dots_sign b c = if b == 46 then (if c == 46 then Some ThreeDots else Some TwoDots) else None

-- the sign at the front of three bytes; of two signs that begin alike it is the longer one
abbrev pub sign_at : ℕ → ℕ → ℕ → Option Sign
sign_at a b c =
    if a == 47 then Some (slash_sign b c) else (if a == 46 then dots_sign b c else (if (a == 61) && (b == 62) then Some Arrow else single_sign a))

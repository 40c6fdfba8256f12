-- What a byte can be in an extension.
use Rattle.std.proofs.Common.{◌≡◌, ◌==◌, ◌∙◌, ◌&&◌, ◌||◌, not, ℕ, Bool, true, false, ap, arith, if◌then◌else◌, refl, sym}
use Rattle.std.specs.Char.{is_ascii_alphanumeric, is_ascii_hexdigit}
use Rattle.std.proofs.lemmas.Bool.Decides.{nat_tests}
use Rattle.httparse.specs.Grammar.{is_ows, is_token_byte, is_value_byte}
use Rattle.bidi_requests.specs.Extensions.{is_quoted_byte, place_behind, sign_of}
use Rattle.bidi_requests.specs.declared.extensions.Place.TheVariants as place
use Rattle.bidi_requests.specs.declared.extensions.Sign.{Sign}
use Rattle.bidi_requests.specs.declared.extensions.Sign.TheVariants as sign

-- a byte is what a sign says
abbrev pub Means : ℕ → Sign → Type 0
Means b sign.Token = is_token_byte b ≡ true
Means b sign.Blank = is_ows b ≡ true
Means b sign.Semicolon = b ≡ 59
Means b sign.Equals = b ≡ 61
Means b sign.Quote = b ≡ 34
Means b sign.Backslash = b ≡ 92
Means b sign.Other = is_quoted_byte b ≡ true
Means b sign.Control = is_value_byte b ≡ false

by-test : (P : Sign → Type 0) (s r : Sign) (t : Bool) → (t ≡ true → P s) → (t ≡ false → P r) → P (if t then s else r)
by-test P s r true if_true if_false = if_true refl
by-test P s r false if_true if_false = if_false refl

is-code : (b n : ℕ) → (b == n) ≡ true → b ≡ n
is-code b n is = grind (arith, nat_tests)

other-quoted : (b : ℕ) → (b == 34) ≡ false → (b == 92) ≡ false → is_value_byte b ≡ true → is_quoted_byte b ≡ true
other-quoted b quote slash value = (λ i. value i && not (quote i || slash i))

-- a byte is what its sign says
pub means : (b : ℕ) → Means b (sign_of b)
means b =
    let P : Sign → Type 0 = Means b in
    by-test P _ _ (is_token_byte b) (λ is. is) (λ n1. by-test P _ _ (is_ows b) (λ is. is) (λ n2.
    by-test P _ _ (b == 59) (λ is. is-code b 59 is) (λ n3. by-test P _ _ (b == 61) (λ is. is-code b 61 is) (λ n4.
    by-test P _ _ (b == 34) (λ is. is-code b 34 is) (λ n5. by-test P _ _ (b == 92) (λ is. is-code b 92 is) (λ n6.
    by-test P _ _ (is_value_byte b) (λ is. other-quoted b n5 n6 is) (λ n7. n7)))))))

first-test : (s r : Sign) (t : Bool) → t ≡ true → (if t then s else r) ≡ s
first-test s r t is = ap (λ x. if x then s else r) is

-- a byte of a token
pub token-sign : (b : ℕ) → is_token_byte b ≡ true → sign_of b ≡ sign.Token
token-sign b is = first-test sign.Token _ (is_token_byte b) is

ows-cases : (b : ℕ) → is_ows b ≡ true → (b == 32) ≡ false → b ≡ 9
ows-cases b is other = grind (arith, nat_tests)

-- a space or a tab
pub blank-sign : (b : ℕ) → is_ows b ≡ true → sign_of b ≡ sign.Blank
unfolding is_token_byte
blank-sign b is = by-space (b == 32) refl
  where
    by-space : (t : Bool) → (b == 32) ≡ t → sign_of b ≡ sign.Blank
    by-space true same = ap sign_of (is-code b 32 same)
    by-space false other = ap sign_of (ows-cases b is other)

pub semicolon-sign : sign_of 59 ≡ sign.Semicolon
unfolding is_token_byte
semicolon-sign = refl

pub equals-sign : sign_of 61 ≡ sign.Equals
unfolding is_token_byte
equals-sign = refl

pub quote-sign : sign_of 34 ≡ sign.Quote
unfolding is_token_byte
quote-sign = refl

pub backslash-sign : sign_of 92 ≡ sign.Backslash
unfolding is_token_byte
backslash-sign = refl

-- a digit of a size
pub hex-token : (b : ℕ) → is_ascii_hexdigit b ≡ true → is_token_byte b ≡ true
unfolding is_token_byte
hex-token b is = by-letter (is_ascii_alphanumeric b) refl
  where
    by-letter : (t : Bool) → is_ascii_alphanumeric b ≡ t → is_token_byte b ≡ true
    by-letter true letter = grind (arith, letter)
    by-letter false none = grind (arith, nat_tests, none, is)

quoted-value : (b : ℕ) → is_quoted_byte b ≡ true → is_value_byte b ≡ true
quoted-value b is = by-value (is_value_byte b) refl is
  where
    by-value : (t : Bool) → is_value_byte b ≡ t → (t && not (b == 34 || b == 92)) ≡ true → is_value_byte b ≡ true
    by-value true value ok = value
    by-value false value ok = cc

-- the sign of a byte that a quoted string may have as it is keeps a reader in the string
pub plain-stays : (b : ℕ) (s : Sign) → Means b s → is_quoted_byte b ≡ true → place_behind place.Quoted s ≡ place.Quoted
plain-stays b sign.Token is plain = refl
plain-stays b sign.Blank is plain = refl
plain-stays b sign.Semicolon is plain = refl
plain-stays b sign.Equals is plain = refl
plain-stays b sign.Quote is plain = let no : false ≡ true = ap is_quoted_byte (sym is) ∙ plain in cc
plain-stays b sign.Backslash is plain = let no : false ≡ true = ap is_quoted_byte (sym is) ∙ plain in cc
plain-stays b sign.Other is plain = refl
plain-stays b sign.Control is plain = let no : false ≡ true = sym is ∙ quoted-value b plain in cc

-- the sign of a byte that may follow a backslash takes a reader back into the string
pub pair-stays : (b : ℕ) (s : Sign) → Means b s → is_value_byte b ≡ true → place_behind place.Escaped s ≡ place.Quoted
pair-stays b sign.Token is value = refl
pair-stays b sign.Blank is value = refl
pair-stays b sign.Semicolon is value = refl
pair-stays b sign.Equals is value = refl
pair-stays b sign.Quote is value = refl
pair-stays b sign.Backslash is value = refl
pair-stays b sign.Other is value = refl
pair-stays b sign.Control is value = let no : false ≡ true = sym is ∙ value in cc

token-value : (b : ℕ) → is_token_byte b ≡ true → is_quoted_byte b ≡ true
unfolding is_token_byte
token-value b is = grind (arith, nat_tests)

blank-value : (b : ℕ) → is_ows b ≡ true → is_quoted_byte b ≡ true
blank-value b is = by-space (b == 32) refl
  where
    by-space : (t : Bool) → (b == 32) ≡ t → is_quoted_byte b ≡ true
    by-space true same = ap is_quoted_byte (is-code b 32 same)
    by-space false other = ap is_quoted_byte (ows-cases b is other)

-- a byte whose sign keeps a reader in a quoted string is one that the string may have as it is
pub stays-plain : (b : ℕ) (s : Sign) → Means b s → place_behind place.Quoted s ≡ place.Quoted → is_quoted_byte b ≡ true
stays-plain b sign.Token is e = token-value b is
stays-plain b sign.Blank is e = blank-value b is
stays-plain b sign.Semicolon is e = ap is_quoted_byte is
stays-plain b sign.Equals is e = ap is_quoted_byte is
stays-plain b sign.Quote is e = cc
stays-plain b sign.Backslash is e = cc
stays-plain b sign.Other is e = is
stays-plain b sign.Control is e = cc

-- a byte whose sign takes a reader from a backslash into the string is one that may follow a backslash
pub stays-pair : (b : ℕ) (s : Sign) → Means b s → place_behind place.Escaped s ≡ place.Quoted → is_value_byte b ≡ true
stays-pair b sign.Token is e = quoted-value b (token-value b is)
stays-pair b sign.Blank is e = quoted-value b (blank-value b is)
stays-pair b sign.Semicolon is e = ap is_value_byte is
stays-pair b sign.Equals is e = ap is_value_byte is
stays-pair b sign.Quote is e = ap is_value_byte is
stays-pair b sign.Backslash is e = ap is_value_byte is
stays-pair b sign.Other is e = quoted-value b is
stays-pair b sign.Control is e = cc

-- The extensions of a chunk (RFC 9112, 7.1.1), and the tokens and quoted strings in them (RFC 9110, 5.6). Each form is a tree, the bytes of the tree, and a fact that says which trees are valid.
use Rattle.std.specs.Prelude.{◌≡◌, ◌==◌, ◌&&◌, ◌||◌, ℕ, Bool, false, true, not, List, [], ◌∷◌, ◌++◌, All, IsTrue, Option, Some, None, ⊤, flat_map, if◌then◌else◌}
use Rattle.httparse.specs.Grammar.{AllPass, ChunkLine, IsToken, is_ows, is_token_byte, is_value_byte, print_extension}
use Rattle.bidi_requests.specs.declared.extensions.Place.{Place}
use Rattle.bidi_requests.specs.declared.extensions.Place.TheVariants as place
use Rattle.bidi_requests.specs.declared.extensions.Sign.{Sign}
use Rattle.bidi_requests.specs.declared.extensions.Sign.TheVariants as sign

-- qdtext = HTAB / SP / %x21 / %x23-5B / %x5D-7E / obs-text: any byte of a field's value but the quotation mark and the backslash
abbrev pub is_quoted_byte : ℕ → Bool
is_quoted_byte b = is_value_byte b && not (b == 34 || b == 92)

-- A piece of a quoted string: a byte of its own, or a byte behind a backslash.
pub data Piece : Type 0 where
  plain : ℕ → Piece
  escaped : ℕ → Piece

-- the bytes of a piece: qdtext, or quoted-pair = "\" ( HTAB / SP / VCHAR / obs-text )
abbrev pub print_piece : Piece → List ℕ
print_piece (plain b) = b ∷ []
print_piece (escaped b) = 92 ∷ b ∷ []

-- A piece is valid.
abbrev pub IsPiece : Piece → Type 0
IsPiece (plain b) = IsTrue (is_quoted_byte b)
IsPiece (escaped b) = IsTrue (is_value_byte b)

-- A value: a token, or a quoted string.
pub data Value : Type 0 where
  token : List ℕ → Value
  quoted : List Piece → Value

-- the bytes of a value: chunk-ext-val = token / quoted-string, quoted-string = DQUOTE *( qdtext / quoted-pair ) DQUOTE
abbrev pub print_value : Value → List ℕ
print_value (token bytes) = bytes
print_value (quoted pieces) = 34 ∷ (flat_map print_piece pieces ++ (34 ∷ []))

-- A value is valid.
abbrev pub IsValue : Value → Type 0
IsValue (token bytes) = IsToken bytes
IsValue (quoted pieces) = All IsPiece pieces

-- A value with the white space around its equals sign.
pub record Assigned : Type 0 where
  pub before : List ℕ
  pub after : List ℕ
  pub value : Value

-- the bytes of it: BWS "=" BWS chunk-ext-val
abbrev pub print_assigned : Assigned → List ℕ
print_assigned a = a.before ++ (61 ∷ (a.after ++ print_value a.value))

-- The white space is spaces and tabs, and the value is valid.
pub record IsAssigned (a : Assigned) : Type 0 where
  pub before : AllPass is_ows a.before
  pub after : AllPass is_ows a.after
  pub value : IsValue a.value

-- An extension: the white space around its semicolon, its name, and its value, if it has one.
pub record Extension : Type 0 where
  pub before : List ℕ
  pub after : List ℕ
  pub name : List ℕ
  pub assigned : Option Assigned

-- the bytes of a value, if there is one
abbrev pub print_optional : Option Assigned → List ℕ
print_optional None = []
print_optional (Some a) = print_assigned a

-- the bytes of an extension: BWS ";" BWS chunk-ext-name [ BWS "=" BWS chunk-ext-val ]
abbrev pub print_one : Extension → List ℕ
print_one e = e.before ++ (59 ∷ (e.after ++ (e.name ++ print_optional e.assigned)))

-- A value is valid, or there is none.
abbrev pub IsOptional : Option Assigned → Type 0
IsOptional None = ⊤
IsOptional (Some a) = IsAssigned a

-- The white space is spaces and tabs, the name is a token, and the value is valid.
pub record IsExtension (e : Extension) : Type 0 where
  pub before : AllPass is_ows e.before
  pub after : AllPass is_ows e.after
  pub name : IsToken e.name
  pub assigned : IsOptional e.assigned

-- The bytes are a chunk-ext: any number of extensions.
abbrev pub AreExtensions : List ℕ → Type 0
AreExtensions bytes = (extensions : List Extension) × All IsExtension extensions × (bytes ≡ flat_map print_one extensions)

-- the bytes behind the size in the line of a chunk
abbrev pub behind_size : ChunkLine → List ℕ
behind_size line = line.pad ++ print_extension line.extension

-- ---- reading from the front

-- what a byte can be in an extension
abbrev pub sign_of : ℕ → Sign
sign_of b =
    if is_token_byte b then sign.Token else
    if is_ows b then sign.Blank else
    if b == 59 then sign.Semicolon else
    if b == 61 then sign.Equals else
    if b == 34 then sign.Quote else
    if b == 92 then sign.Backslash else
    if is_value_byte b then sign.Other else sign.Control

-- the place behind a byte
abbrev pub place_behind : Place → Sign → Place
place_behind place.Word sign.Token = place.Word
place_behind place.Word sign.Blank = place.BeforeSemicolon
place_behind place.Word sign.Semicolon = place.BeforeName
place_behind place.End sign.Blank = place.BeforeSemicolon
place_behind place.End sign.Semicolon = place.BeforeName
place_behind place.BeforeSemicolon sign.Blank = place.BeforeSemicolon
place_behind place.BeforeSemicolon sign.Semicolon = place.BeforeName
place_behind place.BeforeName sign.Blank = place.BeforeName
place_behind place.BeforeName sign.Token = place.Name
place_behind place.Name sign.Token = place.Name
place_behind place.Name sign.Blank = place.AfterName
place_behind place.Name sign.Semicolon = place.BeforeName
place_behind place.Name sign.Equals = place.BeforeValue
place_behind place.AfterName sign.Blank = place.AfterName
place_behind place.AfterName sign.Semicolon = place.BeforeName
place_behind place.AfterName sign.Equals = place.BeforeValue
place_behind place.BeforeValue sign.Blank = place.BeforeValue
place_behind place.BeforeValue sign.Token = place.Word
place_behind place.BeforeValue sign.Quote = place.Quoted
place_behind place.Quoted sign.Quote = place.End
place_behind place.Quoted sign.Backslash = place.Escaped
place_behind place.Quoted sign.Control = place.Wrong
place_behind place.Quoted s = place.Quoted
place_behind place.Escaped sign.Control = place.Wrong
place_behind place.Escaped s = place.Quoted
place_behind p s = place.Wrong

-- whether a line may end at a place
abbrev pub may_end : Place → Bool
may_end place.Word = true
may_end place.End = true
may_end place.Name = true
may_end p = false

-- whether bytes from a place on take a reader to where a line may end
abbrev pub ends_well : Place → List ℕ → Bool
ends_well p [] = may_end p
ends_well p (b ∷ bytes) = ends_well (place_behind p (sign_of b)) bytes

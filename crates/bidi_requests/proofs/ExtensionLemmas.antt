-- Extensions: what a reader of their bytes comes to is the grammar.
use Rattle.std.proofs.Common.{◌≡◌, ◌∙◌, ◌++◌, ◌∷◌, ◌⊎◌, ℕ, Bool, true, List, [], All, Option, Some, None, ap, append_assoc, arith, flat_map, inl, inr, refl, sym}
use Rattle.std.specs.Prelude.{◌↔◌, IsTrue}
use Rattle.std.specs.Char.{is_ascii_hexdigit}
use Rattle.std.proofs.lemmas.List.Elements.{All-cons, All-head, All-nil, All-tail}
use Rattle.httparse.specs.Grammar.{AllPass, ChunkLine, IsChunkLine, IsToken, is_ows, is_token_byte, is_value_byte, print_extension}
use Rattle.bidi_requests.specs.Extensions.{AreExtensions, Assigned, Extension, IsAssigned, IsExtension, IsOptional, IsPiece, IsValue, Piece, Value, behind_size, ends_well, escaped, is_quoted_byte, may_end, place_behind, plain, print_assigned, print_one, print_optional, print_piece, print_value, quoted, sign_of, token}
use Rattle.bidi_requests.specs.declared.extensions.Place.{Place}
use Rattle.bidi_requests.specs.declared.extensions.Place.TheVariants as place
use Rattle.bidi_requests.specs.declared.extensions.Sign.{Sign}
use Rattle.bidi_requests.specs.declared.extensions.Sign.TheVariants as sign
use Rattle.bidi_requests.proofs.SignLemmas.{Means, backslash-sign, blank-sign, equals-sign, hex-token, means, pair-stays, plain-stays, quote-sign, semicolon-sign, stays-pair, stays-plain, token-sign}

-- the bytes of extensions
abbrev tail : List Extension → List ℕ
tail es = flat_map print_one es

-- ---- what may follow at a place, in the words of the grammar

-- the rest of a word, and extensions
record AtWord (t : List ℕ) : Type 0 where
  word : List ℕ
  others : List Extension
  valid : AllPass is_token_byte word
  all : All IsExtension others
  is : t ≡ word ++ tail others

-- an extension, and others
record AtSemicolon (t : List ℕ) : Type 0 where
  one : Extension
  others : List Extension
  valid : IsExtension one
  all : All IsExtension others
  is : t ≡ print_one one ++ tail others

-- an extension behind its semicolon, and others
record AtName (t : List ℕ) : Type 0 where
  after : List ℕ
  name : List ℕ
  assigned : Option Assigned
  others : List Extension
  blank : AllPass is_ows after
  token : IsToken name
  valid : IsOptional assigned
  all : All IsExtension others
  is : t ≡ (after ++ (name ++ print_optional assigned)) ++ tail others

-- the rest of a name, the value, and others
record InName (t : List ℕ) : Type 0 where
  name : List ℕ
  assigned : Option Assigned
  others : List Extension
  token : AllPass is_token_byte name
  valid : IsOptional assigned
  all : All IsExtension others
  is : t ≡ (name ++ print_optional assigned) ++ tail others

-- a value with its equals sign, and others
record AtEquals (t : List ℕ) : Type 0 where
  assigned : Assigned
  others : List Extension
  valid : IsAssigned assigned
  all : All IsExtension others
  is : t ≡ print_assigned assigned ++ tail others

-- a value, and others
record AtValue (t : List ℕ) : Type 0 where
  after : List ℕ
  value : Value
  others : List Extension
  blank : AllPass is_ows after
  valid : IsValue value
  all : All IsExtension others
  is : t ≡ (after ++ print_value value) ++ tail others

-- the rest of a quoted string, and others
record InQuoted (t : List ℕ) : Type 0 where
  pieces : List Piece
  others : List Extension
  valid : All IsPiece pieces
  all : All IsExtension others
  is : t ≡ (flat_map print_piece pieces ++ (34 ∷ [])) ++ tail others

-- the byte behind a backslash, and the rest of the quoted string
record InPair (t : List ℕ) : Type 0 where
  byte : ℕ
  behind : List ℕ
  valid : is_value_byte byte ≡ true
  rest : InQuoted behind
  is : t ≡ byte ∷ behind

abbrev Follows : Place → List ℕ → Type 0
Follows place.Word t = AtWord t
Follows place.End t = AreExtensions t
Follows place.BeforeSemicolon t = AtSemicolon t
Follows place.BeforeName t = AtName t
Follows place.Name t = InName t
Follows place.AfterName t = AtEquals t ⊎ AtSemicolon t
Follows place.BeforeValue t = AtValue t
Follows place.Quoted t = InQuoted t
Follows place.Escaped t = InPair t
Follows place.Wrong t = ⊥

-- a byte in front of what follows behind it
cons-is : (b c : ℕ) (t u : List ℕ) → b ≡ c → t ≡ u → b ∷ t ≡ c ∷ u
cons-is b c t u head rest = λ i. head i ∷ rest i

cons-pass : (test : ℕ → Bool) (b : ℕ) (w : List ℕ) → test b ≡ true → AllPass test w → AllPass test (b ∷ w)
cons-pass test b w is all = All-cons (λ x. IsTrue (test x)) b w is all

no-pass : (test : ℕ → Bool) → AllPass test []
no-pass test = All-nil (λ x. IsTrue (test x))

-- white space in front of an extension
blank-semicolon : (b : ℕ) (t : List ℕ) → is_ows b ≡ true → AtSemicolon t → AtSemicolon (b ∷ t)
blank-semicolon b t is f = record {
  one = record { before = b ∷ f.one.before; after = f.one.after; name = f.one.name; assigned = f.one.assigned };
  others = f.others;
  valid = record { before = cons-pass is_ows b f.one.before is f.valid.before; after = f.valid.after; name = f.valid.name; assigned = f.valid.assigned };
  all = f.all;
  is = ap (λ x. b ∷ x) f.is;
}

-- a semicolon in front of a name
semicolon-name : (b : ℕ) (t : List ℕ) → b ≡ 59 → AtName t → AtSemicolon (b ∷ t)
semicolon-name b t same f = record {
  one = record { before = []; after = f.after; name = f.name; assigned = f.assigned };
  others = f.others;
  valid = record { before = no-pass is_ows; after = f.blank; name = f.token; assigned = f.valid };
  all = f.all;
  is = cons-is b 59 t _ same f.is;
}

blank-equals : (b : ℕ) (t : List ℕ) → is_ows b ≡ true → AtEquals t → AtEquals (b ∷ t)
blank-equals b t is f = record {
  assigned = record { before = b ∷ f.assigned.before; after = f.assigned.after; value = f.assigned.value };
  others = f.others;
  valid = record { before = cons-pass is_ows b f.assigned.before is f.valid.before; after = f.valid.after; value = f.valid.value };
  all = f.all;
  is = ap (λ x. b ∷ x) f.is;
}

equals-value : (b : ℕ) (t : List ℕ) → b ≡ 61 → AtValue t → AtEquals (b ∷ t)
equals-value b t same f = record {
  assigned = record { before = []; after = f.after; value = f.value };
  others = f.others;
  valid = record { before = no-pass is_ows; after = f.blank; value = f.valid };
  all = f.all;
  is = cons-is b 61 t _ same f.is;
}

some-extensions : (t : List ℕ) → AtSemicolon t → AreExtensions t
some-extensions t f = (f.one ∷ f.others, All-cons IsExtension f.one f.others f.valid f.all, f.is)

word-over : (t : List ℕ) → AtSemicolon t → AtWord t
word-over t f = record { word = []; others = f.one ∷ f.others; valid = no-pass is_token_byte; all = All-cons IsExtension f.one f.others f.valid f.all; is = f.is }

name-over : (t : List ℕ) → AtSemicolon t → InName t
name-over t f = record {
  name = [];
  assigned = None;
  others = f.one ∷ f.others;
  token = no-pass is_token_byte;
  valid = tt;
  all = All-cons IsExtension f.one f.others f.valid f.all;
  is = f.is;
}

name-assigned : (t : List ℕ) → AtEquals t → InName t
name-assigned t f = record { name = []; assigned = Some f.assigned; others = f.others; token = no-pass is_token_byte; valid = f.valid; all = f.all; is = f.is }

one-plain : (b : ℕ) (t : List ℕ) → is_quoted_byte b ≡ true → InQuoted t → InQuoted (b ∷ t)
one-plain b t is f = record {
  pieces = plain b ∷ f.pieces;
  others = f.others;
  valid = All-cons IsPiece (plain b) f.pieces is f.valid;
  all = f.all;
  is = ap (λ x. b ∷ x) f.is;
}

one-pair : (b : ℕ) (t : List ℕ) → b ≡ 92 → InPair t → InQuoted (b ∷ t)
one-pair b t same f = record {
  pieces = escaped f.byte ∷ f.rest.pieces;
  others = f.rest.others;
  valid = All-cons IsPiece (escaped f.byte) f.rest.pieces f.valid f.rest.valid;
  all = f.rest.all;
  is = cons-is b 92 t _ same (f.is ∙ ap (λ x. f.byte ∷ x) f.rest.is);
}

-- what follows at the place behind a byte follows with the byte at the place before it
back : (p : Place) (b : ℕ) (s : Sign) → Means b s → (t : List ℕ) → Follows (place_behind p s) t → Follows p (b ∷ t)
back place.Word b sign.Token is t f = record { word = b ∷ f.word; others = f.others; valid = cons-pass is_token_byte b f.word is f.valid; all = f.all; is = ap (λ x. b ∷ x) f.is }
back place.Word b sign.Blank is t f = word-over (b ∷ t) (blank-semicolon b t is f)
back place.Word b sign.Semicolon is t f = word-over (b ∷ t) (semicolon-name b t is f)
back place.End b sign.Blank is t f = some-extensions (b ∷ t) (blank-semicolon b t is f)
back place.End b sign.Semicolon is t f = some-extensions (b ∷ t) (semicolon-name b t is f)
back place.BeforeSemicolon b sign.Blank is t f = blank-semicolon b t is f
back place.BeforeSemicolon b sign.Semicolon is t f = semicolon-name b t is f
back place.BeforeName b sign.Blank is t f = record {
  after = b ∷ f.after;
  name = f.name;
  assigned = f.assigned;
  others = f.others;
  blank = cons-pass is_ows b f.after is f.blank;
  token = f.token;
  valid = f.valid;
  all = f.all;
  is = ap (λ x. b ∷ x) f.is;
}
back place.BeforeName b sign.Token is t f = record {
  after = [];
  name = b ∷ f.name;
  assigned = f.assigned;
  others = f.others;
  blank = no-pass is_ows;
  token = (omega arith, cons-pass is_token_byte b f.name is f.token);
  valid = f.valid;
  all = f.all;
  is = ap (λ x. b ∷ x) f.is;
}
back place.Name b sign.Token is t f = record {
  name = b ∷ f.name;
  assigned = f.assigned;
  others = f.others;
  token = cons-pass is_token_byte b f.name is f.token;
  valid = f.valid;
  all = f.all;
  is = ap (λ x. b ∷ x) f.is;
}
back place.Name b sign.Blank is t (inl f) = name-assigned (b ∷ t) (blank-equals b t is f)
back place.Name b sign.Blank is t (inr f) = name-over (b ∷ t) (blank-semicolon b t is f)
back place.Name b sign.Semicolon is t f = name-over (b ∷ t) (semicolon-name b t is f)
back place.Name b sign.Equals is t f = name-assigned (b ∷ t) (equals-value b t is f)
back place.AfterName b sign.Blank is t (inl f) = inl (blank-equals b t is f)
back place.AfterName b sign.Blank is t (inr f) = inr (blank-semicolon b t is f)
back place.AfterName b sign.Semicolon is t f = inr (semicolon-name b t is f)
back place.AfterName b sign.Equals is t f = inl (equals-value b t is f)
back place.BeforeValue b sign.Blank is t f = record {
  after = b ∷ f.after;
  value = f.value;
  others = f.others;
  blank = cons-pass is_ows b f.after is f.blank;
  valid = f.valid;
  all = f.all;
  is = ap (λ x. b ∷ x) f.is;
}
back place.BeforeValue b sign.Token is t f = record {
  after = [];
  value = token (b ∷ f.word);
  others = f.others;
  blank = no-pass is_ows;
  valid = (omega arith, cons-pass is_token_byte b f.word is f.valid);
  all = f.all;
  is = ap (λ x. b ∷ x) f.is;
}
back place.BeforeValue b sign.Quote is t f = record {
  after = [];
  value = quoted f.pieces;
  others = f.others;
  blank = no-pass is_ows;
  valid = f.valid;
  all = f.all;
  is = cons-is b 34 t _ is f.is;
}
back place.Quoted b sign.Quote is t f = record { pieces = []; others = f.0; valid = All-nil IsPiece; all = f.1; is = cons-is b 34 t _ is f.2 }
back place.Quoted b sign.Backslash is t f = one-pair b t is f
back place.Quoted b sign.Token is t f = one-plain b t (stays-plain b sign.Token is refl) f
back place.Quoted b sign.Blank is t f = one-plain b t (stays-plain b sign.Blank is refl) f
back place.Quoted b sign.Semicolon is t f = one-plain b t (stays-plain b sign.Semicolon is refl) f
back place.Quoted b sign.Equals is t f = one-plain b t (stays-plain b sign.Equals is refl) f
back place.Quoted b sign.Other is t f = one-plain b t is f
back place.Escaped b sign.Token is t f = record { byte = b; behind = t; valid = stays-pair b sign.Token is refl; rest = f; is = refl }
back place.Escaped b sign.Blank is t f = record { byte = b; behind = t; valid = stays-pair b sign.Blank is refl; rest = f; is = refl }
back place.Escaped b sign.Semicolon is t f = record { byte = b; behind = t; valid = stays-pair b sign.Semicolon is refl; rest = f; is = refl }
back place.Escaped b sign.Equals is t f = record { byte = b; behind = t; valid = stays-pair b sign.Equals is refl; rest = f; is = refl }
back place.Escaped b sign.Quote is t f = record { byte = b; behind = t; valid = stays-pair b sign.Quote is refl; rest = f; is = refl }
back place.Escaped b sign.Backslash is t f = record { byte = b; behind = t; valid = stays-pair b sign.Backslash is refl; rest = f; is = refl }
back place.Escaped b sign.Other is t f = record { byte = b; behind = t; valid = stays-pair b sign.Other is refl; rest = f; is = refl }
back p b s is t f = absurd f

-- nothing may follow where a line may end
at-end : (p : Place) → may_end p ≡ true → Follows p []
at-end place.Word e = record { word = []; others = []; valid = no-pass is_token_byte; all = All-nil IsExtension; is = refl }
at-end place.End e = ([], All-nil IsExtension, refl)
at-end place.Name e = record { name = []; assigned = None; others = []; token = no-pass is_token_byte; valid = tt; all = All-nil IsExtension; is = refl }
at-end p e = cc

-- a reader that ends well has read what may follow
sound : (p : Place) (t : List ℕ) → ends_well p t ≡ true → Follows p t
sound p [] e = at-end p e
sound p (b ∷ t) e = back p b (sign_of b) (means b) t (sound (place_behind p (sign_of b)) t e)

-- ---- a reader of valid bytes

-- bytes that keep a reader at a place
stays : (p : Place) (s : Sign) (test : ℕ → Bool) → place_behind p s ≡ p → ((b : ℕ) → test b ≡ true → sign_of b ≡ s)
    → (w r : List ℕ) → AllPass test w → ends_well p (w ++ r) ≡ ends_well p r
stays p s test same told [] r all = refl
stays p s test same told (b ∷ w) r all =
    let here : place_behind p (sign_of b) ≡ p = ap (place_behind p) (told b (All-head (λ x. IsTrue (test x)) b w all)) ∙ same in
    ap (λ q. ends_well q (w ++ r)) here ∙ stays p s test same told w r (All-tail (λ x. IsTrue (test x)) b w all)

-- white space, and then a byte
through : (p q n : Place) (b : ℕ) → place_behind p sign.Blank ≡ q → place_behind q sign.Blank ≡ q → place_behind p (sign_of b) ≡ n → place_behind q (sign_of b) ≡ n
    → (w r : List ℕ) → AllPass is_ows w → ends_well p (w ++ (b ∷ r)) ≡ ends_well n r
through p q n b first same at_once later [] r all = ap (λ x. ends_well x r) at_once
through p q n b first same at_once later (c ∷ w) r all =
    let here : place_behind p (sign_of c) ≡ q = ap (place_behind p) (blank-sign c (All-head (λ x. IsTrue (is_ows x)) c w all)) ∙ first in
    ap (λ x. ends_well x (w ++ (b ∷ r))) here ∙ through q q n b same same later later w r (All-tail (λ x. IsTrue (is_ows x)) c w all)

-- a token in front of which white space may be
token-through : (p n : Place) → place_behind p sign.Blank ≡ p → place_behind p sign.Token ≡ n → place_behind n sign.Token ≡ n
    → (w name r : List ℕ) → AllPass is_ows w → IsToken name → ends_well p (w ++ (name ++ r)) ≡ ends_well n r
token-through p n blank first same w [] r all is = absurd (omega (arith, is.0))
token-through p n blank first same w (b ∷ name) r all is =
    let told : sign_of b ≡ sign.Token = token-sign b (All-head (λ x. IsTrue (is_token_byte x)) b name is.1) in
    let here : place_behind p (sign_of b) ≡ n = ap (place_behind p) told ∙ first in
    through p p n b blank blank here here w (name ++ r) all ∙ stays n sign.Token is_token_byte same token-sign name r (All-tail (λ x. IsTrue (is_token_byte x)) b name is.1)

-- a piece of a quoted string
piece-stays : (x : Piece) (r : List ℕ) → IsPiece x → ends_well place.Quoted (print_piece x ++ r) ≡ ends_well place.Quoted r
piece-stays (plain b) r is = ap (λ p. ends_well p r) (plain-stays b (sign_of b) (means b) is)
piece-stays (escaped b) r is =
    let slash : place_behind place.Quoted (sign_of 92) ≡ place.Escaped = ap (place_behind place.Quoted) backslash-sign in
    ap (λ p. ends_well (place_behind p (sign_of b)) r) slash ∙ ap (λ p. ends_well p r) (pair-stays b (sign_of b) (means b) is)

pieces-stay : (xs : List Piece) (r : List ℕ) → All IsPiece xs → ends_well place.Quoted (flat_map print_piece xs ++ r) ≡ ends_well place.Quoted r
pieces-stay [] r all = refl
pieces-stay (x ∷ xs) r all =
    ap (ends_well place.Quoted) (append_assoc (print_piece x) (flat_map print_piece xs) r)
    ∙ piece-stays x (flat_map print_piece xs ++ r) (All-head IsPiece x xs all) ∙ pieces-stay xs r (All-tail IsPiece x xs all)

-- a line may end in these bytes, after each part of an extension
record EndsWell (r : List ℕ) : Type 0 where
  word : ends_well place.Word r ≡ true
  end : ends_well place.End r ≡ true
  name : ends_well place.Name r ≡ true

value-ends : (v : Value) (w r : List ℕ) → AllPass is_ows w → IsValue v → EndsWell r → ends_well place.BeforeValue (w ++ (print_value v ++ r)) ≡ true
value-ends (token bytes) w r all is ends = token-through place.BeforeValue place.Word refl refl refl w bytes r all is ∙ ends.word
value-ends (quoted pieces) w r all is ends =
    let first : place_behind place.BeforeValue (sign_of 34) ≡ place.Quoted = ap (place_behind place.BeforeValue) quote-sign in
    let last : place_behind place.Quoted (sign_of 34) ≡ place.End = ap (place_behind place.Quoted) quote-sign in
    ap (λ x. ends_well place.BeforeValue (w ++ (34 ∷ x))) (append_assoc (flat_map print_piece pieces) (34 ∷ []) r)
    ∙ through place.BeforeValue place.BeforeValue place.Quoted 34 refl refl first first w (flat_map print_piece pieces ++ (34 ∷ r)) all
    ∙ pieces-stay pieces (34 ∷ r) is ∙ ap (λ p. ends_well p r) last ∙ ends.end

assigned-ends : (o : Option Assigned) (r : List ℕ) → IsOptional o → EndsWell r → ends_well place.Name (print_optional o ++ r) ≡ true
assigned-ends None r is ends = ends.name
assigned-ends (Some a) r is ends =
    let first : place_behind place.Name (sign_of 61) ≡ place.BeforeValue = ap (place_behind place.Name) equals-sign in
    let later : place_behind place.AfterName (sign_of 61) ≡ place.BeforeValue = ap (place_behind place.AfterName) equals-sign in
    let parts : print_assigned a ++ r ≡ a.before ++ (61 ∷ (a.after ++ (print_value a.value ++ r))) =
    append_assoc a.before (61 ∷ (a.after ++ print_value a.value)) r ∙ ap (λ x. a.before ++ (61 ∷ x)) (append_assoc a.after (print_value a.value) r) in
    ap (ends_well place.Name) parts
    ∙ through place.Name place.AfterName place.BeforeValue 61 refl refl first later a.before (a.after ++ (print_value a.value ++ r)) is.before
    ∙ value-ends a.value a.after r is.after is.value ends

-- an extension, from a place where it may begin
one-ends : (p q : Place) → place_behind p sign.Blank ≡ q → place_behind q sign.Blank ≡ q → place_behind p sign.Semicolon ≡ place.BeforeName → place_behind q sign.Semicolon ≡ place.BeforeName
    → (e : Extension) (r : List ℕ) → IsExtension e → EndsWell r → ends_well p (print_one e ++ r) ≡ true
one-ends p q blank same first later e r is ends =
    let parts : print_one e ++ r ≡ e.before ++ (59 ∷ (e.after ++ (e.name ++ (print_optional e.assigned ++ r)))) =
    append_assoc e.before (59 ∷ (e.after ++ (e.name ++ print_optional e.assigned))) r
    ∙ ap (λ x. e.before ++ (59 ∷ x)) (append_assoc e.after (e.name ++ print_optional e.assigned) r ∙ ap (λ x. e.after ++ x) (append_assoc e.name (print_optional e.assigned) r)) in
    ap (ends_well p) parts
    ∙ through p q place.BeforeName 59 blank same (ap (place_behind p) semicolon-sign ∙ first) (ap (place_behind q) semicolon-sign ∙ later) e.before
    (e.after ++ (e.name ++ (print_optional e.assigned ++ r))) is.before
    ∙ token-through place.BeforeName place.Name refl refl refl e.after e.name (print_optional e.assigned ++ r) is.after is.name
    ∙ assigned-ends e.assigned r is.assigned ends

all-end : (es : List Extension) → All IsExtension es → EndsWell (tail es)
all-end [] all = record { word = refl; end = refl; name = refl }
all-end (e ∷ es) all =
    let is = All-head IsExtension e es all in
    let ends = all-end es (All-tail IsExtension e es all) in
    record {
      word = one-ends place.Word place.BeforeSemicolon refl refl refl refl e (tail es) is ends;
      end = one-ends place.End place.BeforeSemicolon refl refl refl refl e (tail es) is ends;
      name = one-ends place.Name place.AfterName refl refl refl refl e (tail es) is ends;
    }

-- ---- the line of a chunk

-- the bytes behind a size are read as those behind a quoted string are
behind-same : (pad : List ℕ) (e : Option (List ℕ)) → AllPass is_ows pad → ends_well place.Word (pad ++ print_extension e) ≡ ends_well place.End (pad ++ print_extension e)
behind-same [] None all = refl
behind-same [] (Some t) all = ap (λ s. ends_well (place_behind place.Word s) t) semicolon-sign ∙ ap (λ s. ends_well (place_behind place.End s) t) (sym semicolon-sign)
behind-same (b ∷ pad) e all =
    let told = blank-sign b (All-head (λ x. IsTrue (is_ows x)) b pad all) in
    ap (λ s. ends_well (place_behind place.Word s) (pad ++ print_extension e)) told ∙ ap (λ s. ends_well (place_behind place.End s) (pad ++ print_extension e)) (sym told)

-- a line is read well exactly if extensions follow its size
pub extended : (l : ChunkLine) → IsChunkLine l → (line : List ℕ) → line ≡ l.digits ++ behind_size l → ends_well place.Word line ≡ true ↔ AreExtensions (behind_size l)
extended l is line parts =
    let size : ends_well place.Word line ≡ ends_well place.Word (behind_size l) =
    ap (ends_well place.Word) parts ∙ stays place.Word sign.Token is_ascii_hexdigit refl (λ b hex. token-sign b (hex-token b hex)) l.digits (behind_size l) is.digits.2 in
    let same = behind-same l.pad l.extension is.pad in (
      λ well. sound place.End (behind_size l) (sym same ∙ sym size ∙ well),
      λ ext. size ∙ ap (ends_well place.Word) ext.2 ∙ (all-end ext.0 ext.1).word,
    )

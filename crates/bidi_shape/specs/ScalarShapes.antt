-- The shapes of strings, Booleans and whole numbers. After RFC 8259, 3, 6 and 7.
use Rattle.std.proofs.Common.{◌≡◌, pos, Bool, String, string_bytes, refl, zero-le}
use Rattle.std.specs.declared.alloc.Global.{Global}
use Rattle.bidi_tree.specs.Node as tree
use Rattle.bidi_tree.specs.declared.number.JsUint.{JsUint}
use Rattle.bidi_tree.specs.declared.number.JsInt.{JsInt}
use Rattle.bidi_shape.specs.Term.{text, bool, js_uint, js_int}
use Rattle.bidi_shape.specs.Fits.{fits_text, fits_bool, fits_js_uint, fits_js_int}
use Rattle.bidi_shape.specs.KindLaws.{text_one, bool_one, uint_one, int_one}
use Rattle.bidi_shape.specs.Value.{ShapeOf}

-- the shape of strings: the tree of a string has the same bytes
abbrev pub string_shape : ShapeOf (String Global)
string_shape = record {
  rule = text;
  tree_of = λ s. tree.text (string_bytes s);
  well = λ s. Unit {0};
  same = λ s t. string_bytes s ≡ string_bytes t;
  fits = λ s w. fits_text (string_bytes s);
  one_value = λ s t v w e. text_one (string_bytes s) (string_bytes t) e;
  deepest = 0;
  whole = λ s w. (refl, zero-le);
}

-- the shape of Booleans: the tree of a Boolean is that Boolean
abbrev pub bool_shape : ShapeOf Bool
bool_shape = record {
  rule = bool;
  tree_of = tree.boolean;
  well = λ b. Unit {0};
  same = λ b c. b ≡ c;
  fits = λ b w. fits_bool b;
  one_value = λ b c v w e. bool_one b c e;
  deepest = 0;
  whole = λ b w. (refl, zero-le);
}

-- the shape of js-uints: the tree of a js-uint is its number
abbrev pub js_uint_shape : ShapeOf JsUint
js_uint_shape = record {
  rule = js_uint;
  tree_of = λ n. tree.whole (pos n.value);
  well = λ n. Unit {0};
  same = λ m n. m.value ≡ n.value;
  fits = λ n w. fits_js_uint n.value n.in_range;
  one_value = λ m n v w e. uint_one m.value n.value e;
  deepest = 0;
  whole = λ m w. (refl, zero-le);
}

-- the shape of js-ints: the tree of a js-int is its number
abbrev pub js_int_shape : ShapeOf JsInt
js_int_shape = record {
  rule = js_int;
  tree_of = λ n. tree.whole n.value;
  well = λ n. Unit {0};
  same = λ m n. m.value ≡ n.value;
  fits = λ n w. fits_js_int n.value n.in_range;
  one_value = λ m n v w e. int_one m.value n.value e;
  deepest = 0;
  whole = λ m w. (refl, zero-le);
}

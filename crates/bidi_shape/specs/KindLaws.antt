-- Laws of trees of one kind: no two values have the same tree. After RFC 8259, 3.
use Rattle.std.specs.Prelude.{◌≡◌, ℕ, ℤ, pos, List, Bool, Some, None, refl}
use Rattle.bidi_tree.specs.Node as tree
use Rattle.bidi_tree.specs.Node.{Node}
use Rattle.bidi_tree.specs.Kind.{text_in}
use Rattle.bidi_shape.specs.Term.{text}
use Rattle.bidi_shape.specs.Fits.{Fits, fits_text}

pub text_one : (s t : List ℕ) → tree.text s ≡ tree.text t → s ≡ t
text_one s t e = cc

pub bool_one : (b c : Bool) → tree.boolean b ≡ tree.boolean c → b ≡ c
bool_one b c e = cc

pub uint_one : (m n : ℕ) → tree.whole (pos m) ≡ tree.whole (pos n) → m ≡ n
uint_one m n e = cc

pub int_one : (y z : ℤ) → tree.whole y ≡ tree.whole z → y ≡ z
int_one y z e = cc

-- a tree whose string is s is the tree of s
pub is_text : (t : Node) (s : List ℕ) → Some s ≡ text_in t → tree.text s ≡ t
is_text tree.null s e = cc
is_text (tree.boolean b) s e = cc
is_text (tree.whole z) s e = cc
is_text tree.odd s e = cc
is_text (tree.text u) s e = cc
is_text (tree.list ns) s e = cc
is_text (tree.map ms) s e = cc

fitting : {t : Node} → Fits t text → (s : List ℕ) × (text_in t ≡ Some s)
fitting (fits_text s) = (s, refl)

-- a tree that is no string does not fit `text`
pub no_text : (t : Node) → None ≡ text_in t → Fits t text → ⊥
no_text t e f = let p = fitting f in let q : text_in t ≡ Some p.0 = p.1 in cc

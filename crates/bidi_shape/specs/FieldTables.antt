-- The table of each kind of member of an object type, and of the members that no row names. After RFC 8610, 3.2 and 3.5.
use Rattle.std.proofs.Common.{◌≡◌, max, [], ◌∷◌, Some, option_map, refl, zero-le, arith}
use Rattle.std.specs.Prelude.{IfSome}
use Rattle.bidi_tree.specs.Node as tree
use Rattle.bidi_tree.specs.Node.{no_members}
use Rattle.bidi_shape.specs.Term.{required, optional, extensible, closed, exactly, no_more, row}
use Rattle.bidi_shape.specs.Fits.{fits_exactly}
use Rattle.bidi_shape.specs.Value.{ShapeOf}
use Rattle.bidi_shape.specs.ValueLaws.{others_of, SameOption, optional_fits, optional_one}
use Rattle.bidi_shape.specs.WholeLaws.{whole_within, parts_within, optional_whole}
use Rattle.bidi_shape.specs.Table.{Table, head, tail, same_head, same_tail, same_some}
use Rattle.bidi_shape.specs.declared.ext.Ext.{Ext}
use Rattle.bidi_shape.specs.declared.fields.Required.{Required}
use Rattle.bidi_shape.specs.declared.fields.Optional.{Optional}
use Rattle.bidi_shape.specs.declared.fields.Literal.{Literal}
use Rattle.bidi_shape.specs.declared.fields.Closed.{Closed}

-- the table of a required member, followed by other members
abbrev pub required_table : {X F : Type 0} → ShapeOf X → Table F → Table (Required X F)
required_table s t = record {
  rows = λ ks ws. row (head ks) required s.rule (t.rows (tail ks) ws);
  openness = t.openness;
  parts = λ ws f. Some (s.tree_of f.0) ∷ t.parts ws f.1;
  others = λ f. t.others f.1;
  well = λ f. s.well f.0 × t.well f.1;
  same = λ f g. s.same f.0 g.0 × t.same f.1 g.1;
  parts_fit = λ ks ws f w. (s.fits f.0 w.0, t.parts_fit (tail ks) ws f.1 w.1);
  one = λ ws f g a b e o. (s.one_value f.0 g.0 a.0 b.0 (same_some (same_head e)), t.one ws f.1 g.1 a.1 b.1 (same_tail e) o);
  deepest = max s.deepest t.deepest;
  whole =
      λ ws f w. (
        whole_within (s.tree_of f.0) s.deepest (max s.deepest t.deepest) (omega arith) (s.whole f.0 w.0),
        parts_within (t.parts ws f.1) t.deepest (max s.deepest t.deepest) (omega arith) (t.whole ws f.1 w.1),
      );
}

-- the table of an optional member, followed by other members
abbrev pub optional_table : {X F : Type 0} → ShapeOf X → Table F → Table (Optional X F)
optional_table s t = record {
  rows = λ ks ws. row (head ks) optional s.rule (t.rows (tail ks) ws);
  openness = t.openness;
  parts = λ ws f. option_map s.tree_of f.0 ∷ t.parts ws f.1;
  others = λ f. t.others f.1;
  well = λ f. IfSome f.0 s.well × t.well f.1;
  same = λ f g. SameOption s.same f.0 g.0 × t.same f.1 g.1;
  parts_fit = λ ks ws f w. (optional_fits s.tree_of s.well s.rule s.fits f.0 w.0, t.parts_fit (tail ks) ws f.1 w.1);
  one = λ ws f g a b e o. (optional_one s.tree_of s.well s.same s.one_value f.0 g.0 a.0 b.0 (same_head e), t.one ws f.1 g.1 a.1 b.1 (same_tail e) o);
  deepest = max s.deepest t.deepest;
  whole =
      λ ws f w. optional_whole s.tree_of s.well (max s.deepest t.deepest)
      (λ v x. whole_within (s.tree_of v) s.deepest (max s.deepest t.deepest) (omega arith) (s.whole v x)) f.0 w.0 (t.parts ws f.1)
      (parts_within (t.parts ws f.1) t.deepest (max s.deepest t.deepest) (omega arith) (t.whole ws f.1 w.1));
}

-- the table of a member whose value is one given string, followed by other members
abbrev pub literal_table : {F : Type 0} → Table F → Table (Literal F)
literal_table t = record {
  rows = λ ks ws. row (head ks) required (exactly (head ws)) (t.rows (tail ks) (tail ws));
  openness = t.openness;
  parts = λ ws f. Some (tree.text (head ws)) ∷ t.parts (tail ws) f.0;
  others = λ f. t.others f.0;
  well = λ f. t.well f.0;
  same = λ f g. t.same f.0 g.0;
  parts_fit = λ ks ws f w. (fits_exactly (head ws), t.parts_fit (tail ks) (tail ws) f.0 w);
  one = λ ws f g a b e o. t.one (tail ws) f.0 g.0 a b (same_tail e) o;
  deepest = t.deepest;
  whole = λ ws f w. ((refl, zero-le), t.whole (tail ws) f.0 w);
}

-- the table that ends an extensible object type: any other members
abbrev pub ext_table : Table Ext
ext_table = record {
  rows = λ ks ws. no_more;
  openness = extensible;
  parts = λ ws e. [];
  others = others_of;
  well = λ e. Unit {0};
  same = λ e f. others_of e ≡ others_of f;
  parts_fit = λ ks ws e w. tt;
  one = λ ws e f a b p o. o;
  deepest = 0;
  whole = λ ws e w. tt;
}

-- the table that ends a closed object type: no other members
abbrev pub closed_table : Table Closed
closed_table = record {
  rows = λ ks ws. no_more;
  openness = closed;
  parts = λ ws e. [];
  others = λ e. no_members;
  well = λ e. Unit {0};
  same = λ e f. Unit {0};
  parts_fit = λ ks ws e w. tt;
  one = λ ws e f a b p o. tt;
  deepest = 0;
  whole = λ ws e w. tt;
}

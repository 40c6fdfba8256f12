-- Values that may hold others: their trees, when they are well and the same, and their laws.
use Rattle.std.proofs.Common.{◌≡◌, ◌≤◌, ◌⊎◌, inl, inr, ℕ, List, false, ◌||◌, refl, sym, subst, arith}
use Rattle.std.proofs.lemmas.Bool.{or_from}
use Rattle.bidi_tree.specs.Node as node
use Rattle.bidi_tree.specs.Node.{Node, Items, no_items, item, Members, no_members, member, get_member}
use Rattle.bidi_tree.specs.Node.{levels, items_levels, members_levels, has_odd, items_have_odd}
use Rattle.bidi_shape.specs.Name.{Name}
use Rattle.bidi_shape.specs.Term.{Term, Rows, Openness, map_of, text, either, rule, capped, list_of, pair_of}
use Rattle.bidi_shape.specs.Profile.{term_of}
use Rattle.bidi_shape.specs.Fits.{Fits, AllFit, no_item, an_item, fits_text, fits_list, fits_pair, fits_first, fits_second, fits_rule, fits_capped}
use Rattle.bidi_shape.specs.Value.{ShapeOf}
use Rattle.bidi_shape.proofs.FitsLemmas.{map_kind, rule_inside, capped_inside}
use Rattle.bidi_shape.specs.InnerLaws.{same_items, first_item, other_items}
use Rattle.bidi_values.specs.SiblingLaws.{SiblingsOf, around, holding, around_fits, around_one, around_no_odd, value_levels}
use Rattle.bidi_values.specs.Content.{Content, plain, list, pairs, Contents, no_values, value, Pairs, no_pairs, pair, Key, value_key, text_key}
use Rattle.bidi_shape.specs.Limits.{most_levels}

-- ---- rules

-- a rule of values with at most 60 levels, each of which is plain, a list of values, or a list of pairs
-- (a key is a value or a string, and no tree is of two of the three kinds)
pub record NestingOf (P L M : Type 0) : Type 1 where
  pub plain : ShapeOf P
  -- what stands beside a list of values, and beside a list of pairs
  pub list : SiblingsOf L
  pub pairs : SiblingsOf M
  pub values : Name
  pub pair_rule : Name
  -- the rule's alternatives
  pub inside : Term
  pub is_capped : term_of values ≡ capped inside
  pub is_pair : term_of pair_rule ≡ pair_of (either (rule values) text) (rule values)
  -- they are these three
  pub plain_fits : (t : Node) → Fits t plain.rule → Fits t inside
  pub list_fits : (t : Node) → Fits t (holding list (list_of 0 (rule values))) → Fits t inside
  pub pairs_fit : (t : Node) → Fits t (holding pairs (list_of 0 (rule pair_rule))) → Fits t inside
  pub one_of : (t : Node) → Fits t inside
      → Fits t plain.rule ⊎ (Fits t (holding list (list_of 0 (rule values))) ⊎ Fits t (holding pairs (list_of 0 (rule pair_rule))))
  -- and no tree is of two of them, nor a text
  pub list_not_plain : (h : L) (t : Node) → list.well h → Fits (around list h t) plain.rule → ⊥
  pub pairs_not_plain : (h : M) (t : Node) → pairs.well h → Fits (around pairs h t) plain.rule → ⊥
  pub list_not_pairs : (h : L) (t : Node) → list.well h → Fits (around list h t) (holding pairs (list_of 0 (rule pair_rule))) → ⊥
  pub pairs_not_list : (h : M) (t : Node) → pairs.well h → Fits (around pairs h t) (holding list (list_of 0 (rule values))) → ⊥
  pub text_not_plain : (k : List ℕ) → Fits (node.text k) plain.rule → ⊥

-- ---- trees

-- the list of a key and a value
abbrev pub pair_node : Node → Node → Node
pair_node k v = node.list (item k (item v no_items))

abbrev mutual
  -- the tree of a value: the plain value's own tree, or the map around the list of trees
  pub value_tree : {P L M : Type 0} → NestingOf P L M → Content P L M → Node
  value_tree n (plain p) = n.plain.tree_of p
  value_tree n (list h vs) = around n.list h (node.list (values_tree n vs))
  value_tree n (pairs h ps) = around n.pairs h (node.list (pairs_tree n ps))

  -- the trees of the values of a list
  pub values_tree : {P L M : Type 0} → NestingOf P L M → Contents P L M → Items
  values_tree n no_values = no_items
  values_tree n (value v vs) = item (value_tree n v) (values_tree n vs)

  -- the trees of the pairs of a list, each a list of two
  pub pairs_tree : {P L M : Type 0} → NestingOf P L M → Pairs P L M → Items
  pairs_tree n no_pairs = no_items
  pairs_tree n (pair k v ps) = item (pair_node (key_tree n k) (value_tree n v)) (pairs_tree n ps)

  -- the tree of a key: the tree of the value, or the string
  pub key_tree : {P L M : Type 0} → NestingOf P L M → Key P L M → Node
  key_tree n (value_key v) = value_tree n v
  key_tree n (text_key k) = node.text k

-- the tree of a pair: the list of the trees of its key and its value
abbrev pub a_pair_tree : {P L M : Type 0} → NestingOf P L M → Key P L M × Content P L M → Node
a_pair_tree n p = pair_node (key_tree n p.0) (value_tree n p.1)

abbrev mutual
  -- each plain value in it is well-formed, and so are the members beside each list; its levels are not counted
  pub PartsAreWell : {P L M : Type 0} → NestingOf P L M → Content P L M → Type 0
  PartsAreWell n (plain p) = n.plain.well p
  PartsAreWell n (list h vs) = n.list.well h × ValuesAreWell n vs
  PartsAreWell n (pairs h ps) = n.pairs.well h × PairsAreWell n ps

  -- the parts of each value of a list are well-formed
  pub ValuesAreWell : {P L M : Type 0} → NestingOf P L M → Contents P L M → Type 0
  ValuesAreWell n no_values = Unit {0}
  ValuesAreWell n (value v vs) = PartsAreWell n v × ValuesAreWell n vs

  -- the parts of each key and each value of a list of pairs are well-formed
  pub PairsAreWell : {P L M : Type 0} → NestingOf P L M → Pairs P L M → Type 0
  PairsAreWell n no_pairs = Unit {0}
  PairsAreWell n (pair k v ps) = (KeyIsWell n k × PartsAreWell n v) × PairsAreWell n ps

  -- the parts of a key are well-formed
  pub KeyIsWell : {P L M : Type 0} → NestingOf P L M → Key P L M → Type 0
  KeyIsWell n (value_key v) = PartsAreWell n v
  KeyIsWell n (text_key k) = Unit {0}

-- the parts of the key and the value of a pair are well-formed
abbrev pub PairIsWell : {P L M : Type 0} → NestingOf P L M → Key P L M × Content P L M → Type 0
PairIsWell n p = KeyIsWell n p.0 × PartsAreWell n p.1

abbrev mutual
  -- both are equal part by part, in the same order
  pub Same : {P L M : Type 0} → NestingOf P L M → Content P L M → Content P L M → Type 0
  Same n (plain p) (plain q) = n.plain.same p q
  Same n (list h vs) (list i ws) = n.list.same h i × SameValues n vs ws
  Same n (pairs h ps) (pairs i qs) = n.pairs.same h i × SamePairs n ps qs
  Same n v w = ⊥

  -- both lists have equal values in the same order
  pub SameValues : {P L M : Type 0} → NestingOf P L M → Contents P L M → Contents P L M → Type 0
  SameValues n no_values no_values = Unit {0}
  SameValues n (value v vs) (value w ws) = Same n v w × SameValues n vs ws
  SameValues n vs ws = ⊥

  -- both lists have equal pairs in the same order
  pub SamePairs : {P L M : Type 0} → NestingOf P L M → Pairs P L M → Pairs P L M → Type 0
  SamePairs n no_pairs no_pairs = Unit {0}
  SamePairs n (pair j v ps) (pair k w qs) = SameKey n j k × (Same n v w × SamePairs n ps qs)
  SamePairs n ps qs = ⊥

  -- both keys are equal values, or the same string
  pub SameKey : {P L M : Type 0} → NestingOf P L M → Key P L M → Key P L M → Type 0
  SameKey n (value_key v) (value_key w) = Same n v w
  SameKey n (text_key j) (text_key k) = j ≡ k
  SameKey n j k = ⊥

text_no_map : {k : List ℕ} {rs : Rows} {o : Openness} → Fits (node.text k) (map_of rs o) → ⊥
text_no_map f = let e = (map_kind f).1 in cc

-- equal trees of pairs have an equal key and an equal value
pub same_pair : {x y u v : Node} → pair_node x u ≡ pair_node y v → (x ≡ y) × (u ≡ v)
same_pair e = (cc, cc)

-- a value is well-formed: each part is, and its tree has at most 60 levels
-- example: 30 arrays within each other, the innermost empty, are well; 31 are not
pub record IsWell {P L M : Type 0} (n : NestingOf P L M) (v : Content P L M) : Type 0 where
  pub parts : PartsAreWell n v
  pub cap : levels (value_tree n v) ≤ most_levels

module _ {P L M : Type 0} (n : NestingOf P L M) where
  -- a tree of at most 60 levels that fits the alternatives fits the rule
  pub value_fits_rule : (t : Node) → levels t ≤ most_levels → Fits t n.inside → Fits t (rule n.values)
  value_fits_rule t h f = fits_rule t n.values (subst (Fits t) (sym n.is_capped) (fits_capped t n.inside h f))

  -- a tree that fits the rule fits its alternatives
  pub value_fits_inside : (t : Node) → Fits t (rule n.values) → Fits t n.inside
  value_fits_inside t f = (capped_inside (subst (Fits t) n.is_capped (rule_inside f))).1

  mutual
    -- the tree of a value with well-formed parts fits the rule, if it has at most 60 levels
    pub value_fits : (v : Content P L M) → PartsAreWell n v → levels (value_tree n v) ≤ most_levels → Fits (value_tree n v) (rule n.values)
    value_fits (plain p) w h = value_fits_rule (n.plain.tree_of p) h (n.plain_fits (n.plain.tree_of p) (n.plain.fits p w))
    value_fits (list i vs) w h =
        let below = value_levels n.list i (node.list (values_tree n vs)) in
        value_fits_rule (value_tree n (list i vs)) h
        (n.list_fits (value_tree n (list i vs)) (around_fits n.list i (node.list (values_tree n vs)) (list_of 0 (rule n.values)) w.0
        (fits_list (values_tree n vs) 0 (rule n.values) (omega arith) (values_fit vs w.1 (omega (arith, below, h))))))
    value_fits (pairs i ps) w h =
        let below = value_levels n.pairs i (node.list (pairs_tree n ps)) in
        value_fits_rule (value_tree n (pairs i ps)) h
        (n.pairs_fit (value_tree n (pairs i ps)) (around_fits n.pairs i (node.list (pairs_tree n ps)) (list_of 0 (rule n.pair_rule)) w.0
        (fits_list (pairs_tree n ps) 0 (rule n.pair_rule) (omega arith) (all_pairs_fit ps w.1 (omega (arith, below, h))))))

    -- the tree of each value of a list fits the rule
    pub values_fit : (vs : Contents P L M) → ValuesAreWell n vs → items_levels (values_tree n vs) ≤ most_levels → AllFit (values_tree n vs) (rule n.values)
    values_fit no_values w h = no_item (rule n.values)
    values_fit (value v vs) w h = an_item (value_tree n v) (values_tree n vs) (rule n.values) (value_fits v w.0 (omega arith)) (values_fit vs w.1 (omega arith))

    -- the tree of each pair of a list fits the rule of pairs
    pub all_pairs_fit : (ps : Pairs P L M) → PairsAreWell n ps → items_levels (pairs_tree n ps) ≤ most_levels → AllFit (pairs_tree n ps) (rule n.pair_rule)
    all_pairs_fit no_pairs w h = no_item (rule n.pair_rule)
    all_pairs_fit (pair k v ps) w h =
        let t = pair_node (key_tree n k) (value_tree n v) in
        an_item t (pairs_tree n ps) (rule n.pair_rule)
        (fits_rule t n.pair_rule (subst (Fits t) (sym n.is_pair)
        (fits_pair (key_tree n k) (value_tree n v) (either (rule n.values) text) (rule n.values) (key_fits k w.0.0 (omega arith))
        (value_fits v w.0.1 (omega arith)))))
        (all_pairs_fit ps w.1 (omega arith))

    -- the tree of a key fits the rule, or is a string
    pub key_fits : (k : Key P L M) → KeyIsWell n k → levels (key_tree n k) ≤ most_levels → Fits (key_tree n k) (either (rule n.values) text)
    key_fits (value_key v) w h = fits_first (value_tree n v) (rule n.values) text (value_fits v w h)
    key_fits (text_key k) w h = fits_second (node.text k) (rule n.values) text (fits_text k)

  list_fits_holding : (i : L) (vs : Contents P L M) → PartsAreWell n (list i vs)
      → levels (value_tree n (list i vs)) ≤ most_levels → Fits (value_tree n (list i vs)) (holding n.list (list_of 0 (rule n.values)))
  list_fits_holding i vs w h =
      let below = value_levels n.list i (node.list (values_tree n vs)) in
      around_fits n.list i (node.list (values_tree n vs)) (list_of 0 (rule n.values)) w.0
      (fits_list (values_tree n vs) 0 (rule n.values) (omega arith) (values_fit vs w.1 (omega (arith, below, h))))

  -- ---- one tree, one value

  text_not_value : (k : List ℕ) → Fits (node.text k) (rule n.values) → ⊥
  text_not_value k f = text_of_none (n.one_of (node.text k) (value_fits_inside (node.text k) f))
    where
      text_of_none : Fits (node.text k) n.plain.rule
          ⊎ (Fits (node.text k) (holding n.list (list_of 0 (rule n.values))) ⊎ Fits (node.text k) (holding n.pairs (list_of 0 (rule n.pair_rule)))) → ⊥
      text_of_none (inl f) = n.text_not_plain k f
      text_of_none (inr (inl f)) = text_no_map f
      text_of_none (inr (inr f)) = text_no_map f

  mutual
    -- two values with the same tree are equal
    pub value_one : (v w : Content P L M) → PartsAreWell n v → PartsAreWell n w → levels (value_tree n v) ≤ most_levels → levels (value_tree n w) ≤ most_levels
        → value_tree n v ≡ value_tree n w → Same n v w
    value_one (plain p) (plain q) a b g h e = n.plain.one_value p q a b e
    value_one (plain p) (list i ws) a b g h e = n.list_not_plain i (node.list (values_tree n ws)) b.0 (subst (λ t. Fits t n.plain.rule) e (n.plain.fits p a))
    value_one (plain p) (pairs i qs) a b g h e = n.pairs_not_plain i (node.list (pairs_tree n qs)) b.0 (subst (λ t. Fits t n.plain.rule) e (n.plain.fits p a))
    value_one (list i vs) (plain q) a b g h e =
        n.list_not_plain i (node.list (values_tree n vs)) a.0 (subst (λ t. Fits t n.plain.rule) (sym e) (n.plain.fits q b))
    value_one (list i vs) (list j ws) a b g h e =
        let one = around_one n.list i j (node.list (values_tree n vs)) (node.list (values_tree n ws)) a.0 b.0 e in
        let inside : values_tree n vs ≡ values_tree n ws = same_items one.1 in
        let c = value_levels n.list i (node.list (values_tree n vs)) in
        let d = value_levels n.list j (node.list (values_tree n ws)) in
        (one.0, values_one vs ws a.1 b.1 (omega (arith, c, g)) (omega (arith, d, h)) inside)
    value_one (list i vs) (pairs j qs) a b g h e =
        n.pairs_not_list j (node.list (pairs_tree n qs)) b.0 (subst (λ t. Fits t (holding n.list (list_of 0 (rule n.values)))) e (list_fits_holding i vs a g))
    value_one (pairs i ps) (plain q) a b g h e =
        n.pairs_not_plain i (node.list (pairs_tree n ps)) a.0 (subst (λ t. Fits t n.plain.rule) (sym e) (n.plain.fits q b))
    value_one (pairs i ps) (list j ws) a b g h e =
        n.pairs_not_list i (node.list (pairs_tree n ps)) a.0
        (subst (λ t. Fits t (holding n.list (list_of 0 (rule n.values)))) (sym e) (list_fits_holding j ws b h))
    value_one (pairs i ps) (pairs j qs) a b g h e =
        let one = around_one n.pairs i j (node.list (pairs_tree n ps)) (node.list (pairs_tree n qs)) a.0 b.0 e in
        let inside : pairs_tree n ps ≡ pairs_tree n qs = same_items one.1 in
        let c = value_levels n.pairs i (node.list (pairs_tree n ps)) in
        let d = value_levels n.pairs j (node.list (pairs_tree n qs)) in
        (one.0, all_pairs_one ps qs a.1 b.1 (omega (arith, c, g)) (omega (arith, d, h)) inside)

    -- two lists of values with the same trees are equal
    pub values_one : (vs ws : Contents P L M)
        → ValuesAreWell n vs → ValuesAreWell n ws → items_levels (values_tree n vs) ≤ most_levels → items_levels (values_tree n ws) ≤ most_levels
        → values_tree n vs ≡ values_tree n ws → SameValues n vs ws
    values_one no_values no_values a b g h e = tt
    values_one no_values (value w ws) a b g h e = cc
    values_one (value v vs) no_values a b g h e = cc
    values_one (value v vs) (value w ws) a b g h e =
        (value_one v w a.0 b.0 (omega arith) (omega arith) (first_item e), values_one vs ws a.1 b.1 (omega arith) (omega arith) (other_items e))

    -- two lists of pairs with the same trees are equal
    pub all_pairs_one : (ps qs : Pairs P L M)
        → PairsAreWell n ps → PairsAreWell n qs → items_levels (pairs_tree n ps) ≤ most_levels → items_levels (pairs_tree n qs) ≤ most_levels
        → pairs_tree n ps ≡ pairs_tree n qs → SamePairs n ps qs
    all_pairs_one no_pairs no_pairs a b g h e = tt
    all_pairs_one no_pairs (pair k w qs) a b g h e = cc
    all_pairs_one (pair j v ps) no_pairs a b g h e = cc
    all_pairs_one (pair j v ps) (pair k w qs) a b g h e =
        let p = same_pair (first_item e) in (
          key_one j k a.0.0 b.0.0 (omega arith) (omega arith) p.0,
          (value_one v w a.0.1 b.0.1 (omega arith) (omega arith) p.1, all_pairs_one ps qs a.1 b.1 (omega arith) (omega arith) (other_items e)),
        )

    -- two keys with the same tree are equal
    pub key_one : (j k : Key P L M) → KeyIsWell n j → KeyIsWell n k → levels (key_tree n j) ≤ most_levels → levels (key_tree n k) ≤ most_levels
        → key_tree n j ≡ key_tree n k → SameKey n j k
    key_one (value_key v) (value_key w) a b g h e = value_one v w a b g h e
    key_one (value_key v) (text_key k) a b g h e = text_not_value k (subst (λ t. Fits t (rule n.values)) e (value_fits v a g))
    key_one (text_key j) (value_key w) a b g h e = text_not_value j (subst (λ t. Fits t (rule n.values)) (sym e) (value_fits w b h))
    key_one (text_key j) (text_key k) a b g h e = cc

  -- ---- no Odd stands in a tree

  mutual
    -- the tree of a value has no Odd in it
    pub value_no_odd : (v : Content P L M) → PartsAreWell n v → has_odd (value_tree n v) ≡ false
    value_no_odd (plain p) w = (n.plain.whole p w).0
    value_no_odd (list h vs) w = around_no_odd n.list h (node.list (values_tree n vs)) w.0 (values_no_odd vs w.1)
    value_no_odd (pairs h ps) w = around_no_odd n.pairs h (node.list (pairs_tree n ps)) w.0 (pairs_no_odd ps w.1)

    -- the trees of a list of values have no Odd in them
    pub values_no_odd : (vs : Contents P L M) → ValuesAreWell n vs → items_have_odd (values_tree n vs) ≡ false
    values_no_odd no_values w = refl
    values_no_odd (value v vs) w = or_from (has_odd (value_tree n v)) (items_have_odd (values_tree n vs)) (value_no_odd v w.0) (values_no_odd vs w.1)

    -- the trees of a list of pairs have no Odd in them
    pub pairs_no_odd : (ps : Pairs P L M) → PairsAreWell n ps → items_have_odd (pairs_tree n ps) ≡ false
    pairs_no_odd no_pairs w = refl
    pairs_no_odd (pair k v ps) w =
        let value = or_from (has_odd (value_tree n v)) false (value_no_odd v w.0.1) refl in
        or_from (has_odd (pair_node (key_tree n k) (value_tree n v))) (items_have_odd (pairs_tree n ps))
        (or_from (has_odd (key_tree n k)) (has_odd (value_tree n v) || false) (key_no_odd k w.0.0) value) (pairs_no_odd ps w.1)

    -- the tree of a key has no Odd in it
    pub key_no_odd : (k : Key P L M) → KeyIsWell n k → has_odd (key_tree n k) ≡ false
    key_no_odd (value_key v) w = value_no_odd v w
    key_no_odd (text_key k) w = refl

  -- the shape of a type whose values have such a content: its rule, trees, well-formed values and laws
  abbrev pub nested_shape : {V : Type 0} → (V → Content P L M) → ShapeOf V
  nested_shape content = record {
    rule = rule n.values;
    tree_of = λ v. value_tree n (content v);
    well = λ v. IsWell n (content v);
    same = λ v w. Same n (content v) (content w);
    fits = λ v w. value_fits (content v) w.parts w.cap;
    one_value = λ v w a b e. value_one (content v) (content w) a.parts b.parts a.cap b.cap e;
    deepest = most_levels;
    whole = λ v w. (value_no_odd (content v) w.parts, w.cap);
  }

-- ---- what a rule says of its parts, and what these say of themselves

-- two descriptions of the members beside a `value` have the same rows and parts, and agree on what is well-formed and equal
pub record SameSiblings {H : Type 0} (a b : SiblingsOf H) : Type 0 where
  pub rows : a.rows ≡ b.rows
  pub parts : (h : H) → a.parts h ≡ b.parts h
  pub well : (h : H) → a.well h → b.well h
  pub well_there : (h : H) → b.well h → a.well h
  pub same : (g h : H) → b.same g h → a.same g h

-- the record of a rule agrees with the types of its plain values and of the members beside a `value`
pub record Agrees {P L M : Type 0} (n : NestingOf P L M) (s : ShapeOf P) (l : SiblingsOf L) (m : SiblingsOf M) : Type 0 where
  pub rule : s.rule ≡ n.plain.rule
  pub tree : (p : P) → s.tree_of p ≡ n.plain.tree_of p
  pub well : (p : P) → s.well p → n.plain.well p
  pub same : (p q : P) → n.plain.same p q → s.same p q
  pub list : SameSiblings l n.list
  pub pairs : SameSiblings m n.pairs

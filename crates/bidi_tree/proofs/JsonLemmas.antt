-- The tree of a value that borrows from its text is the tree of the text.
use Rattle.std.proofs.Common.{◌≡◌, ◌≤◌, ℕ, ℤ, pos, max, List, [], ◌∷◌, Bool, true, false, ◌&&◌, is_some, cond}
use Rattle.std.proofs.Common.{Option, Some, None, Ordering, Less, Equal, Greater, option_map, option_and_then, Bor}
use Rattle.std.proofs.Common.{Vec, bytes_eq, true≢false, refl, sym, ap, ◌∙◌, subst, rules, map, arith}
use Rattle.std.proofs.lemmas.Slice.Eq.{bytes_eq-Decides}
use Rattle.std.specs.Prelude.{◌==◌, slice_index}
use Rattle.std.specs.Cmp.Lexicographic.{slice_cmp}
use Rattle.std.specs.Ordering.{nat_cmp, match_ordering}
use Rattle.fast_float.specs.Text.{scan}
use Rattle.json.specs.Json as json
use Rattle.json.specs.Find as find
use Rattle.json.specs.Lex.{tokens}
use Rattle.json.specs.Reads.{Yields}
use Rattle.json.specs.Token as spec
use Rattle.json.specs.Tree.{depth, items_depth, members_depth}
use Rattle.json.specs.Value.{value_view, items_view, members_view}
use Rattle.json.specs.declared.token.Token.{Token}
use Rattle.json.specs.declared.value.Value.{Value, Array, Object, the_lemmas}
use Rattle.serde_json.specs.Data as serde
use Rattle.serde_json.specs.Read.{of_json, of_items, of_members, number_of, number_from, max_depth}
use Rattle.bidi_tree.specs.Node.{Node, list, Items, no_items, item, Members, no_members, member, put}
use Rattle.bidi_tree.specs.Node.{get_member, levels, items_levels, members_levels}
use Rattle.bidi_tree.specs.Node as tree
use Rattle.bidi_tree.specs.Number.{is_js_int}
use Rattle.bidi_tree.specs.Kind.{members_in}
use Rattle.bidi_tree.specs.Json.{number_in, json_node, json_items, put_all, is_readable, are_readable, members_are_readable, parsed}
use Rattle.bidi_tree.specs.Text as text
use Rattle.bidi_tree.specs.Text.{of_data, integer_node, tree_of, is_within, tree_of_text}
use Rattle.bidi_tree.specs.View.{items_of}
use Rattle.bidi_tree.proofs.TreeLemmas.{of_members-put}
use Rattle.bidi_tree.proofs.MemberLemmas.{get_member-put, get_member-put_other}

-- ---- the number of a text, by its sign

pub minus_read : (s digits : List ℕ) → s ≡ 45 ∷ digits → number_of s ≡ number_from true (scan digits)
unfolding number_of
minus_read s digits e = subst (λ x. number_of x ≡ number_from true (scan digits)) (sym e) refl

pub plain_read : (s : List ℕ) → (slice_index s 0 == 45) ≡ false → number_of s ≡ number_from false (scan s)
unfolding number_of
plain_read s e = rw e

-- ---- reading a JSON value, by `serde_json` and here

-- if everything is readable, n is f of the reading; otherwise nothing was read
abbrev Reads : {A B : Type 0} → (A → B) → B → Bool → Option A → Type 0
Reads f n true o = option_map f o ≡ Some n
Reads f n false o = o ≡ None

number_read : (o : Option serde.Num) → Reads of_data (number_in o) (is_some o) (option_map serde.number o)
number_read None = refl
number_read (Some n) = refl

array_read : (o : Option serde.Items) (n : Items) (b : Bool) → Reads text.of_items n b o → Reads of_data (list n) b (option_map serde.array o)
array_read None n true e = absurd (let none : None ≡ Some n = e in cc)
array_read None n false e = refl
array_read (Some ds) n true e = let same : Some (text.of_items ds) ≡ Some n = e in let at : text.of_items ds ≡ n = cc in ap (λ x. Some (list x)) at
array_read (Some ds) n false e = absurd (let none : Some ds ≡ None = e in cc)

object_read : (o : Option serde.Members) (n : Members) (b : Bool) → Reads text.of_members n b o → Reads of_data (tree.map n) b (option_map serde.object o)
object_read None n true e = absurd (let none : None ≡ Some n = e in cc)
object_read None n false e = refl
object_read (Some ds) n true e = let same : Some (text.of_members ds) ≡ Some n = e in let at : text.of_members ds ≡ n = cc in ap (λ x. Some (tree.map x)) at
object_read (Some ds) n false e = absurd (let none : Some ds ≡ None = e in cc)

item_read : (o : Option serde.Data) (p : Option serde.Items) (n : Node) (ns : Items) (b c : Bool) → Reads of_data n b o → Reads text.of_items ns c p
    → Reads text.of_items (item n ns) (b && c) (option_and_then (λ d. option_map (serde.item d) p) o)
item_read None p n ns true c e h = absurd (let none : None ≡ Some n = e in cc)
item_read None p n ns false c e h = refl
item_read (Some d) None n ns true true e h = absurd (let none : None ≡ Some ns = h in cc)
item_read (Some d) None n ns true false e h = refl
item_read (Some d) (Some ds) n ns true true e h =
    let first : Some (of_data d) ≡ Some n = e in
    let rest : Some (text.of_items ds) ≡ Some ns = h in
    let a : of_data d ≡ n = cc in
    let z : text.of_items ds ≡ ns = cc in
    ap (λ x. Some (item x (text.of_items ds))) a ∙ ap (λ x. Some (item n x)) z
item_read (Some d) (Some ds) n ns true false e h = absurd (let none : Some ds ≡ None = h in cc)
item_read (Some d) p n ns false c e h = absurd (let none : Some d ≡ None = e in cc)

member_read : (o : Option serde.Data) (n : Node) (after : serde.Data → Option serde.Members) (ns : Members) (b c : Bool) → Reads of_data n b o
    → ((d : serde.Data) → of_data d ≡ n → Reads text.of_members ns c (after d)) → Reads text.of_members ns (b && c) (option_and_then after o)
member_read None n after ns true c e h = absurd (let none : None ≡ Some n = e in cc)
member_read None n after ns false c e h = refl
member_read (Some d) n after ns true c e h = let first : Some (of_data d) ≡ Some n = e in let at : of_data d ≡ n = cc in h d at
member_read (Some d) n after ns false c e h = absurd (let none : Some d ≡ None = e in cc)

mutual
  json_read : (j : json.Json) → Reads of_data (json_node j) (is_readable j) (of_json j)
  json_read json.null = refl
  json_read (json.boolean b) = refl
  json_read (json.number s) = number_read (number_of s)
  json_read (json.string s) = refl
  json_read (json.array js) = array_read _ _ _ (items_read js)
  json_read (json.object ms) = object_read _ _ _ (members_read ms serde.no_members no_members refl)

  items_read : (js : json.Items) → Reads text.of_items (json_items js) (are_readable js) (of_items js)
  items_read json.no_items = refl
  items_read (json.item j js) = item_read _ _ _ _ _ _ (json_read j) (items_read js)

  members_read : (ms : json.Members) (found : serde.Members) (seen : Members)
      → text.of_members found ≡ seen → Reads text.of_members (put_all ms seen) (members_are_readable ms) (of_members ms found)
  members_read json.no_members found seen e = ap Some e
  members_read (json.member k j ms) found seen e =
      member_read (of_json j) (json_node j) (λ d. of_members ms (serde.put k d found)) _ _ _ (json_read j)
      (λ d h. members_read ms (serde.put k d found) (put k (json_node j) seen)
      (of_members-put k d found ∙ ap (λ x. put k x (text.of_members found)) h ∙ ap (put k (json_node j)) e))

read_at : (s : List ℕ) (j : json.Json)
    → option_and_then (λ p. json.if_last p.0 p.1) (json.value max_depth (tokens s)) ≡ Some j → tree_of s ≡ option_map of_data (of_json j)
read_at s j e = ap (λ o. option_map of_data (option_and_then of_json o)) e

reads_at : (o : Option serde.Data) (n : Node) (b : Bool) → Reads of_data n b o → b ≡ true → option_map of_data o ≡ Some n
reads_at o n true h e = h
reads_at o n false h e = absurd (let no : false ≡ true = e in cc)

reads_none : (o : Option serde.Data) (n : Node) (b : Bool) → Reads of_data n b o → b ≡ false → option_map of_data o ≡ None
reads_none o n true h e = absurd (let no : true ≡ false = e in cc)
reads_none o n false h e = ap (option_map of_data) h

-- a text whose value is readable has that value's tree
pub tree_of-parsed : (s : List ℕ) (j : json.Json) → option_and_then (λ p. json.if_last p.0 p.1) (json.value max_depth (tokens s)) ≡ Some j
    → is_readable j ≡ true → tree_of s ≡ Some (json_node j)
tree_of-parsed s j e r = read_at s j e ∙ reads_at (of_json j) (json_node j) _ (json_read j) r

-- one whose value is not has none
pub tree_of-unreadable : (s : List ℕ) (j : json.Json)
    → option_and_then (λ p. json.if_last p.0 p.1) (json.value max_depth (tokens s)) ≡ Some j → is_readable j ≡ false → tree_of s ≡ None
tree_of-unreadable s j e r = read_at s j e ∙ reads_none (of_json j) (json_node j) _ (json_read j) r

-- there is nothing after the value
pub ended : (s : List ℕ) (j : json.Json) (left new : List spec.Token) (r : Option Token)
    → json.value max_depth (tokens s) ≡ Some (j, left) → Yields left r new → is_some r ≡ false
    → option_and_then (λ p. json.if_last p.0 p.1) (json.value max_depth (tokens s)) ≡ Some j
ended s j left new None e h n = ap (option_and_then (λ p. json.if_last p.0 p.1)) e ∙ ap (json.if_last j) h.0
ended s j left new (Some t) e h n = absurd (let no : true ≡ false = n in cc)

-- there is something after the value, so the text is not JSON
pub behind : (s : List ℕ) (j : json.Json) (left new : List spec.Token) (r : Option Token)
    → json.value max_depth (tokens s) ≡ Some (j, left) → Yields left r new → is_some r ≡ true
    → tree_of s ≡ None
behind s j left new None e h n = absurd (let no : false ≡ true = n in cc)
behind s j left new (Some t) e h n =
    ap (λ o. option_map of_data (option_and_then of_json o)) (ap (option_and_then (λ p. json.if_last p.0 p.1)) e ∙ ap (json.if_last j) h)

-- a text within its limit
pub within : (limit : Option ℕ) (s : List ℕ) (n : Node) → is_within limit s ≡ true → tree_of s ≡ Some n → tree_of_text limit s ≡ Some n
within limit s n w e = rw w e

limited : (b : Bool) (o : Option Node) (n : Node) → cond b o None ≡ Some n → o ≡ Some n
limited true o n e = e
limited false o n e = absurd (let no : None ≡ Some n = e in cc)

pub in_limit : (limit : Option ℕ) (s : List ℕ) (n : Node) → tree_of_text limit s ≡ Some n → tree_of s ≡ Some n
in_limit limit s n e = limited (is_within limit s) (tree_of s) n e

-- ---- the parts of a value of the code

pub items_parsed : {A : Type 0} (vs : List (Value A)) → items_of (map parsed vs) ≡ json_items (items_view vs)
items_parsed [] = refl
items_parsed (v ∷ vs) = ap (item (parsed v)) (items_parsed vs)

-- ---- a tree nests at most as deep as its value, because a member may be replaced

levels_at : (c : Ordering) (k l : List ℕ) (n m : Node) (ms : Members) → members_levels (put k n ms) ≤ max (levels n) (members_levels ms)
    → members_levels (match_ordering c (member k n (member l m ms)) (member l n ms) (member l m (put k n ms)))
    ≤ max (levels n) (max (levels m) (members_levels ms))
levels_at Less k l n m ms h = omega arith
levels_at Equal k l n m ms h = omega arith
levels_at Greater k l n m ms h = omega (arith, h)

levels-put : (k : List ℕ) (n : Node) (ms : Members) → members_levels (put k n ms) ≤ max (levels n) (members_levels ms)
levels-put k n no_members = omega arith
levels-put k n (member l m ms) = levels_at (slice_cmp nat_cmp k l) k l n m ms (levels-put k n ms)

whole_levels : (z : ℤ) (b : Bool) → levels (cond b (tree.whole z) tree.odd) ≤ 0
whole_levels z true = omega arith
whole_levels z false = omega arith

integer_levels : (z : ℤ) → levels (integer_node z) ≤ 0
integer_levels z = whole_levels z (is_js_int z)

number_levels : (o : Option serde.Num) → levels (number_in o) ≤ 0
number_levels None = omega arith
number_levels (Some (serde.unsigned n)) = integer_levels (pos n)
number_levels (Some (serde.negative z)) = integer_levels z
number_levels (Some (serde.float x)) = omega arith

mutual
  pub levels-json : (j : json.Json) → levels (json_node j) ≤ depth j
  levels-json json.null = omega arith
  levels-json (json.boolean b) = omega arith
  levels-json (json.number s) = number_levels (number_of s)
  levels-json (json.string s) = omega arith
  levels-json (json.array js) = omega (arith, levels-items js)
  levels-json (json.object ms) = omega (arith, levels-put_all ms no_members)

  levels-items : (js : json.Items) → items_levels (json_items js) ≤ items_depth js
  levels-items json.no_items = omega arith
  levels-items (json.item j js) = omega (arith, levels-json j, levels-items js)

  levels-put_all : (ms : json.Members) (found : Members) → members_levels (put_all ms found) ≤ max (members_depth ms) (members_levels found)
  levels-put_all json.no_members found = omega arith
  levels-put_all (json.member k j ms) found = omega (arith, levels-json j, levels-put k (json_node j) found, levels-put_all ms (put k (json_node j) found))

-- ---- the member of a name is the last of it

abbrev found_or : Option json.Json → Option Node → Option Node
found_or None o = o
found_or (Some j) o = Some (json_node j)

named_or : (b : Bool) (q k : List ℕ) (j : json.Json) (found : Members)
    → bytes_eq k q ≡ b → get_member q (put k (json_node j) found) ≡ found_or (cond b (Some j) None) (get_member q found)
named_or true q k j found e =
    let same : k ≡ q = (bytes_eq-Decides k q).0 e in
    subst (λ x. get_member x (put k (json_node j) found) ≡ Some (json_node j)) same (get_member-put k (json_node j) found)
named_or false q k j found e = get_member-put_other q k (json_node j) found (λ h. true≢false (sym ((bytes_eq-Decides k q).1 (sym h)) ∙ e))

later : (o : Option json.Json) (b : Bool) (q k : List ℕ) (j : json.Json) (found : Members) → bytes_eq k q ≡ b
    → found_or o (get_member q (put k (json_node j) found)) ≡ found_or (find.later_or o (cond b (Some j) None)) (get_member q found)
later None b q k j found e = named_or b q k j found e
later (Some l) b q k j found e = refl

get-put_all : (q : List ℕ) (ms : json.Members) (found : Members) → get_member q (put_all ms found) ≡ found_or (find.get_member q ms) (get_member q found)
get-put_all q json.no_members found = refl
get-put_all q (json.member k j ms) found = get-put_all q ms (put k (json_node j) found) ∙ later (find.get_member q ms) _ q k j found refl

none_found : (o : Option json.Json) → found_or o None ≡ option_map json_node o
none_found None = refl
none_found (Some j) = refl

whole_get : (q : List ℕ) (z : ℤ) (b : Bool) → get_member q (members_in (cond b (tree.whole z) tree.odd)) ≡ None
whole_get q z true = refl
whole_get q z false = refl

number_get : (q : List ℕ) (o : Option serde.Num) → get_member q (members_in (number_in o)) ≡ None
number_get q None = refl
number_get q (Some (serde.unsigned n)) = whole_get q (pos n) (is_js_int (pos n))
number_get q (Some (serde.negative z)) = whole_get q z (is_js_int z)
number_get q (Some (serde.float x)) = refl

get-json : (q : List ℕ) (j : json.Json) → get_member q (members_in (json_node j)) ≡ option_map json_node (find.get q j)
get-json q json.null = refl
get-json q (json.boolean b) = refl
get-json q (json.number s) = number_get q (number_of s)
get-json q (json.string s) = refl
get-json q (json.array js) = refl
get-json q (json.object ms) = get-put_all q ms no_members ∙ none_found (find.get_member q ms)

seen_parsed : {A : Type 0} (r : Option (Bor (Value A))) → option_map (λ v. parsed v.now) r ≡ option_map json_node (option_map (λ v. value_view v.now) r)
seen_parsed None = refl
seen_parsed (Some v) = refl

-- the member that was found in a value is that of its tree
pub member_parsed : {A : Type 0} (q : List ℕ) (v : Value A) (r : Option (Bor (Value A))) → option_map (λ v. value_view v.now) r ≡ find.get q (value_view v)
    → option_map (λ v. parsed v.now) r ≡ get_member q (members_in (parsed v))
member_parsed q v r e = seen_parsed r ∙ ap (option_map json_node) e ∙ sym (get-json q (value_view v))

-- ---- lists and maps

pub parsed-Array : {A : Type 0} (vs : Vec (Value A) A) → parsed (Array vs) ≡ list (json_items (items_view vs.items))
parsed-Array vs = search (rules, the_lemmas)

pub parsed-Object : {A : Type 0} (ms : Vec (Bor (List ℕ) × Value A) A) → parsed (Object ms) ≡ tree.map (put_all (members_view ms.items) no_members)
parsed-Object ms = search (rules, the_lemmas)

-- The compact text of a tree reads back as that tree.
use Rattle.std.proofs.Common.{◌≡◌, ℕ, suc, max, pos, negsuc, List, [], false, Some, option_map}
use Rattle.std.proofs.Common.{option_and_then, Greater, refl, sym, ap, ap₂, ◌∙◌, arith, append-nil, lt-ltb}
use Rattle.std.proofs.lemmas.Bool.{or_parts}
use Rattle.std.proofs.lemmas.Cmp.{nat_list_cmp_total}
use Rattle.std.specs.Cmp.Lexicographic.{slice_cmp}
use Rattle.std.specs.Ordering.{nat_cmp, ordering_reverse}
use Rattle.std.specs.Prelude.{⊤}
use Rattle.json.specs.Lex.{tokens}
use Rattle.json.specs.Json as tree
use Rattle.json.specs.Print.{print}
use Rattle.json.specs.Tree.{json_tokens, HasNumbers, ItemsHaveNumbers, MembersHaveNumbers, depth, items_depth, members_depth}
use Rattle.json.proofs.Printed.Decimals.{IsNumber-decimal, IsNumber-signed_decimal}
use Rattle.json.proofs.Printed.Tokens.{tokens-print}
use Rattle.json.proofs.Printed.Trees.{value-json_tokens, ArePrintable-json_tokens}
use Rattle.serde_json.specs.Data as json
use Rattle.serde_json.specs.Read.{of_json, of_items, of_members, read, max_depth}
use Rattle.serde_json.specs.Written.{outline, items_outline, members_outline}
use Rattle.serde_json.proofs.Numbers.{number_of-decimal, number_of-negative}
use Rattle.serde_json.proofs.Texts.{print-outline}
use Rattle.bidi_tree.specs.Node as node
use Rattle.bidi_tree.specs.Node.{Node, Items, Members, levels, has_odd, items_have_odd, members_have_odd}
use Rattle.bidi_tree.specs.Node.{IsBelow, AreAscending, IsSound, ItemsAreSound, MembersAreSound, IsWritable}
use Rattle.bidi_tree.specs.Text as text
use Rattle.bidi_tree.specs.Data.{to_data, to_items, to_members, tokens_of}
use Rattle.bidi_tree.specs.Text.{of_data, tree_of, compact_text}
use Rattle.bidi_tree.proofs.CompactLemmas.{depth-to_data, compact_text-to_data}

-- ---- the data of a sound tree without Odd has that tree

mutual
  pub of_data-to_data : (n : Node) → IsSound n → has_odd n ≡ false → of_data (to_data n) ≡ n
  of_data-to_data node.null s h = refl
  of_data-to_data (node.boolean b) s h = refl
  of_data-to_data (node.whole (pos n)) s h = rw (lt-ltb _ _ s)
  of_data-to_data (node.whole (negsuc n)) s h = rw (lt-ltb _ _ s)
  of_data-to_data node.odd s h = cc
  of_data-to_data (node.text t) s h = refl
  of_data-to_data (node.list ns) s h = ap node.list (of_items-to_items ns s h)
  of_data-to_data (node.map ms) s h = ap node.map (of_members-to_members ms s.1 h)

  of_items-to_items : (ns : Items) → ItemsAreSound ns → items_have_odd ns ≡ false → text.of_items (to_items ns) ≡ ns
  of_items-to_items node.no_items s h = refl
  of_items-to_items (node.item n ns) s h =
      let p = or_parts (has_odd n) _ h in
      ap₂ node.item (of_data-to_data n s.0 p.0) (of_items-to_items ns s.1 p.1)

  of_members-to_members : (ms : Members) → MembersAreSound ms → members_have_odd ms ≡ false → text.of_members (to_members ms) ≡ ms
  of_members-to_members node.no_members s h = refl
  of_members-to_members (node.member k n ms) s h =
      let p = or_parts (has_odd n) _ h in
      ap₂ (node.member k) (of_data-to_data n s.0 p.0) (of_members-to_members ms s.1 p.1)

-- ---- its numbers are numbers of JSON

mutual
  HasNumbers-to_data : (n : Node) → IsSound n → HasNumbers (outline (to_data n))
  HasNumbers-to_data node.null s = tt
  HasNumbers-to_data (node.boolean b) s = tt
  HasNumbers-to_data (node.whole (pos n)) s = IsNumber-decimal n (omega (arith, s))
  HasNumbers-to_data (node.whole (negsuc n)) s = IsNumber-signed_decimal (negsuc n) (omega (arith, s))
  HasNumbers-to_data node.odd s = tt
  HasNumbers-to_data (node.text t) s = tt
  HasNumbers-to_data (node.list ns) s = HasNumbers-to_items ns s
  HasNumbers-to_data (node.map ms) s = HasNumbers-to_members ms s.1

  HasNumbers-to_items : (ns : Items) → ItemsAreSound ns → ItemsHaveNumbers (items_outline (to_items ns))
  HasNumbers-to_items node.no_items s = tt
  HasNumbers-to_items (node.item n ns) s = (HasNumbers-to_data n s.0, HasNumbers-to_items ns s.1)

  HasNumbers-to_members : (ms : Members) → MembersAreSound ms → MembersHaveNumbers (members_outline (to_members ms))
  HasNumbers-to_members node.no_members s = tt
  HasNumbers-to_members (node.member k n ms) s = (HasNumbers-to_data n s.0, HasNumbers-to_members ms s.1)

-- ---- the outline is as deep

mutual
  depth-outline : (d : json.Data) → depth (outline d) ≡ json.depth d
  depth-outline json.null = refl
  depth-outline (json.boolean b) = refl
  depth-outline (json.number n) = refl
  depth-outline (json.string s) = refl
  depth-outline (json.array ds) = ap suc (items_depth-items_outline ds)
  depth-outline (json.object ms) = ap suc (members_depth-members_outline ms)

  items_depth-items_outline : (ds : json.Items) → items_depth (items_outline ds) ≡ json.items_depth ds
  items_depth-items_outline json.no_items = refl
  items_depth-items_outline (json.item d ds) = ap₂ max (depth-outline d) (items_depth-items_outline ds)

  members_depth-members_outline : (ms : json.Members) → members_depth (members_outline ms) ≡ json.members_depth ms
  members_depth-members_outline json.no_members = refl
  members_depth-members_outline (json.member k d ms) = ap₂ max (depth-outline d) (members_depth-members_outline ms)

-- ---- members that are put in one after another, with ascending names

joined : json.Members → json.Members → json.Members
joined json.no_members ms = ms
joined (json.member k d es) ms = json.member k d (joined es ms)

joined-last : (es : json.Members) (k : List ℕ) (d : json.Data) (ms : json.Members)
    → joined (joined es (json.member k d json.no_members)) ms ≡ joined es (json.member k d ms)
unfolding joined
joined-last json.no_members k d ms = refl
joined-last (json.member l e es) k d ms = ap (json.member l e) (joined-last es k d ms)

joined-none : (es : json.Members) → joined es json.no_members ≡ es
unfolding joined
joined-none json.no_members = refl
joined-none (json.member l e es) = ap (json.member l e) (joined-none es)

-- the name comes after each of these
IsAbove : List ℕ → json.Members → Type 0
IsAbove k json.no_members = ⊤
IsAbove k (json.member l e es) = (slice_cmp nat_cmp k l ≡ Greater) × IsAbove k es

put-joined : (k : List ℕ) (d : json.Data) (es : json.Members) → IsAbove k es → json.put k d es ≡ joined es (json.member k d json.no_members)
unfolding joined IsAbove
put-joined k d json.no_members h = refl
put-joined k d (json.member l e es) h = rw h.0 (ap (json.member l e) (put-joined k d es h.1))

IsAbove-joined : (k : List ℕ) (es : json.Members) (l : List ℕ) (d : json.Data)
    → IsAbove k es → slice_cmp nat_cmp k l ≡ Greater → IsAbove k (joined es (json.member l d json.no_members))
unfolding joined IsAbove
IsAbove-joined k json.no_members l d h g = (g, tt)
IsAbove-joined k (json.member m e es) l d h g = (h.0, IsAbove-joined k es l d h.1 g)

-- each name of ms comes after each of es
AreAbove : json.Members → Members → Type 0
AreAbove es node.no_members = ⊤
AreAbove es (node.member k n ms) = IsAbove k es × AreAbove es ms

AreAbove-joined : (es : json.Members) (k : List ℕ) (d : json.Data) (ms : Members)
    → AreAbove es ms → IsBelow k ms → AreAbove (joined es (json.member k d json.no_members)) ms
unfolding AreAbove
AreAbove-joined es k d node.no_members h b = tt
AreAbove-joined es k d (node.member l n ms) h b =
    let after : slice_cmp nat_cmp l k ≡ Greater = nat_list_cmp_total.antisymm l k ∙ ap ordering_reverse b.0 in
    (IsAbove-joined l es k d h.0 after, AreAbove-joined es k d ms h.1 b.1)

AreAbove-none : (ms : Members) → AreAbove json.no_members ms
unfolding AreAbove IsAbove
AreAbove-none node.no_members = tt
AreAbove-none (node.member k n ms) = (tt, AreAbove-none ms)

-- ---- the text that is written reads back

mutual
  unfolding AreAbove joined

  of_json-outline : (n : Node) → IsSound n → of_json (outline (to_data n)) ≡ Some (to_data n)
  of_json-outline node.null s = refl
  of_json-outline (node.boolean b) s = refl
  of_json-outline (node.whole (pos n)) s = ap (option_map json.number) (number_of-decimal n (omega (arith, s)))
  of_json-outline (node.whole (negsuc n)) s = ap (option_map json.number) (number_of-negative n (omega (arith, s)))
  of_json-outline node.odd s = refl
  of_json-outline (node.text t) s = refl
  of_json-outline (node.list ns) s = ap (option_map json.array) (of_items-outline ns s)
  of_json-outline (node.map ms) s = ap (option_map json.object) (of_members-outline ms json.no_members s.0 s.1 (AreAbove-none ms))

  of_items-outline : (ns : Items) → ItemsAreSound ns → of_items (items_outline (to_items ns)) ≡ Some (to_items ns)
  of_items-outline node.no_items s = refl
  of_items-outline (node.item n ns) s = rw (of_json-outline n s.0, of_items-outline ns s.1)

  of_members-outline : (ms : Members) (es : json.Members) → AreAscending ms
      → MembersAreSound ms → AreAbove es ms → of_members (members_outline (to_members ms)) es ≡ Some (joined es (to_members ms))
  of_members-outline node.no_members es a s h = ap Some (sym (joined-none es))
  of_members-outline (node.member k n ms) es a s h =
      let d = to_data n in
      rw (of_json-outline n s.0) (ap (of_members (members_outline (to_members ms))) (put-joined k d es h.0)
      ∙ of_members-outline ms (joined es (json.member k d json.no_members)) a.1 s.1 (AreAbove-joined es k d ms h.1 a.0)
      ∙ ap Some (joined-last es k d (to_members ms)))

-- the tokens of a tree print as its compact text
pub print-tokens_of : (n : Node) → has_odd n ≡ false → print (tokens_of n) ≡ compact_text n
print-tokens_of n h = print-outline (to_data n) ∙ compact_text-to_data n h

-- the compact text of a sound tree that may be written reads back as that tree
pub tree_of-compact_text : (n : Node) → IsSound n → IsWritable n → tree_of (compact_text n) ≡ Some n
tree_of-compact_text n s w =
    let j = outline (to_data n) in
    let printed : print (json_tokens j) ≡ compact_text n = print-tokens_of n w.0 in
    let lexed : tokens (compact_text n) ≡ json_tokens j =
    ap tokens (sym printed) ∙ tokens-print (json_tokens j) (ArePrintable-json_tokens j (HasNumbers-to_data n s)) in
    let deep = depth-outline (to_data n) ∙ depth-to_data n in
    let parsed = ap (tree.value max_depth) (lexed ∙ sym (append-nil (json_tokens j))) ∙ value-json_tokens j max_depth [] (omega (arith, deep, w.1)) in
    let back : read (compact_text n) ≡ Some (to_data n) =
    ap (option_and_then of_json) (ap (option_and_then (λ p. tree.if_last p.0 p.1)) parsed) ∙ of_json-outline n s in
    ap (option_map of_data) back ∙ ap Some (of_data-to_data n s w.0)

-- Every tree of the code is sound, and so is the tree of every text.
use Rattle.std.proofs.Common.{◌≡◌, ℕ, ◌^◌, ℤ, pos, List, [], ◌∷◌, String, Global, Bool, true, false, cond, Option, Some, None, option_map}
use Rattle.std.proofs.Common.{option_and_then, Ordering, Less, Equal, Greater, string_bytes, string_cmp, refl, ap, ◌∙◌, subst, unsigned_abs, ltb-true}
use Rattle.std.proofs.lemmas.Cmp.{nat_list_cmp_total}
use Rattle.std.specs.Cmp.Lexicographic.{slice_cmp}
use Rattle.std.specs.List.{AllByRecursion}
use Rattle.std.specs.List.Sorted.{IsStrictlySortedBy}
use Rattle.std.specs.Map.{keys_of}
use Rattle.std.specs.Ordering.{nat_cmp, match_ordering, ordering_reverse}
use Rattle.std.specs.Prelude.{⊤}
use Rattle.json.specs.Lex.{tokens}
use Rattle.json.specs.Json as tree
use Rattle.serde_json.specs.Data as json
use Rattle.serde_json.specs.Read.{of_json, of_items, of_members, number_of, read, max_depth}
use Rattle.bidi_tree.specs.Number.{is_js_int}
use Rattle.bidi_tree.specs.Node.{Node, whole, odd, Members, no_members, member, put, IsBelow, AreAscending, IsSound, ItemsAreSound, MembersAreSound}
use Rattle.bidi_tree.specs.Text as text
use Rattle.bidi_tree.specs.Text.{of_data, integer_node, number_node, tree_of}
use Rattle.bidi_tree.specs.View.{members_node}
use Rattle.bidi_tree.proofs.TreeLemmas.{Entry, of_members-put}

-- ---- a `BTreeMap` has its names in order

IsBelow-members_node : (k : String Global) (es : List Entry)
    → AllByRecursion (λ y. string_cmp k y ≡ Less) (keys_of es) → IsBelow (string_bytes k) (members_node es)
IsBelow-members_node k [] h = tt
IsBelow-members_node k (e ∷ es) h = (h.0, IsBelow-members_node k es h.1)

pub AreAscending-members_node : (es : List Entry) → IsStrictlySortedBy string_cmp (keys_of es) → AreAscending (members_node es)
unfolding IsStrictlySortedBy
AreAscending-members_node [] h = tt
AreAscending-members_node (e ∷ es) h = (IsBelow-members_node e.0 es h.0, AreAscending-members_node es h.1)

-- ---- `put` keeps the order of the names, and every property of each member

below_at : (c : Ordering) (l k m : List ℕ) (n o : Node) (ms : Members)
    → slice_cmp nat_cmp l k ≡ Less → (slice_cmp nat_cmp l m ≡ Less) × IsBelow l ms → IsBelow l (put k n ms)
    → IsBelow l (match_ordering c (member k n (member m o ms)) (member m n ms) (member m o (put k n ms)))
below_at Less l k m n o ms b h later = (b, h)
below_at Equal l k m n o ms b h later = h
below_at Greater l k m n o ms b h later = (h.0, later)

IsBelow-put : (l k : List ℕ) (n : Node) (ms : Members) → slice_cmp nat_cmp l k ≡ Less → IsBelow l ms → IsBelow l (put k n ms)
IsBelow-put l k n no_members b h = (b, tt)
IsBelow-put l k n (member m o ms) b h =
    below_at (slice_cmp nat_cmp k m) l k m n o ms b h (IsBelow-put l k n ms b h.1)

pub IsBelow-below : (k l : List ℕ) (ms : Members) → slice_cmp nat_cmp k l ≡ Less → IsBelow l ms → IsBelow k ms
IsBelow-below k l no_members b h = tt
IsBelow-below k l (member m n ms) b h = (nat_list_cmp_total.trans k l m b h.0, IsBelow-below k l ms b h.1)

ascending_at : (c : Ordering) (k m : List ℕ) (n o : Node) (ms : Members)
    → slice_cmp nat_cmp k m ≡ c → IsBelow m ms × AreAscending ms → AreAscending (put k n ms)
    → AreAscending (match_ordering c (member k n (member m o ms)) (member m n ms) (member m o (put k n ms)))
ascending_at Less k m n o ms is h later = ((is, IsBelow-below k m ms is h.0), h)
ascending_at Equal k m n o ms is h later = h
ascending_at Greater k m n o ms is h later =
    let after : slice_cmp nat_cmp m k ≡ Less = nat_list_cmp_total.antisymm m k ∙ ap ordering_reverse is in
    (IsBelow-put m k n ms after h.0, later)

pub AreAscending-put : (k : List ℕ) (n : Node) (ms : Members) → AreAscending ms → AreAscending (put k n ms)
AreAscending-put k n no_members h = (tt, tt)
AreAscending-put k n (member m o ms) h = ascending_at _ k m n o ms refl h (AreAscending-put k n ms h.1)

sound_at : (c : Ordering) (k m : List ℕ) (n o : Node) (ms : Members) → IsSound n → IsSound o × MembersAreSound ms → MembersAreSound (put k n ms)
    → MembersAreSound (match_ordering c (member k n (member m o ms)) (member m n ms) (member m o (put k n ms)))
sound_at Less k m n o ms s h later = (s, h)
sound_at Equal k m n o ms s h later = (s, h.1)
sound_at Greater k m n o ms s h later = (h.0, later)

pub MembersAreSound-put : (k : List ℕ) (n : Node) (ms : Members) → IsSound n → MembersAreSound ms → MembersAreSound (put k n ms)
MembersAreSound-put k n no_members s h = (s, tt)
MembersAreSound-put k n (member m o ms) s h = sound_at _ k m n o ms s h (MembersAreSound-put k n ms s h.1)

-- ---- the tree of a text is sound

in_range : (z : ℤ) (b : Bool) → is_js_int z ≡ b → IsSound (cond b (whole z) odd)
in_range z true e = ltb-true (unsigned_abs z) (2 ^ 53) e
in_range z false e = tt

IsSound-integer_node : (z : ℤ) → IsSound (integer_node z)
IsSound-integer_node z = in_range z _ refl

IsSound-number_node : (n : json.Num) → IsSound (number_node n)
IsSound-number_node (json.unsigned n) = IsSound-integer_node (pos n)
IsSound-number_node (json.negative z) = IsSound-integer_node z
IsSound-number_node (json.float x) = tt

abbrev Holds : {A : Type 0} → (A → Type 0) → Option A → Type 0
Holds P None = ⊤
Holds P (Some a) = P a

Holds-map : {A B : Type 0} (P : A → Type 0) (Q : B → Type 0) (f : A → B) → ((a : A) → P a → Q (f a)) → (o : Option A) → Holds P o → Holds Q (option_map f o)
Holds-map P Q f k None h = tt
Holds-map P Q f k (Some a) h = k a h

Holds-and_then : {A B : Type 0} (P : A → Type 0) (Q : B → Type 0) (f : A → Option B)
    → ((a : A) → P a → Holds Q (f a)) → (o : Option A) → Holds P o → Holds Q (option_and_then f o)
Holds-and_then P Q f k None h = tt
Holds-and_then P Q f k (Some a) h = k a h

always : {A : Type 0} (P : A → Type 0) → ((a : A) → P a) → (o : Option A) → Holds P o
always P k None = tt
always P k (Some a) = k a

abbrev DataIsSound : json.Data → Type 0
DataIsSound d = IsSound (of_data d)

abbrev DataAreSound : json.Items → Type 0
DataAreSound ds = ItemsAreSound (text.of_items ds)

abbrev MembersFit : json.Members → Type 0
MembersFit ms = AreAscending (text.of_members ms) × MembersAreSound (text.of_members ms)

MembersFit-put : (k : List ℕ) (d : json.Data) (ms : json.Members) → DataIsSound d → MembersFit ms → MembersFit (json.put k d ms)
MembersFit-put k d ms s h =
    rw of_members-put (AreAscending-put k (of_data d) (text.of_members ms) h.0, MembersAreSound-put k (of_data d) (text.of_members ms) s h.1)

mutual
  sound_json : (j : tree.Json) → Holds DataIsSound (of_json j)
  sound_json tree.null = tt
  sound_json (tree.boolean b) = tt
  sound_json (tree.number s) = Holds-map (λ _. ⊤) DataIsSound json.number (λ n h. IsSound-number_node n) (number_of s) (always _ (λ _. tt) _)
  sound_json (tree.string s) = tt
  sound_json (tree.array js) = Holds-map DataAreSound DataIsSound json.array (λ ds h. h) _ (sound_items js)
  sound_json (tree.object ms) = Holds-map MembersFit DataIsSound json.object (λ es h. h) _ (sound_members ms json.no_members (tt, tt))

  sound_items : (js : tree.Items) → Holds DataAreSound (of_items js)
  sound_items tree.no_items = tt
  sound_items (tree.item j js) =
      Holds-and_then DataIsSound DataAreSound _ (λ d s. Holds-map DataAreSound DataAreSound (json.item d) (λ ds h. (s, h)) _ (sound_items js)) _ (sound_json j)

  sound_members : (ms : tree.Members) (found : json.Members) → MembersFit found → Holds MembersFit (of_members ms found)
  sound_members tree.no_members found h = h
  sound_members (tree.member k j ms) found h =
      Holds-and_then DataIsSound MembersFit _ (λ d s. sound_members ms (json.put k d found) (MembersFit-put k d found s h)) _ (sound_json j)

pub Holds-tree_of : (s : List ℕ) → Holds IsSound (tree_of s)
Holds-tree_of s =
    let o : Option tree.Json = option_and_then (λ p. tree.if_last p.0 p.1) (tree.value max_depth (tokens s)) in
    Holds-map DataIsSound IsSound of_data (λ d h. h) (read s)
    (Holds-and_then (λ _. ⊤) DataIsSound of_json (λ j h. sound_json j) o (always (λ _. ⊤) (λ _. tt) o))

pub IsSound-tree_of : (s : List ℕ) (n : Node) → tree_of s ≡ Some n → IsSound n
IsSound-tree_of s n e = subst (Holds IsSound) e (Holds-tree_of s)

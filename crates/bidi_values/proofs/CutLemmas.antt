-- What cutting does to a tree, and to the trees of remote values.
use Rattle.std.proofs.Common.{◌≡◌, ◌≤◌, ◌<◌, ◌+◌, ℕ, zero, suc, max, Bool, true, false, List, [], ◌∷◌, length, get_or, set, refl, sym, ap, ◌∙◌, arith}
use Rattle.std.proofs.Common.{Option, Some, None, String, Global, Vec, codes, bytes_eq, map as list_map}
use Rattle.std.proofs.lemmas.Slice.Eq.{bytes_eq-Decides}
use Rattle.std.specs.Prelude.{if◌then◌else◌}
use Rattle.std.specs.Cmp.Lexicographic.{slice_cmp}
use Rattle.std.specs.List.{list_any}
use Rattle.std.specs.Ordering.{nat_cmp, match_ordering}
use Rattle.bidi_tree.specs.Node.{Node, null, boolean, whole, odd, text, list, map, Items, no_items, item, Members, no_members, member, get_member, get_of}
use Rattle.bidi_tree.specs.Node.{levels, items_levels, members_levels}
use Rattle.bidi_tree.specs.View.{items_of}
use Rattle.bidi_values.specs.Cut.{holds_values, cut, cut_items, cut_members}
use Rattle.bidi_values.specs.Kinds.{list_text, pairs_text}
use Rattle.bidi_values.specs.RemoteValue.{held_with_value}
use Rattle.bidi_values.specs.RemoteView.{remote_tree, remote_pair_tree, RemoteIsWell}
use Rattle.bidi_values.specs.SiblingLaws.{around}
use Rattle.bidi_values.specs.contracts.remote_value.RemotePlainNestsRemoteListRemotePairs.TheImpl as remote
use Rattle.bidi_values.specs.declared.held.Held.{Held as HeldBy}
use Rattle.bidi_values.specs.declared.kinds.ListKind.{ListKind}
use Rattle.bidi_values.specs.declared.kinds.ListKind.TheVariants as array
use Rattle.bidi_values.specs.declared.kinds.PairsKind.{PairsKind}
use Rattle.bidi_values.specs.declared.kinds.PairsKind.TheVariants as object
use Rattle.bidi_values.specs.declared.nested.Nested.{Nested, List as ListOf, Pairs as PairsOf}
use Rattle.bidi_values.specs.declared.nested.NestedPair.{NestedPair}
use Rattle.bidi_values.specs.declared.remote_value.RemotePlain.{RemotePlain}
use Rattle.bidi_values.proofs.NestedLemmas.{list_tree, pairs_list_tree}
use Rattle.bidi_values.proofs.WellLemmas.{remote-well}

-- ---- trees

-- no tree has more levels than before
mutual
  pub cut-levels : (d : ℕ) (t : Node) → levels (cut d t) ≤ levels t
  cut-levels d null = omega arith
  cut-levels d (boolean b) = omega arith
  cut-levels d (whole z) = omega arith
  cut-levels d odd = omega arith
  cut-levels d (text s) = omega arith
  cut-levels d (list ts) = let few = cut_items-levels d ts in omega (arith, few)
  cut-levels d (map ms) = either (holds_values ms) (cut_members-levels d ms)
    where
      either : (b : Bool) → members_levels (cut_members d ms) ≤ members_levels ms
          → suc (members_levels (if b then cut_members d ms else ms)) ≤ suc (members_levels ms)
      either true few = omega (arith, few)
      either false few = omega arith

  pub cut_items-levels : (d : ℕ) (ts : Items) → items_levels (cut_items d ts) ≤ items_levels ts
  cut_items-levels d no_items = omega arith
  cut_items-levels d (item t ts) = let here = cut-levels d t in let rest = cut_items-levels d ts in omega (arith, here, rest)

  pub cut_members-levels : (d : ℕ) (ms : Members) → members_levels (cut_members d ms) ≤ members_levels ms
  cut_members-levels d no_members = omega arith
  cut_members-levels zero (member k t ms) = either (bytes_eq k (codes "value")) (cut_members-levels zero ms)
    where
      either : (b : Bool) → members_levels (cut_members zero ms) ≤ members_levels ms
          → members_levels (if b then cut_members zero ms else member k t (cut_members zero ms)) ≤ max (levels t) (members_levels ms)
      either true few = omega (arith, few)
      either false few = omega (arith, few)
  cut_members-levels (suc d) (member k t ms) = either (bytes_eq k (codes "value")) (cut-levels d t) (cut_members-levels (suc d) ms)
    where
      either : (b : Bool) → levels (cut d t) ≤ levels t → members_levels (cut_members (suc d) ms) ≤ members_levels ms
          → max (levels (if b then cut d t else t)) (members_levels (cut_members (suc d) ms)) ≤ max (levels t) (members_levels ms)
      either true here few = omega (arith, here, few)
      either false here few = omega (arith, few)

-- each member but `value` stays: so the type does
pub cut_members-type : (d : ℕ) (ms : Members) → get_member (codes "type") (cut_members d ms) ≡ get_member (codes "type") ms
cut_members-type d no_members = refl
cut_members-type zero (member k t ms) = by_name (bytes_eq k (codes "value")) refl (cut_members-type zero ms)
  where
    by_name : (b : Bool) → bytes_eq k (codes "value") ≡ b → get_member (codes "type") (cut_members zero ms) ≡ get_member (codes "type") ms
        → get_member (codes "type") (if b then cut_members zero ms else member k t (cut_members zero ms)) ≡ get_member (codes "type") (member k t ms)
    by_name true e rest =
        let is : k ≡ codes "value" = (bytes_eq-Decides k (codes "value")).0 e in
        rest ∙ ap (λ l. get_member (codes "type") (member l t ms)) (sym is)
    by_name false e rest = ap (λ x. match_ordering (slice_cmp nat_cmp (codes "type") k) x (Some t) x) rest
cut_members-type (suc d) (member k t ms) = by_name (bytes_eq k (codes "value")) refl (cut_members-type (suc d) ms)
  where
    by_name : (b : Bool) → bytes_eq k (codes "value") ≡ b → get_member (codes "type") (cut_members (suc d) ms) ≡ get_member (codes "type") ms
        → get_member (codes "type") (member k (if b then cut d t else t) (cut_members (suc d) ms)) ≡ get_member (codes "type") (member k t ms)
    by_name true e rest =
        let is : k ≡ codes "value" = (bytes_eq-Decides k (codes "value")).0 e in
        ap (λ l. get_member (codes "type") (member l (cut d t) (cut_members (suc d) ms))) is
        ∙ rest ∙ ap (λ l. get_member (codes "type") (member l t ms)) (sym is)
    by_name false e rest = ap (λ x. match_ordering (slice_cmp nat_cmp (codes "type") k) x (Some t) x) rest

pub cut-type : (d : ℕ) (t : Node) → get_of (codes "type") (cut d t) ≡ get_of (codes "type") t
cut-type d null = refl
cut-type d (boolean b) = refl
cut-type d (whole z) = refl
cut-type d odd = refl
cut-type d (text s) = refl
cut-type d (list ts) = refl
cut-type d (map ms) = either (holds_values ms)
  where
    either : (b : Bool) → get_member (codes "type") (if b then cut_members d ms else ms) ≡ get_member (codes "type") ms
    either true = cut_members-type d ms
    either false = refl

-- ---- maps of a type

-- a type whose values hold others
abbrev is_holder : List ℕ → Bool
is_holder s = list_any (λ type. bytes_eq type s) (codes "array" ∷ codes "set" ∷ codes "object" ∷ codes "map" ∷ [])

list-holds : (k : ListKind) → is_holder (list_text k) ≡ true
list-holds array.Array = refl
list-holds array.Set = refl

pairs-hold : (k : PairsKind) → is_holder (pairs_text k) ≡ true
pairs-hold object.Object = refl
pairs-hold object.Map = refl

first-of : (b : Bool) (x y : Members) → b ≡ true → map (if b then x else y) ≡ map x
first-of b x y e = ap (λ c. map (if c then x else y)) e

-- what holds others has its value cut one level less
cut-held : (d : ℕ) (s : List ℕ) (h i : Option (String Global)) (t : Node) → is_holder s ≡ true → cut (suc d) (held_with_value s h i t) ≡ held_with_value s h i (cut d t)
cut-held d s None None t e = first-of (is_holder s) _ _ e
cut-held d s None (Some j) t e = first-of (is_holder s) _ _ e
cut-held d s (Some g) None t e = first-of (is_holder s) _ _ e
cut-held d s (Some g) (Some j) t e = first-of (is_holder s) _ _ e

-- ---- remote values

abbrev RemoteOf : Type 0
RemoteOf = Nested RemotePlain (HeldBy ListKind) (HeldBy PairsKind)

abbrev PairOf : Type 0
PairOf = NestedPair RemotePlain (HeldBy ListKind) (HeldBy PairsKind)

-- the items of a list, each cut
items-cut : {X : Type 0} (f : X → Node) (d : ℕ) (xs : List X) → items_of (list_map (λ x. cut d (f x)) xs) ≡ cut_items d (items_of (list_map f xs))
items-cut f d [] = refl
items-cut f d (x ∷ xs) = ap (item (cut d (f x))) (items-cut f d xs)

pub list_cut : (d k : ℕ) (v : RemoteOf) (h : HeldBy ListKind) (vs ws : Vec RemoteOf Global) → d ≡ suc k → v ≡ ListOf h vs
    → list_map remote_tree ws.items ≡ list_map (λ w. cut k (remote_tree w)) vs.items → remote_tree (ListOf h ws) ≡ cut d (remote_tree v)
list_cut d k v h vs ws deep is e =
    let before = items_of (list_map remote_tree vs.items) in
    list_tree remote.ghosts.nesting h ws (list_map (λ w. cut k (remote_tree w)) vs.items) e
    ∙ ap (λ x. around remote.ghosts.nesting.list h (list x)) (items-cut remote_tree k vs.items)
    ∙ sym (cut-held k (list_text h.kind) h.handle h.internal_id (list before) (list-holds h.kind))
    ∙ ap (cut (suc k)) (sym (list_tree remote.ghosts.nesting h vs (list_map remote_tree vs.items) refl))
    ∙ ap (λ m. cut m (remote_tree (ListOf h vs))) (sym deep) ∙ ap (λ w. cut d (remote_tree w)) (sym is)

pub pairs_cut : (d k : ℕ) (v : RemoteOf) (h : HeldBy PairsKind) (ps qs : Vec PairOf Global) → d ≡ suc k → v ≡ PairsOf h ps
    → list_map remote_pair_tree qs.items ≡ list_map (λ q. cut k (remote_pair_tree q)) ps.items → remote_tree (PairsOf h qs) ≡ cut d (remote_tree v)
pairs_cut d k v h ps qs deep is e =
    let before = items_of (list_map remote_pair_tree ps.items) in
    pairs_list_tree remote.ghosts.nesting h qs (list_map (λ q. cut k (remote_pair_tree q)) ps.items) e
    ∙ ap (λ x. around remote.ghosts.nesting.pairs h (list x)) (items-cut remote_pair_tree k ps.items)
    ∙ sym (cut-held k (pairs_text h.kind) h.handle h.internal_id (list before) (pairs-hold h.kind))
    ∙ ap (cut (suc k)) (sym (pairs_list_tree remote.ghosts.nesting h ps (list_map remote_pair_tree ps.items) refl))
    ∙ ap (λ m. cut m (remote_tree (PairsOf h ps))) (sym deep) ∙ ap (λ w. cut d (remote_tree w)) (sym is)

-- what is well stays well
pub well_cut : (d : ℕ) (v w : RemoteOf) → remote_tree w ≡ cut d (remote_tree v) → RemoteIsWell v → RemoteIsWell w
well_cut d v w is well =
    let same = ap levels is in let few = cut-levels d (remote_tree v) in let cap = well.cap in remote-well w (omega (arith, same, few, cap))

-- ---- a loop over items

-- the images of the items, of which the first were changed
abbrev pub partly : {A C : Type 0} → (A → C) → (C → C) → ℕ → List A → List C
partly f h zero xs = list_map f xs
partly f h (suc i) [] = []
partly f h (suc i) (x ∷ xs) = h (f x) ∷ partly f h i xs

-- all were
pub partly-all : {A C : Type 0} (f : A → C) (h : C → C) (i : ℕ) (xs : List A) → length xs ≤ i → partly f h i xs ≡ list_map (λ x. h (f x)) xs
partly-all f h zero [] all = refl
partly-all f h zero (x ∷ xs) all = absurd (omega arith)
partly-all f h (suc i) [] all = refl
partly-all f h (suc i) (x ∷ xs) all = ap (◌∷◌ (h (f x))) (partly-all f h i xs (omega arith))

one_more : {A C : Type 0} (f : A → C) (h : C → C) (i : ℕ) (was items : List A) (x y : A) → i < length was
    → list_map f items ≡ partly f h i was → x ≡ get_or items i x → f y ≡ h (f x) → list_map f (set items i y) ≡ partly f h (suc i) was
one_more f h i [] items x y less same at is = absurd (omega arith)
one_more f h zero (w ∷ was) [] x y less same at is = cc
one_more f h zero (w ∷ was) (v ∷ items) x y less same at is = cc
one_more f h (suc i) (w ∷ was) [] x y less same at is = cc
one_more f h (suc i) (w ∷ was) (v ∷ items) x y less same at is = let rest = one_more f h i was items x y (omega arith) (cc) at is in cc

-- the next one was changed
pub partly-next : {A C : Type 0} (f : A → C) (h : C → C) (i : ℕ) (was items : List A) (x y : A) → i < length was
    → list_map f items ≡ partly f h i was → x ≡ get_or items i x → f y ≡ h (f x) → list_map f (set items i y) ≡ partly f h (i + 1) was
partly-next f h i was items x y less same at is =
    let next : suc i ≡ i + 1 = omega arith in one_more f h i was items x y less same at is ∙ ap (λ k. partly f h k was) next

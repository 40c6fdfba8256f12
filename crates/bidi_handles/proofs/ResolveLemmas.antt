-- Resolving arguments one by one and part by part.
use Rattle.std.proofs.Common.{◌≡◌, ◌∙◌, ◌<◌, ◌≤◌, ◌+◌, ℕ, List, [], ◌∷◌, ◌++◌, drop, get_or, length, map, codes, true, false, true≢false}
use Rattle.std.proofs.Common.{String, string_bytes, Option, Some, None, Result, Ok, Err, Vec, Global, refl, sym, ap, subst}
use Rattle.std.specs.Prelude.{◌||◌, is_some, option_map}
use Rattle.std.specs.Result.{IsErrAnd}
use Rattle.std.proofs.lemmas.List.{map-append, drop_more, drop_all}
use Rattle.std.proofs.lemmas.Slice.Eq.{bytes_eq-Decides}
use Rattle.bidi_tree.specs.Node.{Node, null, boolean, whole, odd, text, list as list_node, map as map_node, Items, no_items, item, no_members, member, get_member, get_of}
use Rattle.bidi_tree.specs.View.{items_of}
use Rattle.bidi_tree.proofs.MemberLemmas.{get_member-put, get_member-put_other}
use Rattle.bidi_shape.specs.Parts.{put_part}
use Rattle.bidi_shape.specs.ValueLaws.{others_of}
use Rattle.bidi_params.specs.declared.error_code.ErrorCode.{ErrorCode}
use Rattle.bidi_params.specs.declared.error_code.ErrorCode.TheVariants.{NoSuchHandle, NoSuchNode}
use Rattle.bidi_values.specs.SiblingLaws.{around}
use Rattle.bidi_values.specs.Content.{content, pair_content, contents_of, pairs_of, content-Plain, content-List, content-Pairs}
use Rattle.bidi_values.specs.Kinds.{list_text, pairs_text}
use Rattle.bidi_values.specs.NestedLaws.{NestingOf, value_tree, values_tree, pairs_tree}
use Rattle.bidi_values.specs.View.{nested_tree, nested_pair_tree}
use Rattle.bidi_values.specs.declared.held.Held.{Held as HeldBy}
use Rattle.bidi_values.specs.declared.kinds.ListKind.{ListKind}
use Rattle.bidi_values.specs.declared.kinds.ListKind.TheVariants as array
use Rattle.bidi_values.specs.declared.kinds.PairsKind.{PairsKind}
use Rattle.bidi_values.specs.declared.kinds.PairsKind.TheVariants as object
use Rattle.bidi_values.specs.declared.local_value.LocalPlain.{LocalPlain}
use Rattle.bidi_values.specs.declared.remote_value.RemotePlain.{RemotePlain}
use Rattle.bidi_values.specs.declared.reference.SharedReference.{SharedReference}
use Rattle.bidi_values.specs.declared.reference.RemoteObjectReference.{RemoteObjectReference}
use Rattle.bidi_values.specs.contracts.reference.SharedReferenceShape.TheImpl as shared
use Rattle.bidi_values.specs.contracts.reference.RemoteObjectReferenceShape.TheImpl as objects
use Rattle.bidi_values.specs.declared.reference.Reference.{Reference}
use Rattle.bidi_values.specs.declared.reference.Reference.TheVariants.{Shared}
use Rattle.bidi_values.specs.contracts.local_value.LocalPlainShape.TheImpl as plains
use Rattle.bidi_handles.specs.declared.handle.HeldValue.{HeldValue}
use Rattle.std.specs.Borrow.{Bor}
use Rattle.std.specs.declared.rc.Rc.{Rc}
use Rattle.std.specs.Prelude.{IfSome}
use Rattle.bidi_values.specs.contracts.reference.ReferenceShape.TheImpl as references
use Rattle.bidi_values.specs.declared.nested.Nested.{Nested, Plain as PlainOf, List as ListOf, Pairs as PairsOf}
use Rattle.bidi_values.specs.declared.nested.NestedPair.{NestedPair}
use Rattle.bidi_values.specs.contracts.local_value.LocalPlainNestsListKindPairsKind.TheImpl as local
use Rattle.bidi_values.specs.contracts.remote_value.RemotePlainNestsRemoteListRemotePairs.TheImpl as remote
use Rattle.bidi_handles.specs.declared.refusal.Refusal.{Refusal}
use Rattle.bidi_handles.specs.declared.refusal.Refusal.TheVariants.{Code, NoMemory}
use Rattle.bidi_handles.specs.Checks.{◌>>=◌, found}
use Rattle.bidi_handles.specs.Resolves.{Gives, this_argument}
use Rattle.bidi_handles.specs.Values.{Held, resolved, resolved_items, argument}
use Rattle.bidi_values.specs.RemoteView.{remote_tree}
use Rattle.bidi_handles.specs.ValuesInHand.{local_tree, local_pair_tree, remote_trees, remote_pair_trees, held_tree, shared_tree}

-- ---- references

-- by a shared id there is no node
pub by-shared : (held : Held) (t id : Node) → get_of (codes "sharedId") t ≡ Some id → resolved held t ≡ Err NoSuchNode
by-shared held (map_node ms) id is = rw is refl
by-shared held null id is = cc
by-shared held (boolean b) id is = cc
by-shared held (whole z) id is = cc
by-shared held odd id is = cc
by-shared held (text s) id is = cc
by-shared held (list_node ts) id is = cc

-- without one a handle has its value
pub by-handle : {A : Type 0} (view : A → Node) (held : Held) (r : Result A Refusal) (t : Node) (id : List ℕ)
    → get_of (codes "sharedId") t ≡ None → get_of (codes "handle") t ≡ Some (text id)
    → Gives view r (found (held id) NoSuchHandle) → Gives view r (resolved held t)
by-handle view held r (map_node ms) id none is gives = rw (none, is) gives
by-handle view held r null id none is gives = absurd (cc)
by-handle view held r (boolean b) id none is gives = absurd (cc)
by-handle view held r (whole z) id none is gives = absurd (cc)
by-handle view held r odd id none is gives = absurd (cc)
by-handle view held r (text s) id none is gives = absurd (cc)
by-handle view held r (list_node ts) id none is gives = absurd (cc)

-- a reference has what it is by
pub shared-there : (r : SharedReference) → get_of (codes "sharedId") (shared.ghosts.shape.tree_of r) ≡ Some (text (string_bytes r.shared_id))
shared-there r =
    get_member-put (codes "sharedId") (text (string_bytes r.shared_id))
    (put_part (codes "handle") (option_map (λ h. text (string_bytes h)) r.handle) (others_of r.ext))

pub handle-there : (r : RemoteObjectReference) → get_of (codes "handle") (objects.ghosts.shape.tree_of r) ≡ Some (text (string_bytes r.handle))
handle-there r =
    get_member-put (codes "handle") (text (string_bytes r.handle))
    (put_part (codes "sharedId") (option_map (λ s. text (string_bytes s)) r.shared_id) (others_of r.ext))

pub shared-refused : (held : Held) (r : Reference) (s : SharedReference) → r ≡ Shared s → resolved held (references.ghosts.shape.tree_of r) ≡ Err NoSuchNode
shared-refused held r s is =
    ap (λ r. resolved held (references.ghosts.shape.tree_of r)) is
    ∙ by-shared held (shared.ghosts.shape.tree_of s) (text (string_bytes s.shared_id)) (shared-there s)

-- a reference has a member `sharedId` if it has a shared id, or a further member of that name
pub shared_id-there : (r : RemoteObjectReference)
    → is_some (get_of (codes "sharedId") (objects.ghosts.shape.tree_of r)) ≡ (is_some r.shared_id || is_some (get_member (codes "sharedId") (others_of r.ext)))
shared_id-there r =
    ap is_some
    (get_member-put_other (codes "sharedId") (codes "handle") (text (string_bytes r.handle))
    (put_part (codes "sharedId") (option_map (λ s. text (string_bytes s)) r.shared_id) (others_of r.ext))
    (λ e. true≢false (sym ((bytes_eq-Decides (codes "sharedId") (codes "handle")).1 e))))
    ∙ by r.shared_id
  where
    by : (id : Option (String Global))
        → is_some (get_member (codes "sharedId") (put_part (codes "sharedId") (option_map (λ s. text (string_bytes s)) id) (others_of r.ext)))
        ≡ (is_some id || is_some (get_member (codes "sharedId") (others_of r.ext)))
    by None = refl
    by (Some id) = ap is_some (get_member-put (codes "sharedId") (text (string_bytes id)) (others_of r.ext))

-- the tree of a local value that has no others inside
pub local-plain : (v : Nested LocalPlain ListKind PairsKind) (p : LocalPlain) → v ≡ PlainOf p → local_tree v ≡ plains.ghosts.shape.tree_of p
local-plain v p is = ap local_tree is ∙ ap (value_tree local.ghosts.nesting) (content-Plain p)

-- the value of a handle that was found
pub handle-resolved : (held : Held) (r : Option (Bor (Rc HeldValue Global))) (t : Node) (id : List ℕ)
    → get_of (codes "sharedId") t ≡ None → get_of (codes "handle") t ≡ Some (text id)
    → option_map (λ h. held_tree h.now.value) r ≡ held id → IfSome r (λ h. resolved held t ≡ Ok (shared_tree h.now))
handle-resolved held None t id none there is = tt
handle-resolved held (Some h) t id none there is =
    by-handle (λ n. n) held (Ok (held_tree h.now.value)) t id none there (ap (λ o. found o NoSuchHandle) (sym is))

-- what is there, and what is not
pub there : {A : Type 0} (o : Option A) → is_some o ≡ true → (x : A) × (o ≡ Some x)
there None is = absurd (cc)
there (Some x) is = (x, refl)

pub none-there : {A : Type 0} (o : Option A) → is_some o ≡ false → o ≡ None
none-there None is = refl
none-there (Some x) is = cc

pub there-seen : {A B : Type 0} (f : A → B) (o : Option A) (q : Option B) → option_map f o ≡ q → is_some o ≡ is_some q
there-seen f None q is = ap is_some is
there-seen f (Some x) q is = ap is_some is

-- ---- `this`

pub this-passes : (held : Held) (t u : Node) → argument held t ≡ Ok u → this_argument held (Some t) ≡ Ok (Some u)
this-passes held t u is = rw is refl

-- ---- the items of a list

-- some items after those that are done
abbrev pub behind : List Node → Items → Items
behind [] ts = ts
behind (d ∷ done) ts = item d (behind done ts)

abbrev pub with_done : List Node → Result Items ErrorCode → Result Items ErrorCode
with_done done (Ok ts) = Ok (behind done ts)
with_done done (Err code) = Err code

behind-more : (done : List Node) (u : Node) (us : Items) → behind done (item u us) ≡ behind (done ++ u ∷ []) us
behind-more [] u us = refl
behind-more (d ∷ done) u us = ap (item d) (behind-more done u us)

pub behind-none : (done : List Node) → behind done no_items ≡ items_of done
behind-none [] = refl
behind-none (d ∷ done) = ap (item d) (behind-none done)

pub with_done-none : (r : Result Items ErrorCode) → with_done [] r ≡ r
with_done-none (Ok ts) = refl
with_done-none (Err code) = refl

-- one more is done
pub done-more : (held : Held) (done : List Node) (t u : Node) (ts : Items)
    → resolved held t ≡ Ok u → with_done done (resolved_items held (item t ts)) ≡ with_done (done ++ u ∷ []) (resolved_items held ts)
done-more held done t u ts is = rw is (by (resolved_items held ts))
  where
    by : (us : Result Items ErrorCode) → with_done done (us >>= λ vs. Ok (item u vs)) ≡ with_done (done ++ u ∷ []) us
    by (Ok us) = ap Ok (behind-more done u us)
    by (Err code) = refl

-- ---- lists of values, and of pairs

-- a map of a type and a value
abbrev typed : List ℕ → Node → Node
typed s t = map_node (member (codes "type") (text s) (member (codes "value") t no_members))

typed-passes : (held : Held) (s : List ℕ) (ts us : Items)
    → resolved_items held ts ≡ Ok us → resolved held (typed s (list_node ts)) ≡ Ok (typed s (list_node us))
typed-passes held s ts us is = rw is refl

typed-refused : (held : Held) (s : List ℕ) (ts : Items) (code : ErrorCode)
    → resolved_items held ts ≡ Err code → resolved held (typed s (list_node ts)) ≡ Err code
typed-refused held s ts code is = rw is refl

module _ {P L M : Type 0} (n : NestingOf P L M) where
  values_tree-of : (vs : List (Nested P L M)) → values_tree n (contents_of (map content vs)) ≡ items_of (map (nested_tree n) vs)
  values_tree-of [] = refl
  values_tree-of (v ∷ vs) = ap (item (nested_tree n v)) (values_tree-of vs)

  pairs_tree-of : (ps : List (NestedPair P L M)) → pairs_tree n (pairs_of (map pair_content ps)) ≡ items_of (map (nested_pair_tree n) ps)
  pairs_tree-of [] = refl
  pairs_tree-of (p ∷ ps) = ap (item (nested_pair_tree n p)) (pairs_tree-of ps)

  pub list_tree : (l : L) (vs : Vec (Nested P L M) Global) → nested_tree n (ListOf l vs) ≡ around n.list l (list_node (items_of (map (nested_tree n) vs.items)))
  list_tree l vs = ap (value_tree n) (content-List l vs) ∙ ap (λ ts. around n.list l (list_node ts)) (values_tree-of vs.items)

  pub of_pairs_tree : (m : M) (ps : Vec (NestedPair P L M) Global)
      → nested_tree n (PairsOf m ps) ≡ around n.pairs m (list_node (items_of (map (nested_pair_tree n) ps.items)))
  of_pairs_tree m ps = ap (value_tree n) (content-Pairs m ps) ∙ ap (λ ts. around n.pairs m (list_node ts)) (pairs_tree-of ps.items)

around-list : (k : ListKind) (t : Node) → around local.ghosts.nesting.list k t ≡ typed (list_text k) t
around-list array.Array t = refl
around-list array.Set t = refl

around-pairs : (k : PairsKind) (t : Node) → around local.ghosts.nesting.pairs k t ≡ typed (pairs_text k) t
around-pairs object.Object t = refl
around-pairs object.Map t = refl

held-list : (k : ListKind) (t : Node) → around remote.ghosts.nesting.list (record { kind = k; handle = None; internal_id = None }) t ≡ typed (list_text k) t
held-list array.Array t = refl
held-list array.Set t = refl

held-pairs : (k : PairsKind) (t : Node) → around remote.ghosts.nesting.pairs (record { kind = k; handle = None; internal_id = None }) t ≡ typed (pairs_text k) t
held-pairs object.Object t = refl
held-pairs object.Map t = refl

-- the tree of a list, and of a list of pairs, of local values
local-list : (v : Nested LocalPlain ListKind PairsKind) (k : ListKind) (vs : Vec (Nested LocalPlain ListKind PairsKind) Global)
    → v ≡ ListOf k vs → local_tree v ≡ typed (list_text k) (list_node (items_of (map local_tree vs.items)))
local-list v k vs is = ap local_tree is ∙ (list_tree local.ghosts.nesting k vs ∙ around-list k _)

local-pairs : (v : Nested LocalPlain ListKind PairsKind) (k : PairsKind) (ps : Vec (NestedPair LocalPlain ListKind PairsKind) Global)
    → v ≡ PairsOf k ps → local_tree v ≡ typed (pairs_text k) (list_node (items_of (map local_pair_tree ps.items)))
local-pairs v k ps is = ap local_tree is ∙ (of_pairs_tree local.ghosts.nesting k ps ∙ around-pairs k _)

-- the value that an array, or an object of pairs, resolves to
pub list-given : (held : Held) (v : Nested LocalPlain ListKind PairsKind) (k : ListKind) (vs : Vec (Nested LocalPlain ListKind PairsKind) Global)
    (us : Vec (Nested RemotePlain (HeldBy ListKind) (HeldBy PairsKind)) Global) → v ≡ ListOf k vs
    → resolved_items held (items_of (map local_tree vs.items)) ≡ Ok (remote_trees us)
    → resolved held (local_tree v) ≡ Ok (remote_tree (ListOf (record { kind = k; handle = None; internal_id = None }) us))
list-given held v k vs us is given =
    ap (resolved held) (local-list v k vs is) ∙ (typed-passes held (list_text k) (items_of (map local_tree vs.items)) (remote_trees us) given
    ∙ ap Ok (sym (list_tree remote.ghosts.nesting (record { kind = k; handle = None; internal_id = None }) us ∙ held-list k _)))

pub pairs-given : (held : Held) (v : Nested LocalPlain ListKind PairsKind) (k : PairsKind) (ps : Vec (NestedPair LocalPlain ListKind PairsKind) Global)
    (qs : Vec (NestedPair RemotePlain (HeldBy ListKind) (HeldBy PairsKind)) Global) → v ≡ PairsOf k ps
    → resolved_items held (items_of (map local_pair_tree ps.items)) ≡ Ok (remote_pair_trees qs)
    → resolved held (local_tree v) ≡ Ok (remote_tree (PairsOf (record { kind = k; handle = None; internal_id = None }) qs))
pairs-given held v k ps qs is given =
    ap (resolved held) (local-pairs v k ps is) ∙ (typed-passes held (pairs_text k) (items_of (map local_pair_tree ps.items)) (remote_pair_trees qs) given
    ∙ ap Ok (sym (of_pairs_tree remote.ghosts.nesting (record { kind = k; handle = None; internal_id = None }) qs ∙ held-pairs k _)))

pub list-refused : (held : Held) (v : Nested LocalPlain ListKind PairsKind) (k : ListKind)
    (vs : Vec (Nested LocalPlain ListKind PairsKind) Global) (e : Refusal) → v ≡ ListOf k vs
    → Gives remote_trees (Err e) (resolved_items held (items_of (map local_tree vs.items))) → Gives remote_tree (Err e) (resolved held (local_tree v))
list-refused held v k vs (Code code) is gives =
    ap (resolved held) (local-list v k vs is) ∙ typed-refused held (list_text k) (items_of (map local_tree vs.items)) code gives
list-refused held v k vs NoMemory is gives = tt

pub pairs-refused : (held : Held) (v : Nested LocalPlain ListKind PairsKind) (k : PairsKind)
    (ps : Vec (NestedPair LocalPlain ListKind PairsKind) Global) (e : Refusal) → v ≡ PairsOf k ps
    → Gives remote_pair_trees (Err e) (resolved_items held (items_of (map local_pair_tree ps.items))) → Gives remote_tree (Err e) (resolved held (local_tree v))
pairs-refused held v k ps (Code code) is gives =
    ap (resolved held) (local-pairs v k ps is) ∙ typed-refused held (pairs_text k) (items_of (map local_pair_tree ps.items)) code gives
pairs-refused held v k ps NoMemory is gives = tt

-- ---- one by one

-- a refusal that is returned early
pub handed : {A B : Type 0} (view : A → B) (r : Result A Refusal) (e : Refusal) (answer : Result B ErrorCode)
    → IsErrAnd r (λ f. f ≡ e) → Gives view (Err e) answer → Gives view r answer
handed view (Ok x) e answer is gives = absurd is
handed view (Err f) e answer is gives = subst (λ g. Gives view (Err g) answer) (sym is) gives

-- the first of the items that are left
module _ {A B : Type 0} (local : A → Node) (tree : B → Node) (held : Held) (xs zs : List A) (same : zs ≡ xs) where
  pub seen-more : (done after : List B) (x : A) (y : B) (i : ℕ)
      → i < length zs → x ≡ get_or zs i x → after ≡ done ++ y ∷ [] → resolved held (local x) ≡ Ok (tree y)
      → with_done (map tree done) (resolved_items held (items_of (map local (drop i xs)))) ≡ resolved_items held (items_of (map local xs))
      → with_done (map tree after) (resolved_items held (items_of (map local (drop (i + 1) xs)))) ≡ resolved_items held (items_of (map local xs))
  seen-more done after x y i below at is given so_far =
      let rest : drop i xs ≡ x ∷ drop (i + 1) xs =
      subst (λ ys. drop i ys ≡ x ∷ drop (i + 1) ys) same (drop_more zs i x below ∙ ap (λ z. z ∷ drop (i + 1) zs) (sym at)) in
      ap (λ ys. with_done (map tree ys) (resolved_items held (items_of (map local (drop (i + 1) xs))))) is
      ∙ (ap (λ ts. with_done ts (resolved_items held (items_of (map local (drop (i + 1) xs))))) (map-append tree done (y ∷ []))
      ∙ (sym (done-more held (map tree done) (local x) (tree y) (items_of (map local (drop (i + 1) xs))) given)
      ∙ (ap (λ ys. with_done (map tree done) (resolved_items held (items_of (map local ys)))) (sym rest) ∙ so_far)))

  pub seen-refused : {C : Type 0} (view : C → Items) (done : List B) (x : A) (e : Refusal) (i : ℕ)
      → i < length zs → x ≡ get_or zs i x → Gives tree (Err e) (resolved held (local x))
      → with_done (map tree done) (resolved_items held (items_of (map local (drop i xs)))) ≡ resolved_items held (items_of (map local xs))
      → Gives view (Err e) (resolved_items held (items_of (map local xs)))
  seen-refused view done x (Code code) i below at refused so_far =
      let rest : drop i xs ≡ x ∷ drop (i + 1) xs =
      subst (λ ys. drop i ys ≡ x ∷ drop (i + 1) ys) same (drop_more zs i x below ∙ ap (λ z. z ∷ drop (i + 1) zs) (sym at)) in
      sym so_far ∙ (ap (λ ys. with_done (map tree done) (resolved_items held (items_of (map local ys)))) rest ∙ rw refused refl)
  seen-refused view done x NoMemory i below at refused so_far = tt

  pub seen-all : (done : List B) (i : ℕ) → length zs ≤ i
      → with_done (map tree done) (resolved_items held (items_of (map local (drop i xs)))) ≡ resolved_items held (items_of (map local xs))
      → resolved_items held (items_of (map local xs)) ≡ Ok (items_of (map tree done))
  seen-all done i above so_far =
      let none : drop i xs ≡ [] = subst (λ ys. drop i ys ≡ []) same (drop_all i zs above) in
      sym so_far ∙ (ap (λ ys. with_done (map tree done) (resolved_items held (items_of (map local ys)))) none ∙ ap Ok (behind-none (map tree done)))

-- A value in a reply: it can have a handle if the whole value can, and it has no more levels.
use Prim.Native.String as native
use Rattle.std.proofs.Common.{◌≡◌, ◌≤◌, ℕ, List, [], ◌∷◌, Option, Some, None, Ordering, Less, Equal, Greater, nat_cmp, codes, refl, ap, arith}
use Rattle.std.proofs.Common.{unwrap_or, option_and_then, true, false, true≢false, String, Global, string_bytes, Vec, ◌++◌, ◌∙◌, sym, subst}
use Rattle.std.proofs.Common.{map as map_list, ◌<◌, ◌+◌, take, length, get_or, ap₂}
use Rattle.std.proofs.lemmas.List.{map-append, take_more}
use Rattle.std.specs.Prelude.{not, MatchOption, IfSome, IfOk, Bool, Result, Ok, Err}
use Rattle.std.specs.Cmp.Lexicographic.{slice_cmp}
use Rattle.std.specs.Ordering.{match_ordering}
use Rattle.bidi_tree.specs.Node.{Node, null, boolean, whole, odd, text, list as list_node, map, Members}
use Rattle.bidi_tree.specs.Node.{no_members, member, put, levels, members_levels, IsSound, IsWritable}
use Rattle.bidi_tree.proofs.SoundLemmas.{AreAscending-put, MembersAreSound-put}
use Rattle.bidi_tree.specs.Kind.{text_in}
use Rattle.bidi_values.specs.Cut.{cut_to}
use Rattle.bidi_values.specs.RemoteView.{remote_tree, remote_pair_tree}
use Rattle.bidi_values.specs.declared.held.Held.{Held as HeldBy}
use Rattle.bidi_values.specs.declared.kinds.ListKind.{ListKind}
use Rattle.bidi_values.specs.declared.kinds.PairsKind.{PairsKind}
use Rattle.bidi_values.specs.declared.nested.Nested.{Nested}
use Rattle.bidi_values.specs.declared.nested.Nested.{Nested, Plain as PlainOf, List as ListOf, Pairs as PairsOf}
use Rattle.bidi_values.specs.declared.nested.NestedPair.{NestedPair}
use Rattle.bidi_values.specs.declared.remote_value.RemotePlain.{RemotePlain}
use Rattle.bidi_values.specs.declared.remote_value.RemotePlain.TheVariants as of
use Rattle.bidi_values.specs.declared.reg_exp.RegExpValue.{RegExpValue}
use Rattle.bidi_values.specs.declared.opaque.Opaque.{Opaque}
use Rattle.bidi_values.specs.declared.primitive.Primitive.{Primitive}
use Rattle.bidi_values.specs.declared.primitive.Primitive.TheVariants as primitive
use Rattle.bidi_values.specs.Content.{content, content-Plain}
use Rattle.bidi_values.proofs.WellLemmas.{remote-well}
use Rattle.bidi_values.specs.NestedLaws.{value_tree, nested_shape}
use Rattle.bidi_values.specs.SiblingLaws.{around}
use Rattle.bidi_values.specs.contracts.remote_value.RemotePlainShape.TheImpl as plains
use Rattle.bidi_values.specs.contracts.remote_value.RemotePlainNestsRemoteListRemotePairs.TheImpl as remote
use Rattle.bidi_values.proofs.CutLemmas.{cut-type, cut-levels}
use Rattle.json.specs.Print.{escape_byte}
use Rattle.bidi_tree.specs.Text.{compact_text, members_text}
use Rattle.bidi_tree.specs.View.{items_of}
use Rattle.bidi_handles.specs.Showing.{BeginsWithType, IsRemote}
use Rattle.bidi_handles.specs.Values.{takes_handle, is_one_of, with_member}
use Rattle.bidi_handles.proofs.ResolveLemmas.{list_tree, of_pairs_tree}

-- ---- cut

pub cut-takes : (depth : Option ℕ) (v : Node) → takes_handle (cut_to depth v) ≡ takes_handle v
cut-takes None v = refl
cut-takes (Some d) v =
    ap (λ type. not (is_one_of ("undefined" ∷ "null" ∷ "string" ∷ "number" ∷ "boolean" ∷ "bigint" ∷ [])
    (unwrap_or (option_and_then text_in type) []))) (cut-type d v)

pub cut_to-levels : (depth : Option ℕ) (v : Node) → levels (cut_to depth v) ≤ levels v
cut_to-levels None v = omega arith
cut_to-levels (Some d) v = cut-levels d v

-- ---- a walk over what is not cut

-- two functions agree on one more of the items
pub agree-next : {X : Type 0} (f g : X → Node) (i : ℕ) (xs : List X) (x : X) → i < length xs → x ≡ get_or xs i x
    → map_list f (take i xs) ≡ map_list g (take i xs) → g x ≡ f x → map_list f (take (i + 1) xs) ≡ map_list g (take (i + 1) xs)
agree-next f g i xs x less at before here =
    let more : take (i + 1) xs ≡ take i xs ++ x ∷ [] = take_more xs i x less ∙ ap (λ y. take i xs ++ y ∷ []) (sym at) in
    ap (map_list f) more ∙ (map-append f (take i xs) (x ∷ []) ∙ (ap₂ (λ a b. a ++ b ∷ []) before (sym here)
    ∙ (sym (map-append g (take i xs) (x ∷ [])) ∙ ap (map_list g) (sym more))))

-- ---- with a handle

-- a text among the members of a map makes it no deeper
put-levels : (k s : List ℕ) (ms : Members) → members_levels (put k (text s) ms) ≤ members_levels ms
put-levels k s no_members = omega arith
put-levels k s (member l t ms) = step (slice_cmp nat_cmp k l) (put-levels k s ms)
  where
    step : (o : Ordering) → members_levels (put k (text s) ms) ≤ members_levels ms
        → members_levels (match_ordering o (member k (text s) (member l t ms)) (member l (text s) ms) (member l t (put k (text s) ms)))
        ≤ members_levels (member l t ms)
    step Less few = omega arith
    step Equal few = omega arith
    step Greater few = omega (arith, few)

pub with_member-levels : (name : native.String) (s : List ℕ) (t : Node) → levels (with_member name (text s) t) ≤ levels t
with_member-levels name s (map ms) = let few = put-levels (codes name) s ms in omega (arith, few)
with_member-levels name s null = omega arith
with_member-levels name s (boolean b) = omega arith
with_member-levels name s (whole z) = omega arith
with_member-levels name s odd = omega arith
with_member-levels name s (text u) = omega arith
with_member-levels name s (list_node ts) = omega arith

-- ---- a value with a handle is a value

-- the members beside a list, and beside pairs, with a handle
list-handled : (k : ListKind) (h i : Option (String Global)) (s : String Global) (t : Node)
    → around remote.ghosts.nesting.list (record { kind = k; handle = Some s; internal_id = i }) t
    ≡ with_member "handle" (text (string_bytes s)) (around remote.ghosts.nesting.list (record { kind = k; handle = h; internal_id = i }) t)
list-handled k None None s t = refl
list-handled k None (Some i) s t = refl
list-handled k (Some h) None s t = refl
list-handled k (Some h) (Some i) s t = refl

pairs-handled : (k : PairsKind) (h i : Option (String Global)) (s : String Global) (t : Node)
    → around remote.ghosts.nesting.pairs (record { kind = k; handle = Some s; internal_id = i }) t
    ≡ with_member "handle" (text (string_bytes s)) (around remote.ghosts.nesting.pairs (record { kind = k; handle = h; internal_id = i }) t)
pairs-handled k None None s t = refl
pairs-handled k None (Some i) s t = refl
pairs-handled k (Some h) None s t = refl
pairs-handled k (Some h) (Some i) s t = refl

-- a value that has no others inside, with a handle; a primitive one has none
abbrev plain-with : RemotePlain → String Global → RemotePlain
plain-with (of.List l) s = of.List (record l { handle = Some s })
plain-with (of.Pairs m) s = of.Pairs (record m { handle = Some s })
plain-with (of.RegExp r) s = of.RegExp (record r { handle = Some s })
plain-with (of.Date d) s = of.Date (record d { handle = Some s })
plain-with (of.Opaque o) s = of.Opaque (record o { handle = Some s })
plain-with (of.Primitive p) s = of.Primitive p

module _ (s : String Global) where
  abbrev handled : RemotePlain → Type 0
  handled p = plains.ghosts.shape.tree_of (plain-with p s) ≡ with_member "handle" (text (string_bytes s)) (plains.ghosts.shape.tree_of p)

  list-plain : (k : ListKind) (h i : Option (String Global)) → handled (of.List (record { kind = k; handle = h; internal_id = i }))
  list-plain k None None = refl
  list-plain k None (Some i) = refl
  list-plain k (Some h) None = refl
  list-plain k (Some h) (Some i) = refl

  pairs-plain : (k : PairsKind) (h i : Option (String Global)) → handled (of.Pairs (record { kind = k; handle = h; internal_id = i }))
  pairs-plain k None None = refl
  pairs-plain k None (Some i) = refl
  pairs-plain k (Some h) None = refl
  pairs-plain k (Some h) (Some i) = refl

  reg_exp-plain : (v : RegExpValue) (h i : Option (String Global)) → handled (of.RegExp (record { value = v; handle = h; internal_id = i }))
  reg_exp-plain v None None = refl
  reg_exp-plain v None (Some i) = refl
  reg_exp-plain v (Some h) None = refl
  reg_exp-plain v (Some h) (Some i) = refl

  date-plain : (v : String Global) (h i : Option (String Global)) → handled (of.Date (record { value = v; handle = h; internal_id = i }))
  date-plain v None None = refl
  date-plain v None (Some i) = refl
  date-plain v (Some h) None = refl
  date-plain v (Some h) (Some i) = refl

  opaque-plain : (k : Opaque) (h i : Option (String Global)) → handled (of.Opaque (record { kind = k; handle = h; internal_id = i }))
  opaque-plain k None None = refl
  opaque-plain k None (Some i) = refl
  opaque-plain k (Some h) None = refl
  opaque-plain k (Some h) (Some i) = refl

  primitive-takes : (p : Primitive) → takes_handle (plains.ghosts.shape.tree_of (of.Primitive p)) ≡ false
  primitive-takes primitive.Undefined = refl
  primitive-takes primitive.Null = refl
  primitive-takes (primitive.String v) = refl
  primitive-takes (primitive.Number n) = refl
  primitive-takes (primitive.Boolean b) = refl
  primitive-takes (primitive.BigInt v) = refl

  plain-handled : (p : RemotePlain) → takes_handle (plains.ghosts.shape.tree_of p) ≡ true → handled p
  plain-handled (of.List l) takes = list-plain l.kind l.handle l.internal_id
  plain-handled (of.Pairs m) takes = pairs-plain m.kind m.handle m.internal_id
  plain-handled (of.RegExp r) takes = reg_exp-plain r.value r.handle r.internal_id
  plain-handled (of.Date d) takes = date-plain d.value d.handle d.internal_id
  plain-handled (of.Opaque o) takes = opaque-plain o.kind o.handle o.internal_id
  plain-handled (of.Primitive p) takes = absurd (true≢false (sym takes ∙ primitive-takes p))

-- a tree is sound with a string among its members
sound-with : (name : native.String) (s : List ℕ) (t : Node) → IsSound t → IsSound (with_member name (text s) t)
sound-with name s (map ms) sound = (AreAscending-put (codes name) (text s) ms sound.0, MembersAreSound-put (codes name) (text s) ms tt sound.1)
sound-with name s null sound = sound
sound-with name s (boolean b) sound = sound
sound-with name s (whole z) sound = sound
sound-with name s odd sound = sound
sound-with name s (text u) sound = sound
sound-with name s (list_node ts) sound = sound

-- a value with a handle has the tree of a remote value
pub remote-list : (v : Nested RemotePlain (HeldBy ListKind) (HeldBy PairsKind)) (l : HeldBy ListKind)
    (vs : Vec (Nested RemotePlain (HeldBy ListKind) (HeldBy PairsKind)) Global) → v ≡ ListOf l vs → (s : String Global) → IsSound (remote_tree v)
    → IsRemote (with_member "handle" (text (string_bytes s)) (remote_tree v))
remote-list v l vs is s sound = (
  ListOf (record l { handle = Some s }) vs,
  list_tree remote.ghosts.nesting (record l { handle = Some s }) vs
      ∙ (list-handled l.kind l.handle l.internal_id s _
      ∙ ap (with_member "handle" (text (string_bytes s))) (sym (ap remote_tree is ∙ list_tree remote.ghosts.nesting l vs))),
  sound-with "handle" (string_bytes s) (remote_tree v) sound,
)

pub remote-pairs : (v : Nested RemotePlain (HeldBy ListKind) (HeldBy PairsKind)) (m : HeldBy PairsKind)
    (ps : Vec (NestedPair RemotePlain (HeldBy ListKind) (HeldBy PairsKind)) Global) → v ≡ PairsOf m ps → (s : String Global) → IsSound (remote_tree v)
    → IsRemote (with_member "handle" (text (string_bytes s)) (remote_tree v))
remote-pairs v m ps is s sound = (
  PairsOf (record m { handle = Some s }) ps,
  of_pairs_tree remote.ghosts.nesting (record m { handle = Some s }) ps
      ∙ (pairs-handled m.kind m.handle m.internal_id s _
      ∙ ap (with_member "handle" (text (string_bytes s))) (sym (ap remote_tree is ∙ of_pairs_tree remote.ghosts.nesting m ps))),
  sound-with "handle" (string_bytes s) (remote_tree v) sound,
)

pub plain_tree : (v : Nested RemotePlain (HeldBy ListKind) (HeldBy PairsKind)) (p : RemotePlain) → v ≡ PlainOf p
    → remote_tree v ≡ plains.ghosts.shape.tree_of p
plain_tree v p is = ap remote_tree is ∙ ap (value_tree remote.ghosts.nesting) (content-Plain p)

pub remote-plain : (v : Nested RemotePlain (HeldBy ListKind) (HeldBy PairsKind)) (p : RemotePlain) → v ≡ PlainOf p → (s : String Global)
    → IsSound (remote_tree v) → takes_handle (remote_tree v) ≡ true → IsRemote (with_member "handle" (text (string_bytes s)) (remote_tree v))
remote-plain v p is s sound takes = (
  PlainOf (plain-with p s),
  ap (value_tree remote.ghosts.nesting) (content-Plain (plain-with p s))
      ∙ (plain-handled s p (sym (ap takes_handle (plain_tree v p is)) ∙ takes) ∙ ap (with_member "handle" (text (string_bytes s))) (sym (plain_tree v p is))),
  sound-with "handle" (string_bytes s) (remote_tree v) sound,
)

-- ---- `type` is the first member of a value without a name

abbrev pub IsAbsent : Option (String Global) → Option (String Global) → Type 0
IsAbsent h i = (h ≡ None) × (i ≡ None)

pub list-unnamed : (v : Nested RemotePlain (HeldBy ListKind) (HeldBy PairsKind)) (l : HeldBy ListKind)
    (vs : Vec (Nested RemotePlain (HeldBy ListKind) (HeldBy PairsKind)) Global) → v ≡ ListOf l vs
    → IsAbsent l.handle l.internal_id → BeginsWithType (remote_tree v)
list-unnamed v l vs is none =
    subst BeginsWithType (sym (ap remote_tree is ∙ list_tree remote.ghosts.nesting l vs)) (by l.kind l.handle l.internal_id none)
  where
    by : (k : ListKind) (h i : Option (String Global)) → IsAbsent h i
        → BeginsWithType (around remote.ghosts.nesting.list (record { kind = k; handle = h; internal_id = i }) (list_node (items_of (map_list remote_tree vs.items))))
    by k None None none = (_, _, refl)
    by k None (Some i) none = absurd (let no = none.1 in cc)
    by k (Some h) i none = absurd (let no = none.0 in cc)

pub pairs-unnamed : (v : Nested RemotePlain (HeldBy ListKind) (HeldBy PairsKind)) (m : HeldBy PairsKind)
    (ps : Vec (NestedPair RemotePlain (HeldBy ListKind) (HeldBy PairsKind)) Global) → v ≡ PairsOf m ps
    → IsAbsent m.handle m.internal_id → BeginsWithType (remote_tree v)
pairs-unnamed v m ps is none =
    subst BeginsWithType (sym (ap remote_tree is ∙ of_pairs_tree remote.ghosts.nesting m ps)) (by m.kind m.handle m.internal_id none)
  where
    by : (k : PairsKind) (h i : Option (String Global)) → IsAbsent h i
        → BeginsWithType (around remote.ghosts.nesting.pairs (record { kind = k; handle = h; internal_id = i }) (list_node (items_of (map_list remote_pair_tree ps.items))))
    by k None None none = (_, _, refl)
    by k None (Some i) none = absurd (let no = none.1 in cc)
    by k (Some h) i none = absurd (let no = none.0 in cc)

-- the names of a value that has no others inside; a primitive one counts as named
abbrev pub IsNameless : RemotePlain → Type 0
IsNameless (of.List l) = IsAbsent l.handle l.internal_id
IsNameless (of.Pairs m) = IsAbsent m.handle m.internal_id
IsNameless (of.RegExp r) = IsAbsent r.handle r.internal_id
IsNameless (of.Date d) = IsAbsent d.handle d.internal_id
IsNameless (of.Opaque o) = IsAbsent o.handle o.internal_id
IsNameless (of.Primitive p) = ⊥

pub plain-unnamed : (p : RemotePlain) → IsNameless p → BeginsWithType (plains.ghosts.shape.tree_of p)
plain-unnamed (of.List l) none = by l.kind l.handle l.internal_id none
  where
    by : (k : ListKind) (h i : Option (String Global)) → IsAbsent h i → BeginsWithType (plains.ghosts.shape.tree_of (of.List (record { kind = k; handle = h; internal_id = i })))
    by k None None none = (_, _, refl)
    by k None (Some i) none = absurd (let no = none.1 in cc)
    by k (Some h) i none = absurd (let no = none.0 in cc)
plain-unnamed (of.Pairs m) none = by m.kind m.handle m.internal_id none
  where
    by : (k : PairsKind) (h i : Option (String Global)) → IsAbsent h i → BeginsWithType (plains.ghosts.shape.tree_of (of.Pairs (record { kind = k; handle = h; internal_id = i })))
    by k None None none = (_, _, refl)
    by k None (Some i) none = absurd (let no = none.1 in cc)
    by k (Some h) i none = absurd (let no = none.0 in cc)
plain-unnamed (of.RegExp r) none = by r.value r.handle r.internal_id none
  where
    by : (v : RegExpValue) (h i : Option (String Global)) → IsAbsent h i → BeginsWithType (plains.ghosts.shape.tree_of (of.RegExp (record { value = v; handle = h; internal_id = i })))
    by v None None none = (_, _, refl)
    by v None (Some i) none = absurd (let no = none.1 in cc)
    by v (Some h) i none = absurd (let no = none.0 in cc)
plain-unnamed (of.Date d) none = by d.value d.handle d.internal_id none
  where
    by : (v : String Global) (h i : Option (String Global)) → IsAbsent h i → BeginsWithType (plains.ghosts.shape.tree_of (of.Date (record { value = v; handle = h; internal_id = i })))
    by v None None none = (_, _, refl)
    by v None (Some i) none = absurd (let no = none.1 in cc)
    by v (Some h) i none = absurd (let no = none.0 in cc)
plain-unnamed (of.Opaque o) none = by o.kind o.handle o.internal_id none
  where
    by : (k : Opaque) (h i : Option (String Global)) → IsAbsent h i → BeginsWithType (plains.ghosts.shape.tree_of (of.Opaque (record { kind = k; handle = h; internal_id = i })))
    by k None None none = (_, _, refl)
    by k None (Some i) none = absurd (let no = none.1 in cc)
    by k (Some h) i none = absurd (let no = none.0 in cc)
plain-unnamed (of.Primitive p) none = absurd none

-- ---- the text of a value with a handle

pub on-any : {A E : Type 0} {P : Type 0} (r : Result A E) → P → IfOk r (λ x. P)
on-any (Ok x) p = p
on-any (Err e) p = tt

-- the tree of a value of few levels may be written
pub remote-writable : (v : Nested RemotePlain (HeldBy ListKind) (HeldBy PairsKind)) → levels (remote_tree v) ≤ 60 → IsWritable (remote_tree v)
remote-writable v few =
    let whole = (nested_shape remote.ghosts.nesting content).whole v (remote-well v few) in
    (whole.0, omega (arith, few))

pub some-of : {A : Type 0} (N : Type 0) (P : A → Type 0) (o : Option A) → MatchOption o N P → IfSome o P
some-of N P None h = tt
some-of N P (Some x) h = h

pub handle-text : (t : Node) (s : List ℕ) (id : List ℕ) (rest : List ℕ) → BeginsWithType t → s ≡ compact_text t → s ≡ 123 ∷ rest
    → codes "{\"handle\":" ++ (compact_text (text id) ++ 44 ∷ rest) ≡ compact_text (with_member "handle" (text id) t)
unfolding escape_byte
handle-text t s id rest (kind, others, is) written cut =
    let same : rest ≡ members_text false (member (codes "type") kind others) = ap tail (sym cut ∙ (written ∙ ap compact_text is)) in
    ap (λ r. codes "{\"handle\":" ++ (compact_text (text id) ++ 44 ∷ r)) same ∙ ap (λ u. compact_text (with_member "handle" (text id) u)) (sym is)
  where
    tail : List ℕ → List ℕ
    tail [] = []
    tail (b ∷ bs) = bs

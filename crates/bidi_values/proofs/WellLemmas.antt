-- A remote value is well where its tree has at most 60 levels: no tree of one is that of an earlier alternative.
use Rattle.std.proofs.Common.{◌≡◌, ◌≤◌, ◌∙◌, Bool, true, false, Option, Some, String, Global, bytes_eq, string_bytes, ap, option_map, subst, refl}
use Rattle.std.proofs.lemmas.Bool.{and_parts}
use Rattle.std.proofs.lemmas.Slice.Eq.{bytes_eq-Decides}
use Rattle.std.specs.Prelude.{IfSome, ◌&&◌, ⊤}
use Rattle.std.proofs.Common.{ℕ, zero, suc, List, codes}
use Rattle.bidi_tree.specs.Node.{Node, text, map, Members, no_members, get_member, put, levels}
use Rattle.bidi_tree.proofs.MemberLemmas.{get_member-put}
use Rattle.bidi_shape.specs.Name as name
use Rattle.bidi_shape.specs.ChoiceLaws.{fits_neither}
use Rattle.bidi_shape.specs.Fits.{Fits, fits_first, fits_second}
use Rattle.bidi_shape.specs.Parts.{put_part}
use Rattle.bidi_shape.specs.Profile.{term_of}
use Rattle.bidi_shape.specs.Table.{TableWell}
use Rattle.bidi_shape.specs.Term.{Term, required, closed, map_of, either, rule, Rows, row, ◌or◌}
use Rattle.bidi_shape.proofs.FitsLemmas.{RowFits, rule_inside, map_inside, row_inside}
use Rattle.bidi_shape.proofs.FitsTest.{Answer, fit, misfit, not_known, test, misfits_by}
use Rattle.bidi_shape.proofs.PartLemmas.{some_well}
use Rattle.bidi_values.specs.Content.{Content, plain, list, pairs, Contents, no_values, value, Pairs, no_pairs, pair, Key, value_key, text_key, content}
use Rattle.bidi_values.specs.Kinds.{list_text, pairs_text}
use Rattle.bidi_values.specs.NestedLaws.{NestingOf, PartsAreWell, ValuesAreWell, PairsAreWell, KeyIsWell}
use Rattle.bidi_values.specs.Opaque.{opaque_text}
use Rattle.bidi_values.specs.RemoteValue.{bare_list, bare_pairs, remote_reg_exp, remote_date}
use Rattle.bidi_values.specs.RemoteView.{remote_tree, RemoteIsWell}
use Rattle.bidi_values.specs.declared.kinds.ListKind.{ListKind}
use Rattle.bidi_values.specs.declared.kinds.ListKind.TheVariants as array
use Rattle.bidi_values.specs.declared.kinds.PairsKind.{PairsKind}
use Rattle.bidi_values.specs.declared.kinds.PairsKind.TheVariants as object
use Rattle.bidi_values.specs.declared.nested.Nested.{Nested}
use Rattle.bidi_values.specs.declared.opaque.Opaque.{Opaque}
use Rattle.bidi_values.specs.declared.opaque.Opaque.TheVariants as opaque
use Rattle.bidi_values.specs.declared.remote_value.RemotePlain.{RemotePlain}
use Rattle.bidi_values.specs.declared.remote_value.RemotePlain.TheVariants as of
use Rattle.bidi_values.specs.declared.primitive.Primitive.{Primitive}
use Rattle.bidi_values.specs.declared.primitive.Primitive.TheVariants as primitive
use Rattle.bidi_values.specs.declared.primitive.Number.{Number}
use Rattle.bidi_values.specs.declared.primitive.Number.TheVariants as number
use Rattle.bidi_values.specs.declared.held.Held.{Held as HeldBy}
use Rattle.bidi_values.specs.contracts.primitive.PrimitiveShape.TheImpl as primitives
use Rattle.bidi_values.specs.contracts.primitive.NumberShape.TheImpl as numbers
use Rattle.bidi_values.specs.contracts.reg_exp.RegExpValueShape.TheImpl as reg_exps
use Rattle.bidi_values.specs.contracts.remote_value.RemotePlainNestsRemoteListRemotePairs.TheImpl as remote

-- ---- values of any kind

mutual
  parts-well : {P L M : Type 0} (n : NestingOf P L M)
      → ((p : P) → n.plain.well p) → ((h : L) → n.list.well h) → ((h : M) → n.pairs.well h) → (v : Content P L M) → PartsAreWell n v
  parts-well n p l m (plain x) = p x
  parts-well n p l m (list h vs) = (l h, values-well n p l m vs)
  parts-well n p l m (pairs h ps) = (m h, pairs-well n p l m ps)

  values-well : {P L M : Type 0} (n : NestingOf P L M)
      → ((p : P) → n.plain.well p) → ((h : L) → n.list.well h) → ((h : M) → n.pairs.well h) → (vs : Contents P L M) → ValuesAreWell n vs
  values-well n p l m no_values = tt
  values-well n p l m (value v vs) = (parts-well n p l m v, values-well n p l m vs)

  pairs-well : {P L M : Type 0} (n : NestingOf P L M)
      → ((p : P) → n.plain.well p) → ((h : L) → n.list.well h) → ((h : M) → n.pairs.well h) → (ps : Pairs P L M) → PairsAreWell n ps
  pairs-well n p l m no_pairs = tt
  pairs-well n p l m (pair k v ps) = ((key-well n p l m k, parts-well n p l m v), pairs-well n p l m ps)

  key-well : {P L M : Type 0} (n : NestingOf P L M)
      → ((p : P) → n.plain.well p) → ((h : L) → n.list.well h) → ((h : M) → n.pairs.well h) → (k : Key P L M) → KeyIsWell n k
  key-well n p l m (value_key v) = parts-well n p l m v
  key-well n p l m (text_key k) = tt

-- ---- remote values

list-well : (h : (HeldBy ListKind)) → remote.ghosts.nesting.list.well h
list-well h = (tt, (some_well (λ s. tt) h.handle, (some_well (λ s. tt) h.internal_id, tt)))

held-pairs-well : (h : (HeldBy PairsKind)) → remote.ghosts.nesting.pairs.well h
held-pairs-well h = (tt, (some_well (λ s. tt) h.handle, (some_well (λ s. tt) h.internal_id, tt)))

-- ---- plain values

-- an answer is a misfit
abbrev is-misfit : Answer → Bool
is-misfit misfit = true
is-misfit fit = false
is-misfit not_known = false

misfit-is : (a : Answer) → is-misfit a ≡ true → a ≡ misfit
misfit-is misfit e = refl
misfit-is fit e = cc
misfit-is not_known e = cc

-- a term takes no map that has this tree under `type`, as far as so many steps tell
abbrev refuses : ℕ → Node → Term → Bool
refuses zero s τ = false
refuses (suc n) s (either σ τ) = refuses n s σ && refuses n s τ
refuses (suc n) s (rule name) = refuses n s (term_of name)
refuses (suc n) s (map_of (row k required τ rows) o) = bytes_eq k (codes "type") && is-misfit (test n s τ)
refuses (suc n) s τ = false

refused : (n : ℕ) (s : Node) (ms : Members) (τ : Term) → get_member (codes "type") ms ≡ Some s → refuses n s τ ≡ true → Fits (map ms) τ → ⊥
refused zero s ms τ own other f = cc
refused (suc n) s ms (either σ τ) own other f =
    let p = and_parts (refuses n s σ) (refuses n s τ) other in
    fits_neither (refused n s ms σ own p.0) (refused n s ms τ own p.1) f
refused (suc n) s ms (rule name) own other f = refused n s ms (term_of name) own other (rule_inside f)
refused (suc n) s ms (map_of (row k required τ rows) o) own other f =
    let p = and_parts (bytes_eq k (codes "type")) (is-misfit (test n s τ)) other in
    let is : get_member k ms ≡ Some s = ap (λ l. get_member l ms) ((bytes_eq-Decides k (codes "type")).0 p.0) ∙ own in
    let fits : RowFits required τ (get_member k ms) = (row_inside (map_inside f).0).0 in
    misfits_by n (misfit-is (test n s τ) p.1) (subst (RowFits required τ) is fits)
refused (suc n) s ms τ own other f = cc

-- a map of a type
abbrev of-type : List ℕ → Members → Node
of-type s ms = map (put (codes "type") (text s) ms)

of-other : (s : List ℕ) (ms : Members) (τ : Term) → refuses 20 (text s) τ ≡ true → Fits (of-type s ms) τ → ⊥
of-other s ms τ other = refused 20 (text s) (put (codes "type") (text s) ms) τ (get_member-put (codes "type") (text s) ms) other

closed-well : (r : Rows) → TableWell r closed no_members
closed-well r = record { no_known = refl; may = refl }

number-well : (n : Number) → numbers.ghosts.shape.well n
number-well (number.Whole z) = tt
number-well (number.Special s) = (tt, misfits_by 20 refl)

primitive-well : (p : Primitive) → primitives.ghosts.shape.well p
primitive-well primitive.Undefined = (tt, closed-well _)
primitive-well primitive.Null = ((tt, closed-well _), misfits_by 20 refl)
primitive-well (primitive.String s) = ((((tt, tt), closed-well _), misfits_by 20 refl), misfits_by 20 refl)
primitive-well (primitive.Number n) = (((((number-well n, tt), closed-well _), misfits_by 20 refl), misfits_by 20 refl), misfits_by 20 refl)
primitive-well (primitive.Boolean b) = ((((((tt, tt), closed-well _), misfits_by 20 refl), misfits_by 20 refl), misfits_by 20 refl), misfits_by 20 refl)
primitive-well (primitive.BigInt s) =
    (((((((tt, tt), closed-well _), misfits_by 20 refl), misfits_by 20 refl), misfits_by 20 refl), misfits_by 20 refl), misfits_by 20 refl)

-- what a remote end holds it by
abbrev holds : Option (String Global) → Option (String Global) → Members
holds h i =
    put_part (codes "handle") (option_map (λ s. text (string_bytes s)) h)
    (put_part (codes "internalId") (option_map (λ s. text (string_bytes s)) i) no_members)

held-well : (h i : Option (String Global)) → IfSome h (λ s. ⊤) × (IfSome i (λ s. ⊤) × ⊤)
held-well h i = (some_well (λ s. tt) h, (some_well (λ s. tt) i, tt))

-- the types of lists, of pairs and of opaque values are none others' type
list-own : (k : ListKind) → refuses 20 (text (list_text k)) (rule name.primitive) ≡ true
list-own array.Array = refl
list-own array.Set = refl

pairs-own : (k : PairsKind) → refuses 20 (text (pairs_text k)) (rule name.primitive or bare_list) ≡ true
pairs-own object.Object = refl
pairs-own object.Map = refl

opaque-own : (k : Opaque) → refuses 20 (text (opaque_text k)) (rule name.primitive or bare_list or bare_pairs or remote_reg_exp or remote_date) ≡ true
opaque-own opaque.Symbol = refl
opaque-own opaque.Function = refl
opaque-own opaque.WeakMap = refl
opaque-own opaque.WeakSet = refl
opaque-own opaque.Generator = refl
opaque-own opaque.Error = refl
opaque-own opaque.Proxy = refl
opaque-own opaque.Promise = refl
opaque-own opaque.TypedArray = refl
opaque-own opaque.ArrayBuffer = refl

plain-well : (p : RemotePlain) → remote.ghosts.nesting.plain.well p
plain-well (of.Primitive p) = primitive-well p
plain-well (of.List l) =
    (((tt, held-well l.handle l.internal_id), closed-well _), of-other (list_text l.kind) (holds l.handle l.internal_id) _ (list-own l.kind))
plain-well (of.Pairs p) =
    let none = of-other (pairs_text p.kind) (holds p.handle p.internal_id) (rule name.primitive or bare_list) (pairs-own p.kind) in
    ((((tt, held-well p.handle p.internal_id), closed-well _), λ f. none (fits_second _ _ _ f)), λ f. none (fits_first _ _ _ f))
plain-well (of.RegExp r) =
    let none : (τ : Term) → refuses 20 (text (codes "regexp")) τ ≡ true → Fits (remote.ghosts.nesting.plain.tree_of (of.RegExp r)) τ → ⊥ =
    of-other (codes "regexp") (put (codes "value") (reg_exps.ghosts.shape.tree_of r.value) (holds r.handle r.internal_id)) in (
      ((((((tt, (some_well (λ s. tt) r.value.flags, tt)), closed-well _), held-well r.handle r.internal_id), closed-well _), none _ refl), none _ refl),
      none _ refl,
    )
plain-well (of.Date d) =
    let none : (τ : Term) → refuses 20 (text (codes "date")) τ ≡ true → Fits (remote.ghosts.nesting.plain.tree_of (of.Date d)) τ → ⊥ =
    of-other (codes "date") (put (codes "value") (text (string_bytes d.value)) (holds d.handle d.internal_id)) in
    ((((((tt, held-well d.handle d.internal_id), closed-well _), none _ refl), none _ refl), none _ refl), none _ refl)
plain-well (of.Opaque o) =
    let none = of-other (opaque_text o.kind) (holds o.handle o.internal_id)
    (rule name.primitive or bare_list or bare_pairs or remote_reg_exp or remote_date) (opaque-own o.kind) in (
      (
        (
          (
            (
              ((tt, held-well o.handle o.internal_id), closed-well _),
              λ f. none (fits_second _ _ _ (fits_second _ _ _ (fits_second _ _ _ (fits_second _ _ _ f)))),
            ),
            λ f. none (fits_second _ _ _ (fits_second _ _ _ (fits_second _ _ _ (fits_first _ _ _ f)))),
          ),
          λ f. none (fits_second _ _ _ (fits_second _ _ _ (fits_first _ _ _ f))),
        ),
        λ f. none (fits_second _ _ _ (fits_first _ _ _ f)),
      ),
      λ f. none (fits_first _ _ _ f),
    )

-- a value of so many levels is well
pub remote-well : (v : Nested RemotePlain (HeldBy ListKind) (HeldBy PairsKind)) → levels (remote_tree v) ≤ 60 → RemoteIsWell v
remote-well v few = record { parts = parts-well remote.ghosts.nesting plain-well list-well held-pairs-well (content v); cap = few }

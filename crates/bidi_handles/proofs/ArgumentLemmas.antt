-- Checking arguments one by one, and building the value of one.
use Rattle.std.proofs.Common.{◌≡◌, ◌∙◌, ◌<◌, ◌≤◌, ◌+◌, ℕ, Bool, true, false, List, [], ◌∷◌, ◌++◌, drop, get_or, length, map, append-nil}
use Rattle.std.proofs.Common.{Result, Ok, Err, Vec, Global, IfErr, refl, sym, ap, subst, arith}
use Rattle.std.specs.Prelude.{◌&&◌, nat_le}
use Rattle.std.specs.Result.{IsErrAnd, IsOkAnd, result_unwrap_or}
use Rattle.std.specs.Prelude.{Option, Some, None, IfSome}
use Rattle.std.specs.Borrow.{Bor}
use Rattle.std.specs.declared.rc.Rc.{Rc}
use Rattle.std.proofs.lemmas.Bool.Decides.{nat_tests}
use Rattle.std.proofs.lemmas.List.{map-append, drop_more, drop_all}
use Rattle.bidi_tree.specs.Node.{Node, null, levels}
use Rattle.bidi_tree.specs.Text.{compact_text}
use Rattle.bidi_params.specs.declared.error_code.ErrorCode.{ErrorCode}
use Rattle.bidi_params.specs.declared.error_code.ErrorCode.TheVariants.{UnknownError}
use Rattle.bidi_values.specs.declared.kinds.ListKind.{ListKind}
use Rattle.bidi_values.specs.declared.kinds.PairsKind.{PairsKind}
use Rattle.bidi_values.specs.declared.local_value.LocalPlain.{LocalPlain}
use Rattle.bidi_values.specs.declared.nested.Nested.{Nested}
use Rattle.bidi_handles.specs.declared.argument.Argument.{Argument}
use Rattle.bidi_handles.specs.declared.refusal.Refusal.{Refusal}
use Rattle.bidi_handles.specs.declared.refusal.Refusal.TheVariants.{Code, NoMemory}
use Rattle.bidi_handles.specs.Checks.{◌>>=◌, need}
use Rattle.bidi_handles.specs.Handles.{values_in}
use Rattle.bidi_handles.specs.Sizes.{size_of}
use Rattle.bidi_handles.specs.declared.handle.HeldValue.{HeldValue}
use Rattle.bidi_handles.specs.Resolves.{Gives, stands_for}
use Rattle.bidi_handles.specs.Values.{Held, resolved, argument, arguments}
use Rattle.bidi_handles.specs.ValuesInHand.{local_tree, shared_tree}

-- ---- one by one

-- some values before those of the rest
abbrev pub with_front : List Node → Result (List Node) ErrorCode → Result (List Node) ErrorCode
with_front vs (Ok us) = Ok (vs ++ us)
with_front vs (Err code) = Err code

pub front-none : (r : Result (List Node) ErrorCode) → with_front [] r ≡ r
front-none (Ok us) = refl
front-none (Err code) = refl

joined : (vs : List Node) (u : Node) (us : List Node) → vs ++ u ∷ us ≡ (vs ++ u ∷ []) ++ us
joined [] u us = refl
joined (v ∷ vs) u us = ap (λ ws. v ∷ ws) (joined vs u us)

-- an argument's value, then those of the others
abbrev then : Held → List Node → Result Node ErrorCode → Result (List Node) ErrorCode
then held ts r = r >>= λ u. arguments held ts >>= λ us. Ok (u ∷ us)

front-more : (held : Held) (vs : List Node) (t u : Node) (ts : List Node)
    → argument held t ≡ Ok u → with_front vs (arguments held (t ∷ ts)) ≡ with_front (vs ++ u ∷ []) (arguments held ts)
front-more held vs t u ts is = ap (λ r. with_front vs (then held ts r)) is ∙ by (arguments held ts)
  where
    by : (r : Result (List Node) ErrorCode) → with_front vs (r >>= λ us. Ok (u ∷ us)) ≡ with_front (vs ++ u ∷ []) r
    by (Ok us) = ap Ok (joined vs u us)
    by (Err code) = refl

module _ (held : Held) (values : List (Nested LocalPlain ListKind PairsKind)) where
  -- the first of those that are left
  rest : (i : ℕ) (v : Nested LocalPlain ListKind PairsKind) → i < length values → v ≡ get_or values i v → drop i values ≡ v ∷ drop (i + 1) values
  rest i v less at = drop_more values i v less ∙ ap (λ w. w ∷ drop (i + 1) values) (sym at)

  -- the arguments that are done come before the results of the rest
  abbrev pub IsFront : List Argument → ℕ → Type 0
  IsFront done i = with_front (map stands_for done) (arguments held (map local_tree (drop i values))) ≡ arguments held (map local_tree values)

  pub arguments-more : (i : ℕ) (v : Nested LocalPlain ListKind PairsKind) (a : Argument) (done after : List Argument)
      → i < length values → v ≡ get_or values i v → argument held (local_tree v) ≡ Ok (stands_for a) → after ≡ done ++ a ∷ []
      → IsFront done i → IsFront after (i + 1)
  arguments-more i v a done after less at is more so_far =
      let ts = map local_tree (drop (i + 1) values) in
      ap (λ those. with_front (map stands_for those) (arguments held ts)) more
      ∙ (ap (λ vs. with_front vs (arguments held ts)) (map-append stands_for done (a ∷ []))
      ∙ (sym (front-more held (map stands_for done) (local_tree v) (stands_for a) ts is)
      ∙ (ap (λ vs. with_front (map stands_for done) (arguments held (map local_tree vs))) (sym (rest i v less at)) ∙ so_far)))

  pub arguments-refused : (i : ℕ) (v : Nested LocalPlain ListKind PairsKind) (e : Refusal) (done : List Argument)
      → i < length values → v ≡ get_or values i v → Gives stands_for (Err e) (argument held (local_tree v)) → IsFront done i
      → Gives (λ (all : Vec Argument Global). map stands_for all.items) (Err e) (arguments held (map local_tree values))
  arguments-refused i v (Code code) done less at refused so_far =
      sym so_far
      ∙ (ap (λ vs. with_front (map stands_for done) (arguments held (map local_tree vs))) (rest i v less at)
      ∙ ap (λ r. with_front (map stands_for done) (then held (map local_tree (drop (i + 1) values)) r)) refused)
  arguments-refused i v NoMemory done less at refused so_far = tt

  pub arguments-all : (i : ℕ) (done : List Argument) → length values ≤ i → IsFront done i → arguments held (map local_tree values) ≡ Ok (map stands_for done)
  arguments-all i done above so_far =
      sym so_far
      ∙ (ap (λ vs. with_front (map stands_for done) (arguments held (map local_tree vs))) (drop_all i values above)
      ∙ ap Ok (append-nil (map stands_for done)))

-- ---- given back

-- a value with its checks
abbrev within : Node → Result Node ErrorCode
within v = need (nat_le (levels v) 60 && nat_le (length (compact_text v)) 1048576) UnknownError >>= λ small. Ok v

-- the value that a passing argument resolves to
pub given-value : (held : Held) (t v : Node) (P : Node → Type 0) → resolved held t ≡ Ok v → IsOkAnd (argument held t) P
    → (levels v ≤ 60) × P v × (argument held t ≡ Ok v)
given-value held t v P is passes =
    let here = by (nat_le (levels v) 60) (nat_le (length (compact_text v)) 1048576) refl (subst (λ (r : Result Node ErrorCode). IsOkAnd (r >>= within) P) is passes) in
    (here.0, here.1, ap (λ (r : Result Node ErrorCode). r >>= within) is ∙ here.2)
  where
    by : (b c : Bool) → nat_le (levels v) 60 ≡ b → IsOkAnd (need (b && c) UnknownError >>= λ small. Ok v) P
        → (levels v ≤ 60) × P v × ((need (b && c) UnknownError >>= λ small. Ok v) ≡ Ok v)
    by true true e passes = (grind (arith, nat_tests, e), passes, refl)
    by true false e passes = absurd passes
    by false c e passes = absurd passes

-- the only refusal is a failed allocation
pub no-code : {A : Type 0} (view : A → Node) (held : Held) (t : Node) (e : Refusal) (P : Node → Type 0)
    → IsOkAnd (argument held t) P → Gives view (Err e) (resolved held t) → e ≡ NoMemory
no-code view held t (Code code) P passes gives = absurd (subst (λ (r : Result Node ErrorCode). IsOkAnd (r >>= within) P) gives passes)
no-code view held t NoMemory P passes gives = refl

pub for-memory : {A : Type 0} (r : Result A Refusal) (e : Refusal) → IsErrAnd r (λ f. f ≡ e) → e ≡ NoMemory → IfErr r (λ f. f ≡ NoMemory)
for-memory (Ok x) e is none = absurd is
for-memory (Err f) e is none = is ∙ none

-- an argument that resolves to the value of a handle
pub handle-given : (a : Argument) (r : Option (Bor (Rc HeldValue Global))) (t : Node) → local_tree a.value.now ≡ t
    → IfSome r (λ h. resolved (values_in a.handles.now) t ≡ Ok (shared_tree h.now)) → IfSome r (λ h. shared_tree h.now ≡ stands_for a)
handle-given a None t of is = tt
handle-given a (Some h) t of is =
    let held = values_in a.handles.now in
    let given = given-value held (local_tree a.value.now) (shared_tree h.now) (λ u. a.size.levels ≡ (size_of u).levels) (ap (resolved held) of ∙ is) a.levels in
    sym (ap (λ q. result_unwrap_or q null) given.2)

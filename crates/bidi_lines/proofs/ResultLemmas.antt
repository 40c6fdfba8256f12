-- Small facts about options and results.
use Rattle.std.proofs.Common.{◌≡◌, Ok, Err, Some, None, subst}
use Rattle.std.proofs.Common.{sym}
use Rattle.std.specs.Prelude.{Option, Result, MatchOption, IsErr, IsErrAnd, IsSomeAnd, IfErr, IfSome, IfNone, IsTrue, false}

pub err_not_ok : {A E : Type 0} (e : E) (x : A) → (let p : Result A E = Err e in p) ≡ Ok x → ⊥
err_not_ok e x p = cc

pub ok_same : {A E : Type 0} (x y : A) → (let p : Result A E = Ok x in p) ≡ Ok y → x ≡ y
ok_same x y p = cc

pub some_and : {A : Type 0} (o : Option A) (P : A → Type 0) → MatchOption o ⊥ P → IsSomeAnd o P
some_and None P h = absurd h
some_and (Some x) P h = h

pub if_some_first : {A : Type 0} (o : Option A) (N : Type 0) (P Q : A → Type 0) → MatchOption o N (λ x. P x × Q x) → IfSome o P
if_some_first None N P Q h = tt
if_some_first (Some x) N P Q h = h.0

pub if_none_at : {A : Type 0} (o : Option A) (P : Type 0) → IfNone o P → o ≡ None → P
if_none_at None P h e = h
if_none_at (Some x) P h e = cc

pub if_some_at : {A : Type 0} (o : Option A) (x : A) (P : A → Type 0) → IfSome o P → o ≡ Some x → P x
if_some_at None x P h e = cc
if_some_at (Some y) x P h e = let same : y ≡ x = cc in subst P same h

pub no_truth : IsTrue false → ⊥
no_truth e = cc

pub on_none : {A : Type 0} (o : Option A) (P : Type 0) → P → IfNone o P
on_none None P p = p
on_none (Some x) P p = tt

pub if_none_when : {A : Type 0} (o : Option A) (N Q : Type 0) (P : A → Type 0) → MatchOption o N P → (N → Q) → IfNone o Q
if_none_when None N Q P h f = f h
if_none_when (Some x) N Q P h f = tt

-- a fact about the fault of a call holds of its result
pub by_fault : {T F : Type 0} (r : Result T F) (f : F) (P : F → Type 0) → IsErr r × IsErrAnd r (λ x. x ≡ f) → P f → IfErr r P
by_fault (Ok x) f P e p = tt
by_fault (Err x) f P e p = subst P (sym e.1) p

-- a fact about a value if there is one, and about None
pub match_some : {A : Type 0} (o : Option A) (x : A) (N : Type 0) (P : A → Type 0) → MatchOption o N P → o ≡ Some x → P x
match_some None x N P h e = cc
match_some (Some y) x N P h e = let same : y ≡ x = cc in subst P same h

pub match_none : {A : Type 0} (o : Option A) (N : Type 0) (P : A → Type 0) → MatchOption o N P → o ≡ None → N
match_none None N P h e = h
match_none (Some x) N P h e = cc

-- Checks of the items of a list, one after another, whose results are joined.
use Rattle.std.proofs.Common.{◌≡◌, ◌∙◌, List, ◌++◌, append_assoc, refl, sym, ap, subst, Option, Some, None, option_map, Result, Ok, Err}
use Rattle.std.specs.Result.{IsErrAnd}
use Rattle.bidi_params.specs.declared.error_code.ErrorCode.{ErrorCode}
use Rattle.bidi_handles.specs.Checks.{◌>>=◌, found}
use Rattle.bidi_handles.specs.declared.refusal.Refusal.{Refusal}
use Rattle.bidi_handles.specs.declared.refusal.Refusal.TheVariants.{Code, NoMemory}
use Rattle.bidi_sessions.specs.Checked.{IfChecked, behind}

-- one check, then the rest
abbrev pub joined : {A Y : Type 0} → (A → List Y) → Result A ErrorCode → Result (List Y) ErrorCode → Result (List Y) ErrorCode
joined g first rest = first >>= λ x. rest >>= λ ys. Ok (g x ++ ys)

-- a check that gives something
pub joined-ok : {A Y : Type 0} (g : A → List Y) (held : List Y) (first : Result A ErrorCode) (rest : Result (List Y) ErrorCode) (x : A) → first ≡ Ok x
    → behind held (joined g first rest) ≡ behind (held ++ g x) rest
joined-ok g held first (Ok ys) x is = rw is (ap Ok (sym (append_assoc held (g x) ys)))
joined-ok g held first (Err code) x is = rw is refl

-- a check that fails
pub joined-err : {A Y : Type 0} (g : A → List Y) (held : List Y) (first : Result A ErrorCode) (rest : Result (List Y) ErrorCode)
    (code : ErrorCode) → first ≡ Err code
    → behind held (joined g first rest) ≡ Err code
joined-err g held first rest code is = rw is refl

same_ok : {A : Type 0} {x y : A} → (let l : Result A ErrorCode = Ok x in let r : Result A ErrorCode = Ok y in l ≡ r) → x ≡ y
same_ok e = cc

-- a check whose results were added to those before it
pub added-ok : {Y : Type 0} (held after : List Y) (first rest : Result (List Y) ErrorCode)
    → behind held first ≡ Ok after → behind held (joined (λ ys. ys) first rest) ≡ behind after rest
added-ok held after (Ok ys) (Ok zs) is = ap Ok (sym (append_assoc held ys zs) ∙ ap (λ xs. xs ++ zs) (same_ok is))
added-ok held after (Ok ys) (Err code) is = refl
added-ok held after (Err code) rest is = cc

pub added-err : {Y : Type 0} (held : List Y) (first rest : Result (List Y) ErrorCode) (code : ErrorCode)
    → behind held first ≡ Err code → behind held (joined (λ ys. ys) first rest) ≡ Err code
added-err held (Ok ys) rest code is = cc
added-err held (Err c) rest code is = is

some_same : {A : Type 0} {x y : A} → Some x ≡ Some y → x ≡ y
some_same e = cc

-- what was found, by what it is mapped to
pub found-some : {A B : Type 0} (f : A → B) (o : Option A) (y : B) (code : ErrorCode) → option_map f o ≡ Some y → (x : A) × ((found o code ≡ Ok x) × (f x ≡ y))
found-some f (Some x) y code is = (x, (refl, some_same is))
found-some f None y code is = cc

pub found-none : {A B : Type 0} (f : A → B) (o : Option A) (code : ErrorCode) → (let none : Option B = None in option_map f o ≡ none) → found o code ≡ Err code
found-none f None code is = refl
found-none f (Some x) code is = cc

-- a refusal that is handed on
pub carried : {A B C D : Type 0} (q : Result A Refusal) (r : Result C Refusal) (refusal : Refusal) (v : A → B) (w : C → D)
    (given : Result B ErrorCode) (answer : Result D ErrorCode)
    → IfChecked q v given → q ≡ Err refusal → IsErrAnd r (λ e. e ≡ refusal) → ((code : ErrorCode) → given ≡ Err code → answer ≡ Err code) → IfChecked r w answer
carried q (Err e) (Code code) v w given answer is failed same f =
    subst (λ x. IfChecked (Err x) w answer) (sym same) (f code (subst (λ x. IfChecked x v given) failed is))
carried q (Err e) NoMemory v w given answer is failed same f = subst (λ x. IfChecked (Err x) w answer) (sym same) tt
carried q (Ok x) refusal v w given answer is failed same f = absurd same

-- Copies of an entry, one for each session.
use Rattle.std.proofs.Common.{◌≡◌, ◌∙◌, ◌⊎◌, inl, inr, ℕ, zero, suc, List, [], ◌∷◌, ◌++◌, length, Result, Ok, Err, IfOk, Vec, Global, refl, sym, ap, ap₂}
use Rattle.std.specs.Prelude.{replicate, vec_len}
use Rattle.std.specs.List.{AllByRecursion, AllClonesOf}
use Rattle.std.specs.declared.rc.Rc.{Rc}
use Rattle.std.proofs.lemmas.List.{length-map, length-replicate}
use Rattle.bidi_active.specs.declared.event_text.EventText.{EventText}
use Rattle.bidi_active.specs.Written.{Written, written_of, written_in}

-- clones of one are written as it is
clones-written : (e : Rc EventText Global) (ys : List (Rc EventText Global))
    → AllClonesOf (λ rc copy. copy.value ≡ rc.value) e ys → written_in ys ≡ replicate (length ys) (written_of e.value)
clones-written e [] all = refl
clones-written e (y ∷ ys) all = ap₂ (λ w ws. w ∷ ws) (one all.0) (clones-written e ys all.1)
  where
    one : (y ≡ e) ⊎ (y.value ≡ e.value) → written_of y.value ≡ written_of e.value
    one (inl same) = ap (λ z. written_of z.value) same
    one (inr same) = ap written_of same

pub copies-written : {E : Type 0} (r : Result (Vec (Rc EventText Global) Global) E) (e entry : Rc EventText Global) (n m : ℕ)
    → IfOk r (λ v. AllClonesOf (λ rc copy. copy.value ≡ rc.value) e v.items) → IfOk r (λ v. vec_len v ≡ n)
    → e.value ≡ entry.value → n ≡ m → IfOk r (λ all. written_in all.items ≡ replicate m (written_of entry.value))
copies-written (Err x) e entry n m clones long same count = tt
copies-written (Ok v) e entry n m clones long same count =
    clones-written e v.items clones ∙ ap₂ (λ k x. replicate k (written_of x)) (sym v.ok.0 ∙ (long ∙ count)) same

-- each of some is a copy
abbrev pub AreCopies : Written → List (Rc EventText Global) → Type 0
AreCopies w es = AllByRecursion (λ e. written_of e.value ≡ w) es

pub are-copies : (w : Written) (n : ℕ) (es : List (Rc EventText Global)) → written_in es ≡ replicate n w → AreCopies w es
are-copies w n [] same = tt
are-copies w zero (e ∷ es) same = absurd (cc)
are-copies w (suc n) (e ∷ es) same = (cc, are-copies w n es (cc))

pub count-copies : (w : Written) (n : ℕ) (es : List (Rc EventText Global)) → written_in es ≡ replicate n w → length es ≡ n
count-copies w n es same = sym (length-map es (λ e. written_of e.value)) ∙ (ap length same ∙ length-replicate n w)

-- so are the last and those before it
pub last-copy : (w : Written) (xs : List (Rc EventText Global)) (x : Rc EventText Global)
    → AreCopies w (xs ++ x ∷ []) → (written_of x.value ≡ w) × AreCopies w xs
last-copy w [] x all = (all.0, tt)
last-copy w (y ∷ xs) x all = let rest = last-copy w xs x all.1 in (rest.0, (all.0, rest.1))

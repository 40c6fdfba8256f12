-- A list of what is told grows by one item at a time.
use Rattle.std.proofs.Common.{◌≡◌, ◌∙◌, ◌+◌, ◌<◌, ℕ, List, [], ◌∷◌, ◌++◌, length, get_or, take, map, sym, ap, ap₂, subst}
use Rattle.std.specs.List.{AllByRecursion}
use Rattle.std.proofs.lemmas.List.{map-append, append_assoc, take_more}

-- what is told of the next item too
pub told-more : {A B X Y : Type 0} (tell : A → B) (f : Y → B) (row : X → Y) (items : List X) (i : ℕ) (x : X) (before now after : List A) (a : A)
    → i < length items → x ≡ get_or items i x → map tell now ≡ map tell before ++ map f (map row (take i items)) → after ≡ now ++ a ∷ [] → tell a ≡ f (row x)
    → map tell after ≡ map tell before ++ map f (map row (take (i + 1) items))
told-more tell f row items i x before now after a less at held added same =
    let told = map tell before in
    let rows = map row (take i items) in
    let next : map f (map row (take (i + 1) items)) ≡ map f rows ++ f (row x) ∷ [] =
    ap (λ xs. map f (map row xs)) (take_more items i x less ∙ ap (λ y. take i items ++ y ∷ []) (sym at))
    ∙ (ap (map f) (map-append row (take i items) (x ∷ [])) ∙ map-append f rows (row x ∷ [])) in
    ap (map tell) added
    ∙ (map-append tell now (a ∷ [])
    ∙ (ap₂ (λ xs y. xs ++ y ∷ []) held same
    ∙ (append_assoc told (map f rows) (f (row x) ∷ [])
    ∙ ap (λ ys. told ++ ys) (sym next))))

-- what is seen of the next one too
pub seen-more : {A B X : Type 0} (see : A → B) (f : X → B) (items : List X) (i : ℕ) (x : X) (now after : List A) (a : A)
    → i < length items → x ≡ get_or items i x → map see now ≡ map f (take i items)
    → after ≡ now ++ a ∷ [] → see a ≡ f x → map see after ≡ map f (take (i + 1) items)
seen-more see f items i x now after a less at held added is =
    ap (map see) added ∙ (map-append see now (a ∷ []) ∙ (ap₂ (λ xs y. xs ++ y ∷ []) held is
    ∙ sym (ap (map f) (take_more items i x less ∙ ap (λ y. take i items ++ y ∷ []) (sym at)) ∙ map-append f (take i items) (x ∷ []))))

-- one more of which it holds
AllByRecursion-push : {A : Type 0} (P : A → Type 0) (bs : List A) (a : A) → AllByRecursion P bs → P a → AllByRecursion P (bs ++ a ∷ [])
AllByRecursion-push P [] a all one = (one, tt)
AllByRecursion-push P (b ∷ bs) a all one = (all.0, AllByRecursion-push P bs a all.1 one)

-- what holds of each item holds with the next item too
pub AllByRecursion-more : {A : Type 0} (P : A → Type 0) (now after : List A) (a : A)
    → after ≡ now ++ a ∷ [] → AllByRecursion P now → P a → AllByRecursion P after
AllByRecursion-more P now after a added all one = subst (AllByRecursion P) (sym added) (AllByRecursion-push P now a all one)

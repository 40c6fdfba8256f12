-- The text of what is told of user contexts.
use Rattle.std.proofs.Common.{◌≡◌, ◌∙◌, ◌<◌, ◌+◌, ℕ, zero, suc, Bool, true, false, List, [], ◌∷◌, ◌++◌, map, codes, refl, sym, ap, ap₂, arith, append_assoc}
use Rattle.std.proofs.Common.{take, length, get_or}
use Rattle.std.specs.Prelude.{flat_map, ◌==◌, ◌/◌, ◌%◌, slice_index, if◌then◌else◌}
use Rattle.std.proofs.lemmas.List.{take_more}
use Rattle.std.proofs.lemmas.Grind.{flat_map-append}
use Rattle.json.specs.Print.{escape, escape_byte}
use Rattle.uuid.specs.Text.{by_index, hex_digit, hyphen, is_hyphen_place, nibble, digit_place, lower}
use Rattle.bidi_tree.specs.Node.{no_members}
use Rattle.bidi_tree.specs.Text.{compact_text, items_text}
use Rattle.bidi_tree.specs.View.{items_of}
use Rattle.bidi_handles.specs.Ids.{id_bytes}
use Rattle.bidi_handles.specs.Maps.{◌being◌and◌, mapped, listed}
use Rattle.bidi_handles.specs.declared.id.IdKind.TheVariants.{UserContext}
use Rattle.bidi_contexts.specs.Users.{user_id, user_info}

-- ---- no byte of an id is escaped

plain-digit : (d : ℕ) → d < 16 → escape_byte (hex_digit lower d) ≡ hex_digit lower d ∷ []
unfolding escape_byte
plain-digit zero low = refl
plain-digit (suc zero) low = refl
plain-digit (suc (suc zero)) low = refl
plain-digit (suc (suc (suc zero))) low = refl
plain-digit (suc (suc (suc (suc zero)))) low = refl
plain-digit (suc (suc (suc (suc (suc zero))))) low = refl
plain-digit (suc (suc (suc (suc (suc (suc zero)))))) low = refl
plain-digit (suc (suc (suc (suc (suc (suc (suc zero))))))) low = refl
plain-digit (suc (suc (suc (suc (suc (suc (suc (suc zero)))))))) low = refl
plain-digit (suc (suc (suc (suc (suc (suc (suc (suc (suc zero))))))))) low = refl
plain-digit (suc (suc (suc (suc (suc (suc (suc (suc (suc (suc zero)))))))))) low = refl
plain-digit (suc (suc (suc (suc (suc (suc (suc (suc (suc (suc (suc zero))))))))))) low = refl
plain-digit (suc (suc (suc (suc (suc (suc (suc (suc (suc (suc (suc (suc zero)))))))))))) low = refl
plain-digit (suc (suc (suc (suc (suc (suc (suc (suc (suc (suc (suc (suc (suc zero))))))))))))) low = refl
plain-digit (suc (suc (suc (suc (suc (suc (suc (suc (suc (suc (suc (suc (suc (suc zero)))))))))))))) low = refl
plain-digit (suc (suc (suc (suc (suc (suc (suc (suc (suc (suc (suc (suc (suc (suc (suc zero))))))))))))))) low = refl
plain-digit (suc (suc (suc (suc (suc (suc (suc (suc (suc (suc (suc (suc (suc (suc (suc (suc d)))))))))))))))) low = absurd (omega (arith, low))

nibble-low : (xs : List ℕ) (k : ℕ) → nibble xs k < 16
nibble-low xs k = either (k % 2 == 0)
  where
    either : (b : Bool) → (if b then slice_index xs (k / 2) / 16 % 16 else slice_index xs (k / 2) % 16) < 16
    either true = omega arith
    either false = omega arith

plain-list : (n : ℕ) (f : ℕ → ℕ) → ((k : ℕ) → escape_byte (f k) ≡ f k ∷ []) → escape (by_index n f) ≡ by_index n f
unfolding by_index
plain-list zero f plain = refl
plain-list (suc n) f plain = flat_map-append escape_byte (by_index n f) (f n ∷ []) ∙ ap₂ (λ x y. x ++ (y ++ [])) (plain-list n f plain) (plain n)

pub plain-user : (u : ℕ) → escape (user_id u) ≡ user_id u
unfolding escape_byte
plain-user zero = refl
plain-user (suc n) = plain-list 36 _ at
  where
    at : (k : ℕ) → escape_byte (if is_hyphen_place k then hyphen else hex_digit lower (nibble (id_bytes UserContext 0 (suc n)) (digit_place k)))
        ≡ (if is_hyphen_place k then hyphen else hex_digit lower (nibble (id_bytes UserContext 0 (suc n)) (digit_place k))) ∷ []
    at k = by_place (is_hyphen_place k)
      where
        by_place : (b : Bool) → escape_byte (if b then hyphen else hex_digit lower (nibble (id_bytes UserContext 0 (suc n)) (digit_place k)))
            ≡ (if b then hyphen else hex_digit lower (nibble (id_bytes UserContext 0 (suc n)) (digit_place k))) ∷ []
        by_place true = refl
        by_place false = plain-digit (nibble (id_bytes UserContext 0 (suc n)) (digit_place k)) (nibble-low (id_bytes UserContext 0 (suc n)) (digit_place k))

-- ---- texts

-- what is told of a user context, from its id
told-text : (u : ℕ) → compact_text (user_info u) ≡ codes "{\"userContext\":\"" ++ (user_id u ++ codes "\"}")
unfolding escape_byte
told-text u =
    ap (λ x. codes "{\"userContext\":\"" ++ x) (append_assoc (escape (user_id u)) (34 ∷ []) (125 ∷ []))
    ∙ ap (λ x. codes "{\"userContext\":\"" ++ (x ++ codes "\"}")) (plain-user u)

-- one more is told
pub told-next : {X : Type 0} (number : X → ℕ) (users : List X) (i : ℕ) (x : X) (s0 s s1 s2 s3 id : List ℕ) → i < length users → x ≡ get_or users i x
    → s ≡ s0 ++ flat_map (λ u. 44 ∷ compact_text (user_info (number u))) (take i users)
    → s1 ≡ s ++ codes ",{\"userContext\":\"" → s2 ≡ s1 ++ id → s3 ≡ s2 ++ codes "\"}" → id ≡ user_id (number x)
    → s3 ≡ s0 ++ flat_map (λ u. 44 ∷ compact_text (user_info (number u))) (take (i + 1) users)
told-next {X = X} number users i x s0 s s1 s2 s3 id less at before e1 e2 e3 named =
    let f : X → List ℕ = λ u. 44 ∷ compact_text (user_info (number u)) in
    let one : f x ≡ codes ",{\"userContext\":\"" ++ (id ++ codes "\"}") = ap (λ y. 44 ∷ y) (told-text (number x)) ∙ ap (λ y. codes ",{\"userContext\":\"" ++ (y ++ codes "\"}")) (sym named) in
    let more : take (i + 1) users ≡ take i users ++ x ∷ [] = take_more users i x less ∙ ap (λ y. take i users ++ y ∷ []) (sym at) in
    let all : flat_map f (take (i + 1) users) ≡ flat_map f (take i users) ++ f x =
    ap (flat_map f) more ∙ (flat_map-append f (take i users) (x ∷ []) ∙ ap (λ y. flat_map f (take i users) ++ y) (none (f x))) in
    let pushed : s3 ≡ s ++ (codes ",{\"userContext\":\"" ++ (id ++ codes "\"}")) =
    e3 ∙ (ap (λ y. y ++ codes "\"}") (e2 ∙ ap (λ y. y ++ id) e1)
    ∙ (append_assoc (s ++ codes ",{\"userContext\":\"") id (codes "\"}") ∙ append_assoc s (codes ",{\"userContext\":\"") (id ++ codes "\"}"))) in
    pushed ∙ (ap₂ (λ a b. a ++ b) before (sym one) ∙ (append_assoc s0 (flat_map f (take i users)) (f x) ∙ ap (λ y. s0 ++ y) (sym all)))
  where
    none : (xs : List ℕ) → xs ++ [] ≡ xs
    none [] = refl
    none (y ∷ ys) = ap (λ zs. y ∷ zs) (none ys)

-- those that are told behind the first
told-rest : (us : List ℕ) → items_text true (items_of (map user_info us)) ≡ flat_map (λ u. 44 ∷ compact_text (user_info u)) us ++ 93 ∷ []
told-rest [] = refl
told-rest (u ∷ us) =
    ap (λ x. 44 ∷ (compact_text (user_info u) ++ x)) (told-rest us)
    ∙ sym (append_assoc (44 ∷ compact_text (user_info u)) (flat_map (λ v. 44 ∷ compact_text (user_info v)) us) (93 ∷ []))

-- by number, or by what has the number
by-number : {X : Type 0} (number : X → ℕ) (xs : List X)
    → flat_map (λ u. 44 ∷ compact_text (user_info u)) (map number xs) ≡ flat_map (λ u. 44 ∷ compact_text (user_info (number u))) xs
by-number number [] = refl
by-number number (x ∷ xs) = ap (λ y. (44 ∷ compact_text (user_info (number x))) ++ y) (by-number number xs)

-- all are told
pub told-all : {X : Type 0} (number : X → ℕ) (users : List X) (s0 s1 s2 s3 : List ℕ) → s0 ≡ [] → s1 ≡ s0 ++ codes "{\"userContexts\":[{\"userContext\":\"default\"}"
    → s2 ≡ s1 ++ flat_map (λ u. 44 ∷ compact_text (user_info (number u))) users → s3 ≡ s2 ++ codes "]}"
    → s3 ≡ compact_text (mapped ("userContexts" being listed (map user_info (0 ∷ map number users)) and no_members))
unfolding escape_byte
told-all number users s0 s1 s2 s3 e0 e1 e2 e3 =
    let told = flat_map (λ u. 44 ∷ compact_text (user_info (number u))) users in
    let head = codes "{\"userContexts\":[{\"userContext\":\"default\"}" in
    e3 ∙ (ap (λ y. y ++ codes "]}") (e2 ∙ ap (λ y. y ++ told) (e1 ∙ ap (λ y. y ++ head) e0))
    ∙ (append_assoc head told (codes "]}") ∙ ap (λ y. head ++ y) (sym (append_assoc told (93 ∷ []) (125 ∷ [])))
    ∙ ap (λ y. head ++ (y ++ 125 ∷ [])) (ap (λ y. y ++ 93 ∷ []) (sym (by-number number users)) ∙ sym (told-rest (map number users)))))

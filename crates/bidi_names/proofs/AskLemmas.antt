-- What a command asks of names.
use Rattle.std.proofs.Common.{◌≡◌, ◌∙◌, ℕ, Option, List, [], ◌∷◌, map, ap}
use Rattle.json.specs.Json.{string}
use Rattle.json.specs.Tree.{ItemsHaveNumbers}
use Rattle.json.specs.Value.{items_of}
use Rattle.bidi_names.specs.Asked.{Wanted}

-- strings have no numbers
pub strings-numbers : (ss : List (List ℕ)) → ItemsHaveNumbers (items_of (map string ss))
strings-numbers [] = tt
strings-numbers (s ∷ ss) = (tt, strings-numbers ss)

-- what is asked, part by part
pub same-wanted : (id : ℕ) (f f' o o' m m' : List (List ℕ)) (p p' : Option (List ℕ)) (c u : Option (List (List ℕ))) → f ≡ f' → o ≡ o' → m ≡ m' → p ≡ p'
    → (let v : Wanted = record { id = id; foreign = f; others = o; modules = m; part = p; contexts = c; users = u } in
    let w : Wanted = record { id = id; foreign = f'; others = o'; modules = m'; part = p'; contexts = c; users = u } in v ≡ w)
same-wanted id f f' o o' m m' p p' c u ef eo em ep =
    λ i. record { id = id; foreign = ef i; others = eo i; modules = em i; part = ep i; contexts = c; users = u }

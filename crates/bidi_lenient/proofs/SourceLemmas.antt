-- The source URL at the end of a script, found byte by byte.
use Rattle.std.proofs.Common.{◌≡◌, ℕ, ◌==◌, ◌<◌, ◌+◌, false, cond, ◌&&◌, List, [], ◌∷◌, ◌++◌, length, take, drop, get_or, Option, Some, None}
use Rattle.std.proofs.Common.{refl, sym, ap, ◌∙◌, append_assoc}
use Rattle.std.specs.Prelude.{option_map}
use Rattle.std.proofs.lemmas.List.{drop_more, take_more}
use Rattle.bidi_lenient.specs.Source.{is_source, before_feed}

after : (done : List ℕ) (b : ℕ) (o : Option (List ℕ)) → option_map (λ x. done ++ x) (option_map (λ x. b ∷ x) o) ≡ option_map (λ x. (done ++ b ∷ []) ++ x) o
after done b None = refl
after done b (Some x) = ap Some (sym (append_assoc done (b ∷ []) x))

-- if the byte is not a line feed that a source URL follows, what stands before that line feed goes on with the byte
pub feed-later : (bs : List ℕ) (i : ℕ) → i < length bs → ((get_or bs i 0 == 10) && is_source (drop (i + 1) bs)) ≡ false
    → option_map (λ rest. take i bs ++ rest) (before_feed (drop i bs)) ≡ option_map (λ rest. take (i + 1) bs ++ rest) (before_feed (drop (i + 1) bs))
feed-later bs i inside other =
    ap (λ ds. option_map (λ rest. take i bs ++ rest) (before_feed ds)) (drop_more bs i 0 inside)
    ∙ ap (λ b. option_map (λ rest. take i bs ++ rest) (cond b (Some []) (option_map (λ x. get_or bs i 0 ∷ x) (before_feed (drop (i + 1) bs))))) other
    ∙ after (take i bs) (get_or bs i 0) (before_feed (drop (i + 1) bs))
    ∙ ap (λ ts. option_map (λ rest. ts ++ rest) (before_feed (drop (i + 1) bs))) (sym (take_more bs i 0 inside))

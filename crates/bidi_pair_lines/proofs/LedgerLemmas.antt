-- The lines of a ledger in the groups in which they are written; its trees may be written.
use Rattle.std.proofs.Common.{◌≡◌, ◌≢◌, ℕ, Bool, false, List, [], ◌∷◌, ◌++◌, codes, append_assoc, sym, ◌∙◌, ap, ap₂, subst, arith}
use Rattle.std.specs.Prelude.{decimal, ◌==◌, if◌then◌else◌}
use Rattle.std.proofs.lemmas.Bool.Decides.{nat_tests}
use Rattle.bidi_tree.specs.Node.{Node, IsWhole, IsWritable}
use Rattle.bidi_shape.specs.WholeLaws.{whole_within}
use Rattle.bidi_lines.specs.Feeds.{ended}
use Rattle.bidi_pair_lines.specs.PairLines.{unsent_text}

-- a tree of at most 70 levels may be written
pub writable : (t u : Node) → t ≡ u → IsWhole u 70 → IsWritable t
writable t u e whole = subst IsWritable (sym e) (whole_within u 70 100 (omega arith) whole)

-- the line of an event
pub event_grouped : (l : ℕ) (method params m p line : List ℕ)
    → line ≡ decimal l ++ 32 ∷ (codes "event " ++ (m ++ 32 ∷ (p ++ 10 ∷ []))) → m ≡ method → p ≡ params
    → line ≡ ended (decimal l ++ 32 ∷ (codes "event " ++ (method ++ 32 ∷ params)))
event_grouped l method params m p line e same_method same_params =
    e
    ∙ (ap₂ (λ n g. decimal l ++ 32 ∷ (codes "event " ++ (n ++ 32 ∷ (g ++ 10 ∷ [])))) same_method same_params
    ∙ sym (append_assoc (decimal l) (32 ∷ (codes "event " ++ (method ++ 32 ∷ params))) (10 ∷ [])
    ∙ ap (λ z. decimal l ++ 32 ∷ (codes "event " ++ z)) (append_assoc method (32 ∷ params) (10 ∷ []))))

not_zero : (n : ℕ) → n ≢ 0 → (n == 0) ≡ false
not_zero n some = grind (arith, nat_tests)

-- the line of the commands that were not sent, if there are any
pub unsent_grouped : (l n : ℕ) → n ≢ 0 → unsent_text l n ≡ decimal l ++ 32 ∷ (codes "unsent " ++ (decimal n ++ 10 ∷ []))
unsent_grouped l n some =
    let line = decimal l ++ 32 ∷ (codes "unsent " ++ decimal n) in
    ap (λ (none : Bool). if none then [] else ended line) (not_zero n some) ∙ append_assoc (decimal l) (32 ∷ (codes "unsent " ++ decimal n)) (10 ∷ [])

-- What the rules of a loaded grammar say.
use Rattle.std.proofs.Common.{◌≡◌, ◌<◌, ℕ, zero, suc, List, [], ◌∷◌, length, sym, ap, subst, ◌∙◌, arith, string_bytes}
use Rattle.std.specs.Prelude.{◌↔◌, All}
use Rattle.std.specs.List.{AllZip}
use Rattle.json.specs.Json.{Json}
use Rattle.bidi_grammar.specs.Term.{Grammar, term_at}
use Rattle.bidi_grammar.specs.Fits.{Fits}
use Rattle.bidi_grammar.specs.Source.{Written, FitsWritten, IsMade, Rules, Source, name, of_type}
use Rattle.bidi_grammar.specs.View.{table}
use Rattle.bidi_grammar.specs.declared.term.Term as code_term
use Rattle.bidi_cddl.specs.declared.written.Rule.{Rule}
use Rattle.bidi_cddl.specs.declared.written.Written as code
use Rattle.bidi_loader.specs.declared.draft.Origin.{Origin}
use Rattle.bidi_loader.specs.declared.named.Named.{Named}
use Rattle.bidi_loader.specs.declared.reading.Reading.{Reading}
use Rattle.bidi_loader.specs.Meaning.{rules_of}
use Rattle.bidi_loader.specs.Readings.{source_at}
use Rattle.bidi_loader.specs.Loading.{IsListed, IsNamed, IsThere, Says}
use Rattle.bidi_loader.proofs.OptionLemmas.{if_some}

-- what holds of the first element and of the others
at_each : {B : Type 0} (P : B → Type 0) (y : B) (ys : List B) → P y → All P ys → All P (y ∷ ys)
at_each P y ys p h zero d l = p
at_each P y ys p h (suc k) d l = h k d (omega (arith, l))

-- what holds of each pair holds of each second element
all_from_both : {A B : Type 0} (R : A → B → Type 0) (P : B → Type 0) (xs : List A) (ys : List B) → ((x : A) (y : B) → R x y → P y) → AllZip R xs ys → All P ys
all_from_both R P [] [] f h = λ k d l. absurd (omega (arith, l))
all_from_both R P [] (y ∷ ys) f h = absurd h
all_from_both R P (x ∷ xs) [] f h = absurd h
all_from_both R P (x ∷ xs) (y ∷ ys) f h = at_each P y ys (f x y h.0) (all_from_both R P xs ys f h.1)

-- the rules are all listed
pub all_listed : (w : code.Written) (reading : Reading) (origins : List Origin) (rules : List Rule) (xs : List Named) → AllZip (IsNamed w reading origins) rules xs
    → AllZip IsListed rules xs
all_listed w reading origins [] [] h = tt
all_listed w reading origins [] (x ∷ xs) h = absurd h
all_listed w reading origins (r ∷ rules) [] h = absurd h
all_listed w reading origins (r ∷ rules) (x ∷ xs) h = (h.0.0, all_listed w reading origins rules xs h.1)

-- the places are in the table
pub all_there : (w : code.Written) (reading : Reading) (origins : List Origin) (terms : List code_term.Term) (rules : List Rule) (xs : List Named)
    → length terms ≡ length origins → AllZip (IsNamed w reading origins) rules xs → All (IsThere terms) xs
all_there w reading origins terms rules xs e h =
    all_from_both (IsNamed w reading origins) (IsThere terms) rules xs
    (λ r x p. if_some x.place (λ n. (n < length origins) × (source_at w reading origins n ≡ of_type (name r.name.now))) (λ n. n < length terms)
    (λ n q. subst (λ k. n < k) (sym e) q.0) p.1) h

-- what a law says of tables that are made of rules
abbrev pub Law : Type 0
Law = (ρ : Rules) (g : Grammar) (o : ℕ → Source) → IsMade ρ g o → (n : ℕ) (σ : Written) → o n ≡ of_type σ → (t : Json) → Fits g t (term_at g n) ↔ FitsWritten ρ t σ

-- the places say what the rules say
pub all_say : Law → (w : code.Written) (reading : Reading) (origins : List Origin) (terms : List code_term.Term) (rules : List Rule) (xs : List Named)
    → IsMade (rules_of w) (table terms) (source_at w reading origins) → AllZip (IsNamed w reading origins) rules xs → All (Says w terms) xs
all_say law w reading origins terms rules xs m h =
    all_from_both (IsNamed w reading origins) (Says w terms) rules xs
    (λ r x p. if_some x.place (λ n. (n < length origins) × (source_at w reading origins n ≡ of_type (name r.name.now)))
    (λ n. (t : Json) → Fits (table terms) t (term_at (table terms) n) ↔ FitsWritten (rules_of w) t (name (string_bytes x.name)))
    (λ n q t. law (rules_of w) (table terms) (source_at w reading origins) m n (name (string_bytes x.name)) (q.1 ∙ ap (λ (k : List ℕ). of_type (name k)) p.0.0) t) p.1) h

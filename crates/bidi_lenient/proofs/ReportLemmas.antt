-- The reports, and the eased text with them.
use Rattle.std.proofs.Common.{◌≡◌, ℕ, ◌==◌, true, false, true≢false, List, [], ◌∷◌, ◌++◌, length, map, codes, Option, Some, None}
use Rattle.std.proofs.Common.{refl, sym, ap, ◌∙◌, subst, arith, append_assoc, String, Global, string_bytes}
use Rattle.std.proofs.lemmas.Bool.Decides.{nat_tests}
use Rattle.std.proofs.lemmas.List.{map-append}
use Rattle.bidi_tree.specs.Node.{Node, Members, member, is_whole, IsWhole}
use Rattle.bidi_tree.specs.View.{node, members_node}
use Rattle.bidi_tree.proofs.TreeLemmas.{Entry}
use Rattle.bidi_lenient.specs.Names.{is_capability}
use Rattle.bidi_lenient.specs.Reports.{members_told}
use Rattle.bidi_lenient.specs.Eased.{with_reports}

abbrev Name : Type 0
Name = String Global

told-member : (old new : List Name) (s : Name) (k : List ℕ) (t : Node) (ms : Members) (all : List (List ℕ))
    → is_capability k t ≡ true → string_bytes s ≡ codes "left out capability " ++ k → new ≡ old ++ s ∷ []
    → map string_bytes old ++ members_told (member k t ms) ≡ all → map string_bytes new ++ members_told ms ≡ all
told-member old new s k t ms all out named more was =
    ap (λ names. map string_bytes names ++ members_told ms) more
    ∙ rw (map-append, append_assoc) (ap (λ name. map string_bytes old ++ (name ∷ members_told ms)) named ∙ rw out at was)

-- one more name is reported for a member that is left out
pub told-entry : (old new : List Name) (s : Name) (e : Entry) (es left : List Entry) (all : List (List ℕ))
    → is_capability (string_bytes e.0) (node e.1) ≡ true → string_bytes s ≡ codes "left out capability " ++ string_bytes e.0 → new ≡ old ++ s ∷ []
    → left ≡ e ∷ es → map string_bytes old ++ members_told (members_node left) ≡ all → map string_bytes new ++ members_told (members_node es) ≡ all
told-entry old new s e es left all out named more steps was =
    told-member old new s (string_bytes e.0) (node e.1) (members_node es) all out named more
    (ap (λ x. map string_bytes old ++ members_told (members_node x)) (sym steps) ∙ was)

-- ---- a command

-- what is reported, if that is something
pub some-reports : (s : Option (List ℕ)) (names : List Name) (n : ℕ) → n ≡ length names → false ≡ (n == 0)
    → Some (s, map string_bytes names) ≡ with_reports s (map string_bytes names)
some-reports s [] n is some = absurd (true≢false (sym (subst (λ m. false ≡ (m == 0)) is some)))
some-reports s (name ∷ names) n is some = refl

-- nothing is reported, so there is no eased text
pub no-reports : (s : Option (List ℕ)) (names : List Name) (n : ℕ) → n ≡ length names → true ≡ (n == 0)
    → with_reports s (map string_bytes names) ≡ None
no-reports s [] n is none = refl
no-reports s (name ∷ names) n is none = let z : n ≡ 0 = grind (arith, nat_tests) in absurd (omega (arith, is, z))

-- a tree that is whole passes the test
pub is_whole-true : (t : Node) (l : ℕ) → IsWhole t l → is_whole t l ≡ true
is_whole-true t l w = let odd = w.0 in let few = w.1 in grind (arith, nat_tests)

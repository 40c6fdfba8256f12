use Rattle.std.proofs.Common.{◌≡◌, ◌∙◌, ℕ, ◌==◌, List, [], ◌∷◌, true≢false, false, refl, sym, subst, length, vec_len, String, Global, arith}
use Rattle.bidi_rows.specs.Part.{members_of}
use Rattle.bidi_rows.specs.Matching.{passes_each, passes_all}
use Rattle.bidi_rows.specs.declared.part.Part.{Part}
use Rattle.bidi_rows.proofs.matching.passes_all.Goals as goal

-- where there is a test, all of them decide
some_test : (s : List ℕ) (ms : List (String Global × Part)) (n : ℕ) → n ≡ length ms → false ≡ (n == 0)
    → passes_each s (members_of ms) ≡ passes_all s (members_of ms)
some_test s [] n is some = absurd (true≢false (sym (subst (λ m. false ≡ (m == 0)) is some)))
some_test s (m ∷ ms) n is some = refl

pub returns : goal.returns
returns c =
    let n : vec_len c.args.tests.now ≡ length c.args.tests.now.items = omega arith in
    c.passes_each.ensures ∙ some_test c.args.text.now c.args.tests.now.items (vec_len c.args.tests.now) n c.if-is_empty.ensures

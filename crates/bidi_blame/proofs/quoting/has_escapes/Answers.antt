use Rattle.std.proofs.Common.{◌<◌, ℕ, List, length, get_or, ⊎_elim, ap, subst, arith}
use Rattle.std.proofs.lemmas.Bool.{or_cases, or_parts}
use Rattle.bidi_blame.proofs.WordLemmas.{Escaped, Unescaped, escape_more, escape-other}
use Rattle.bidi_blame.proofs.quoting.has_escapes.Goals as goal

pub loop-byte-preserved : goal.loop-byte-preserved
loop-byte-preserved c =
    let i = c.loop-byte.byte-index in
    let text = c.args.text.now in
    let same = c.as_bytes-byte-items.ensures.value in
    let few : i < length text = omega (arith, c.loop-byte-test.true, c.loop-byte.auto.byte-index-end, ap length same) in
    let told = c.is_escaped-has_escapes.ensures in (
      λ none rest.
          let both = or_parts c.loop-byte.has_escapes c.is_escaped-has_escapes.result none in
          let plain = subst (λ (s : List ℕ). Unescaped (get_or s i 0)) same (told.0 both.1) in
          c.loop-byte.invariant.0 both.0 (escape_more text i few plain rest),
      λ some.
          ⊎_elim
          c.loop-byte.invariant.1
          (λ here. escape-other text i few (subst (λ (s : List ℕ). Escaped (get_or s i 0)) same (told.1 here)))
          (or_cases c.loop-byte.has_escapes c.is_escaped-has_escapes.result some),
    )

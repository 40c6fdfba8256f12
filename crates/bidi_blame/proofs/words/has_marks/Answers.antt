use Rattle.std.proofs.Common.{◌≢◌, ◌<◌, ℕ, List, length, get_or, ap, subst, arith}
use Rattle.std.proofs.lemmas.Bool.{or_parts}
use Rattle.bidi_blame.proofs.WordLemmas.{escaped_more}
use Rattle.bidi_blame.proofs.words.has_marks.Goals as goal

pub loop-byte-preserved : goal.loop-byte-preserved
loop-byte-preserved c =
    let i = c.loop-byte.byte-index in
    let name = c.args.name.now in
    let same = c.as_bytes-byte-items.ensures.value in
    let few : i < length name = omega (arith, c.loop-byte-test.true, c.loop-byte.auto.byte-index-end, ap length same) in
    λ none rest.
    let both = or_parts c.loop-byte.has_marks c.is_mark-has_marks.result none in
    let plain = subst (λ (s : List ℕ). (get_or s i 0 ≢ 126) × (get_or s i 0 ≢ 47)) same (c.is_mark-has_marks.ensures both.1) in
    c.loop-byte.invariant both.0 (escaped_more name i few plain.0 plain.1 rest)

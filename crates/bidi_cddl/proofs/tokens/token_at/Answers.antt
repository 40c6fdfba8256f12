use Rattle.std.proofs.Common.{◌≡◌, ◌∙◌, ◌+◌, ◌<◌, arith, ap, drop, get_or, subst, sym, IsCharBoundary}
use Rattle.std.proofs.lemmas.List.{drop-drop}
use Rattle.std.proofs.lemmas.Str.{IsCharBoundary-after_ascii, IsCharBoundary-before_ascii}
use Rattle.bidi_cddl.specs.Tokens.{string_at}
use Rattle.bidi_cddl.proofs.SizeLemmas.{boundary_after, front_byte}
use Rattle.bidi_cddl.proofs.TokenLemmas.{begins_ascii, starts_ascii, token_at_string}
use Rattle.bidi_cddl.proofs.tokens.token_at.Goals as goal

pub string_at-requires-clause-there : goal.string_at-requires-clause-there
string_at-requires-clause-there c =
    let back : c.split_at.result.1.now ≡ drop c.args.at c.args.text.now = c.split_at.ensures.back ∙ ap (drop c.args.at) c.as_bytes.ensures.value in
    let quote : get_or c.args.text.now c.args.at 0 ≡ 34 =
    front_byte c.args.text.now c.split_at.result.1.now c.args.at c.byte_at-first.result back c.byte_at-first.ensures ∙ c.if-first-eq34.true in
    let ascii : get_or c.args.text.now c.args.at 0 < 128 = omega arith in
    IsCharBoundary-after_ascii c.args.text.now c.args.at c.utf8.text (omega arith) ascii

pub returns-then-first-eq34 : goal.returns-then-first-eq34
returns-then-first-eq34 c =
    let back : c.split_at.result.1.now ≡ drop c.args.at c.args.text.now = c.split_at.ensures.back ∙ ap (drop c.args.at) c.as_bytes.ensures.value in
    let quote : get_or (drop c.args.at c.args.text.now) 0 0 ≡ 34 =
    sym (ap (λ xs. get_or xs 0 0) back) ∙ (sym c.byte_at-first.ensures ∙ c.if-first-eq34.true) in
    c.string_at.ensures ∙ (ap string_at (sym (drop-drop 1 c.args.at c.args.text.now)) ∙ sym (token_at_string (drop c.args.at c.args.text.now) quote))

pub word-requires-clause-to : goal.word-requires-clause-to
word-requires-clause-to c =
    let back : c.split_at.result.1.now ≡ drop c.args.at c.args.text.now = c.split_at.ensures.back ∙ ap (drop c.args.at) c.as_bytes.ensures.value in
    let first : get_or c.args.text.now c.args.at 0 ≡ c.byte_at-first.result =
    front_byte c.args.text.now c.split_at.result.1.now c.args.at c.byte_at-first.result back c.byte_at-first.ensures in
    let low : c.byte_at-first.result < 128 = begins_ascii c.byte_at-first.result c.byte_at-second.result (sym c.begins_number.ensures ∙ c.if-begins_number.true) in
    let from : IsCharBoundary c.args.text.now c.args.at = IsCharBoundary-before_ascii c.args.text.now c.args.at (omega arith) (omega arith) in
    boundary_after c.args.text.now c.split_at.result.1.now c.args.at c.number_size.result c.utf8.text back (omega arith) from
    (λ k e. c.number_size.ensures.ascii k (omega arith))

pub word-requires-then-is_name_start-clause-to : goal.word-requires-then-is_name_start-clause-to
word-requires-then-is_name_start-clause-to c =
    let back : c.split_at.result.1.now ≡ drop c.args.at c.args.text.now = c.split_at.ensures.back ∙ ap (drop c.args.at) c.as_bytes.ensures.value in
    let first : get_or c.args.text.now c.args.at 0 ≡ c.byte_at-first.result =
    front_byte c.args.text.now c.split_at.result.1.now c.args.at c.byte_at-first.result back c.byte_at-first.ensures in
    let low : c.byte_at-first.result < 128 = starts_ascii c.byte_at-first.result (sym c.is_name_start.ensures ∙ c.if-is_name_start.true) in
    let from : IsCharBoundary c.args.text.now c.args.at = IsCharBoundary-before_ascii c.args.text.now c.args.at (omega arith) (omega arith) in
    boundary_after c.args.text.now c.split_at.result.1.now c.args.at c.name_size.result c.utf8.text back (omega arith) from
    (λ k e. c.name_size.ensures.ascii (omega arith) k e)

pub word-requires-then-is_name_start-2-clause-to :
    goal.word-requires-then-is_name_start-2-clause-to
word-requires-then-is_name_start-2-clause-to c =
    let size = c.name_size-then-is_name_start-2.result in
    let back : c.split_at.result.1.now ≡ drop c.args.at c.args.text.now = c.split_at.ensures.back ∙ ap (drop c.args.at) c.as_bytes.ensures.value in
    let first : get_or c.args.text.now c.args.at 0 ≡ c.byte_at-first.result =
    front_byte c.args.text.now c.split_at.result.1.now c.args.at c.byte_at-first.result back c.byte_at-first.ensures in
    let low : get_or c.args.text.now c.args.at 0 < 128 = omega (arith, c.if-first-eq46.true) in
    let from : IsCharBoundary c.args.text.now (c.args.at + 1) = IsCharBoundary-after_ascii c.args.text.now c.args.at c.utf8.text (omega arith) low in
    let more : c.split_at-then-is_name_start-2.result.1.now ≡ drop (c.args.at + 1) c.args.text.now =
    c.split_at-then-is_name_start-2.ensures.back ∙ (ap (drop 1) back ∙ drop-drop 1 c.args.at c.args.text.now) in
    let end : IsCharBoundary c.args.text.now (c.args.at + 1 + size) =
    boundary_after c.args.text.now c.split_at-then-is_name_start-2.result.1.now (c.args.at + 1) size c.utf8.text more (omega arith) from
    (λ k e. c.name_size-then-is_name_start-2.ensures.ascii (omega arith) k e) in
    let same : c.args.at + 1 + size ≡ c.args.at + (1 + size) = omega arith in
    subst (IsCharBoundary c.args.text.now) same end

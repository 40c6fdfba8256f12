use Rattle.std.proofs.Common.{◌≡◌, ◌∙◌, ℕ, ◌+◌, ◌-◌, ◌∷◌, ◌++◌, [], arith, ap, drop, map, sym}
use Rattle.std.specs.Prelude.{Some, None, Err}
use Rattle.std.proofs.lemmas.List.{map-append}
use Rattle.bidi_cddl.specs.Sizes.{gap_size}
use Rattle.bidi_cddl.specs.Token.{placed, placed_of, token_of, token_size}
use Rattle.bidi_cddl.specs.Tokens.{placed_tokens, tokens_from}
use Rattle.bidi_cddl.proofs.TokenLemmas.{behind, behind_one, from_token, on_gap, on_left, on_token, wrong_at}
use Rattle.bidi_cddl.proofs.tokens.tokens.Goals as goal

pub loop-at-preserved-then-left-gt0 : goal.loop-at-preserved-then-left-gt0
loop-at-preserved-then-left-gt0 c =
    let at = c.loop-at in
    ap (behind (map placed_of at.found.items)) (sym (on_left at.at at.left c.args.text.now at.at (omega arith) (omega arith))) ∙ at.invariant

pub loop-at-preserved-then-gap-gt0 : goal.loop-at-preserved-then-gap-gt0
loop-at-preserved-then-gap-gt0 c =
    let at = c.loop-at in
    let back : c.split_at.result.1.now ≡ drop at.at c.args.text.now = c.split_at.ensures.back ∙ ap (drop at.at) c.as_bytes-in-loop-at.ensures.value in
    ap (behind (map placed_of at.found.items))
    (sym (on_gap at.at at.left c.args.text.now at.at c.gap_size-gap.result (omega arith) (omega arith) (c.gap_size-gap.ensures ∙ ap gap_size back) (omega arith)))
    ∙ at.invariant

pub returns-in_default-clause-place : goal.returns-in_default-clause-place
returns-in_default-clause-place c =
    let at = c.loop-at in
    let text = c.args.text.now in
    let back : c.split_at.result.1.now ≡ drop at.at text = c.split_at.ensures.back ∙ ap (drop at.at) c.as_bytes-in-loop-at.ensures.value in
    let none : tokens_from at.at at.left (drop at.at text) ≡ from_token None at.at (drop (at.at + 1) text) =
    on_token at.at at.left text at.at c.gap_size-gap.result None (omega arith) (omega arith) (c.gap_size-gap.ensures ∙ ap gap_size back) (omega arith) c.in_default.ensures in
    let wrong : placed_tokens text ≡ Err at.at = sym at.invariant ∙ ap (behind (map placed_of at.found.items)) none in
    wrong_at c.no_token.result (λ n. n ≡ at.at) (λ n. placed_tokens text ≡ Err n) (λ n e. wrong ∙ ap Err (sym e)) c.no_token.ensures

pub loop-at-preserved : goal.loop-at-preserved
loop-at-preserved c =
    let at = c.loop-at in
    let text = c.args.text.now in
    let token = token_of c.in-Some.token in
    let rest = drop (at.at + 1) text in
    let back : c.split_at.result.1.now ≡ drop at.at text = c.split_at.ensures.back ∙ ap (drop at.at) c.as_bytes-in-loop-at.ensures.value in
    let some : tokens_from at.at at.left (drop at.at text) ≡ from_token (Some token) at.at rest =
    on_token at.at at.left text at.at c.gap_size-gap.result (Some token) (omega arith) (omega arith) (c.gap_size-gap.ensures ∙ ap gap_size back) (omega arith) c.in-Some.ensures in
    let left : c.saturating_sub-left.result ≡ token_size token - 1 = c.saturating_sub-left.ensures ∙ ap (λ (n : ℕ). n - 1) c.size.ensures in
    let grown : map placed_of c.push.new.self.items ≡ map placed_of at.found.items ++ placed token at.at ∷ [] =
    ap (map placed_of) c.in_ok-push.ensures.items ∙ map-append placed_of at.found.items (record { token = c.in-Some.token; at = at.at } ∷ []) in
    ap (λ xs. behind xs (tokens_from (at.at + 1) c.saturating_sub-left.result rest)) grown
    ∙ (ap (λ (n : ℕ). behind (map placed_of at.found.items ++ placed token at.at ∷ []) (tokens_from (at.at + 1) n rest)) left
    ∙ (behind_one (map placed_of at.found.items) (placed token at.at) (tokens_from (at.at + 1) (token_size token - 1) rest)
    ∙ (ap (behind (map placed_of at.found.items)) (sym some) ∙ at.invariant)))

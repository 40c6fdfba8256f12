use Rattle.std.proofs.Common.{◌≡◌, ◌≤◌, sym, subst, arith, rules}
use Rattle.bidi_tree.specs.Node.{levels}
use Rattle.test_messages.proofs.messages.response_with.Goals as goal

pub response_text-requires-clause-small : goal.response_text-requires-clause-small
response_text-requires-clause-small c =
    let whole = c.are_whole.ensures.value.0 (search (rules, c.if-not-are_whole.ensures)) in
    subst (λ t. levels t ≤ 61) (sym c.in_ok-answer.ensures.ok.1) (omega (arith, whole.1))

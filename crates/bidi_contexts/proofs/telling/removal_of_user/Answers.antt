use Rattle.bidi_contexts.specs.Contexts.{tops}
use Rattle.bidi_contexts.proofs.SubtreeLemmas.{tops-subtrees}
use Rattle.bidi_contexts.proofs.telling.removal_of_user.Goals as goal

pub returns-clause-told : goal.returns-clause-told
returns-clause-told c = λ past stands.
    c.removal_from.ensures.told past (tops past) (tops-subtrees past c.in_tree_order.result.now (c.in_tree_order.ensures past stands) stands.accepted)

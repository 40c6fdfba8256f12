use Rattle.std.proofs.Common.{refl, arith}
use Rattle.bidi_messages.proofs.SendingLemmas.{around-text, around-back}
use Rattle.bidi_messages.proofs.sending.write_response.Goals as goal

pub append_result-requires : goal.append_result-requires
append_result-requires c = let few = c.requires.1 in (c.requires.0, omega (arith, few))

pub returns-clause-text : goal.returns-clause-text
returns-clause-text c =
    around-text _ _ _ _ _ _ c.format.result.now _ c.args.id.value _ c.in_ok-text.ensures.bytes c.in_ok-push_str.ensures.bytes
    c.in_ok-push_str-2.ensures.bytes c.in_ok-push_str-3.ensures.bytes c.in_ok-text-2.ensures.text c.in_ok-push_str-4.ensures.bytes
    c.format.ensures.text refl

pub returns-clause-tree : goal.returns-clause-tree
returns-clause-tree c = around-back _ c.args.id _ (returns-clause-text c) c.in_ok-text-2.ensures.sound c.requires

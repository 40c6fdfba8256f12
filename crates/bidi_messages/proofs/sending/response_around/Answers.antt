use Rattle.std.proofs.Common.{◌∙◌, sym}
use Rattle.bidi_messages.specs.Message.{response_tree}
use Rattle.bidi_messages.proofs.SendingLemmas.{around-text, around-back, no_event-response, response_fits}
use Rattle.bidi_messages.proofs.sending.response_around.Goals as goal

pub returns-clause-text : goal.returns-clause-text
returns-clause-text c = λ t is.
    around-text _ _ _ _ _ _ c.format.result.now c.args.result_text.now c.args.id.value t c.in_ok-text.ensures.bytes c.in_ok-push_str.ensures.bytes
    c.in_ok-push_str-2.ensures.bytes c.in_ok-push_str-3.ensures.bytes c.in_ok-push_str-4.ensures.bytes c.in_ok-push_str-5.ensures.bytes
    c.format.ensures.text is

pub returns-clause-tree : goal.returns-clause-tree
returns-clause-tree c = λ t is sound whole. around-back _ c.args.id t (returns-clause-text c t is) sound whole

pub returns-clause-reads_back : goal.returns-clause-reads_back
returns-clause-reads_back c = λ t method is sound whole fits. (
  response_tree c.args.id.value t,
  response_fits c.args.id method t 61 fits whole whole.1,
  returns-clause-text c t is,
  returns-clause-tree c t is sound whole,
  λ e params same. absurd (no_event-response c.args.id.value t e params (sym (returns-clause-text c t is) ∙ same)),
)

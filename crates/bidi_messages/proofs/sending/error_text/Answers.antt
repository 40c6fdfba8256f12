use Rattle.std.proofs.Common.{◌∙◌, option_map, refl, sym}
use Rattle.bidi_messages.specs.Message.{error_tree}
use Rattle.bidi_messages.proofs.SendingLemmas.{error-text, error-back, error_fits, no_event-error}
use Rattle.bidi_messages.proofs.sending.error_text.Goals as goal

pub returns-clause-text : goal.returns-clause-text
returns-clause-text c =
    error-text _ _ _ _ _ _ _ _ c.name-name.result.now _ (option_map (λ n. n.value) c.args.id) c.args.code c.in_ok-text.ensures.bytes c.in_ok-push_str.ensures.bytes
    c.in_ok-push_str-2.ensures.bytes c.in_ok-push_str-3.ensures.bytes c.in_ok-push_id.ensures c.in_ok-push_str-4.ensures.bytes
    c.in_ok-push_str-5.ensures.bytes c.in_ok-push_str-6.ensures.bytes c.name-name.ensures refl

pub returns-clause-reads_back : goal.returns-clause-reads_back
returns-clause-reads_back c =
    let id = option_map (λ n. n.value) c.args.id in
    let text = returns-clause-text c in (
      error_tree id c.args.code,
      error_fits c.args.id c.args.code,
      text,
      error-back _ c.args.id c.args.code text,
      λ e params same. absurd (no_event-error id c.args.code e params (sym text ∙ same)),
    )

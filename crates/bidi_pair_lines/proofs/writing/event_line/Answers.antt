use Rattle.std.proofs.Common.{◌∙◌, ap}
use Rattle.std.specs.Prelude.{string_bytes}
use Rattle.std.proofs.lemmas.Result.{IfOk-weaker}
use Rattle.bidi_tree.specs.Text.{compact_text}
use Rattle.bidi_methods.specs.EventName.{event_name_text}
use Rattle.bidi_methods.specs.contracts.event_data.EventDataPayloadEventName.TheImpl.{ghosts}
use Rattle.bidi_pair_lines.proofs.LedgerLemmas.{event_grouped}
use Rattle.bidi_pair_lines.proofs.writing.event_line.Goals as goal

pub returns : goal.returns
returns c =
    let d = c.args.event in
    IfOk-weaker c.told_event.result _ _
    (λ line e. event_grouped c.args.link.value (event_name_text (ghosts.payload.kind d)) (compact_text (ghosts.payload.tree_of d))
    c.name.result.now c.as_str.result.now (string_bytes line) e
    (c.name.ensures ∙ ap event_name_text c.event-event_name.ensures) (c.as_str.ensures.value ∙ c.in_ok-text.ensures)) c.told_event.ensures

use Rattle.std.proofs.Common.{◌∙◌, ◌++◌, map}
use Rattle.std.specs.List.{flat_map}
use Rattle.bidi_local.specs.View.{waiting_in}
use Rattle.bidi_why.specs.Conversing.{command_of, waiting_command}
use Rattle.bidi_why.specs.Explainers.{kept_in}
use Rattle.bidi_why.proofs.KeptLemmas.{commands_as}
use Rattle.bidi_why.proofs.unanswered.unanswered_commands.Goals as goal

pub returns : goal.returns
returns c =
    let lines = c.args.conversation.now.lines.items in
    let ws = c.in_ok-waiting.waiting.items in
    let found = c.in_ok-found.ensures ∙ (λ i. map (λ w. waiting_command (c.deref.ensures.value i) (w.0.value, w.1)) (c.deref-2.ensures.value i)) in
    c.in_ok-add_beyond.ensures
    ∙ (λ i. found i ++ flat_map (λ k. command_of (kept_in k)) (c.deref-3.ensures.value i))
    ∙ commands_as lines ws (waiting_in c.args.conversation.now.end) c.args.conversation.now.refused.items c.in_ok-waiting.ensures

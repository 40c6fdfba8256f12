use Rattle.std.proofs.Common.{◌∙◌, ap, option_map}
use Rattle.bidi_local.specs.View.{meaning_of, waiting_in}
use Rattle.bidi_messages.specs.contracts.message.MessageShape.TheImpl.{ghosts}
use Rattle.bidi_why.specs.Conversing.{lines_left}
use Rattle.bidi_why.specs.Explainers.{all_kept_in, standing_of}
use Rattle.bidi_remarks.specs.Remark.{remark_of}
use Rattle.bidi_why.proofs.HearingLemmas.{bad_asked, no_message_taken, takes_bad_result, takes_failure, takes_fine, takes_stray}
use Rattle.bidi_why.proofs.conversation.Conversation.take.Goals as goal

pub bad_result-requires : goal.bad_result-requires
bad_result-requires c =
    bad_asked c.args.self.now.end c.take_message.new.self c.args.self.now.lines.items c.forget.new.lines.items (all_kept_in c.args.self.now.refused.items) c.args.text.now (ghosts.shape.tree_of c.args.message)
    (meaning_of c.in_ok-take_message.field-0.received) _ c.in_ok-take_message.ensures.means c.in_ok-take_message.ensures.settles
    (c.forget.ensures ∙ ap (λ o. lines_left o c.args.self.now.lines.items) c.in_brief-settled.ensures.settled) c.requires.read
    c.in_brief-settled.result.1 (c.in_brief-settled.ensures.outcome (waiting_in c.args.self.now.end) c.in_ok-take_message.ensures.method) c.in-BadResult.id c.in-BadResult.method c.in-BadResult.is

pub unreachable-requires : goal.unreachable-requires
unreachable-requires c =
    no_message_taken c.args.self.now.end c.take_message.new.self c.args.self.now.lines.items c.forget.new.lines.items (all_kept_in c.args.self.now.refused.items) c.args.text.now (ghosts.shape.tree_of c.args.message)
    (meaning_of c.in_ok-take_message.field-0.received) _ c.in_ok-take_message.ensures.means c.in_ok-take_message.ensures.settles
    (c.forget.ensures ∙ ap (λ o. lines_left o c.args.self.now.lines.items) c.in_brief-settled.ensures.settled) c.requires.read
    c.in_brief-settled.result.1 (c.in_brief-settled.ensures.outcome (waiting_in c.args.self.now.end) c.in_ok-take_message.ensures.method) (ghosts.shape.fits c.args.message c.requires.well) c.in-NoMessage.is

pub returns-in-Fine-clause-taken : goal.returns-in-Fine-clause-taken
returns-in-Fine-clause-taken c =
    takes_fine c.args.self.now.end c.take_message.new.self c.args.self.now.lines.items c.forget.new.lines.items (all_kept_in c.args.self.now.refused.items) c.args.text.now (ghosts.shape.tree_of c.args.message)
    (meaning_of c.in_ok-take_message.field-0.received) _ c.in_ok-take_message.ensures.means c.in_ok-take_message.ensures.settles
    (c.forget.ensures ∙ ap (λ o. lines_left o c.args.self.now.lines.items) c.in_brief-settled.ensures.settled) c.requires.read
    c.in_brief-settled.result.1 (c.in_brief-settled.ensures.outcome (waiting_in c.args.self.now.end) c.in_ok-take_message.ensures.method) c.in-Fine.is

pub returns-in_ok-bad_result-in-BadResult-clause-taken : goal.returns-in_ok-bad_result-in-BadResult-clause-taken
returns-in_ok-bad_result-in-BadResult-clause-taken c =
    takes_bad_result c.args.self.now.end c.take_message.new.self c.args.self.now.lines.items c.forget.new.lines.items (all_kept_in c.args.self.now.refused.items) c.args.text.now (ghosts.shape.tree_of c.args.message)
    (meaning_of c.in_ok-take_message.field-0.received) _ c.in_ok-take_message.ensures.means c.in_ok-take_message.ensures.settles
    (c.forget.ensures ∙ ap (λ o. lines_left o c.args.self.now.lines.items) c.in_brief-settled.ensures.settled) c.requires.read
    c.in_brief-settled.result.1 (c.in_brief-settled.ensures.outcome (waiting_in c.args.self.now.end) c.in_ok-take_message.ensures.method) c.in-BadResult.id c.in-BadResult.method
    (remark_of c.in_ok-bad_result-in-BadResult.field-0) c.in-BadResult.is c.in_ok-bad_result-in-BadResult.ensures

pub returns-in-Refusal-clause-taken : goal.returns-in-Refusal-clause-taken
returns-in-Refusal-clause-taken c =
    takes_failure c.args.self.now.end c.take_message.new.self c.args.self.now.lines.items c.forget.new.lines.items (all_kept_in c.args.self.now.refused.items) c.args.text.now (ghosts.shape.tree_of c.args.message)
    (meaning_of c.in_ok-take_message.field-0.received) _ c.in_ok-take_message.ensures.means c.in_ok-take_message.ensures.settles
    (c.forget.ensures ∙ ap (λ o. lines_left o c.args.self.now.lines.items) c.in_brief-settled.ensures.settled) c.requires.read
    c.in_brief-settled.result.1 (c.in_brief-settled.ensures.outcome (waiting_in c.args.self.now.end) c.in_ok-take_message.ensures.method) c.in-Refusal.id c.in-Refusal.method c.in-Refusal.code c.in-Refusal.is

pub returns-in-Stray-clause-taken : goal.returns-in-Stray-clause-taken
returns-in-Stray-clause-taken c =
    takes_stray c.args.self.now.end c.take_message.new.self c.args.self.now.lines.items c.forget.new.lines.items (all_kept_in c.args.self.now.refused.items) c.args.text.now (ghosts.shape.tree_of c.args.message)
    (meaning_of c.in_ok-take_message.field-0.received) _ c.in_ok-take_message.ensures.means c.in_ok-take_message.ensures.settles
    (c.forget.ensures ∙ ap (λ o. lines_left o c.args.self.now.lines.items) c.in_brief-settled.ensures.settled) c.requires.read
    c.in_brief-settled.result.1 (c.in_brief-settled.ensures.outcome (waiting_in c.args.self.now.end) c.in_ok-take_message.ensures.method) (option_map remark_of) (standing_of c.stray.new.self)
    (option_map (λ n. n.value) c.sender-id.result.0) c.sender-id.result.1.now c.stray.result c.in-Stray.is c.sender-id.ensures c.stray.ensures.told

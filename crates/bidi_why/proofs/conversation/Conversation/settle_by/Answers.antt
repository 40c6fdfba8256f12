use Rattle.std.proofs.Common.{true, false, ap, is_some}
use Rattle.bidi_params.specs.declared.error_code.ErrorCode.TheVariants.{UnknownError}
use Rattle.bidi_why.specs.Explainers.{all_kept_in}
use Rattle.bidi_why.proofs.SettlingLemmas.{settled_by_error}
use Rattle.bidi_why.proofs.conversation.Conversation.settle_by.Goals as goal

pub returns-in-Some-clause-waits : goal.returns-in-Some-clause-waits
returns-in-Some-clause-waits c =
    (settled_by_error c.args.self.now.end c.take_message.new.self c.args.self.now.lines.items c.forget.new.lines.items (all_kept_in c.args.self.now.refused.items)
    c.args.id _ UnknownError _ _ c.in_brief-settled.result.0 true c.requires.1 c.in_ok-take_message.ensures.means c.in_ok-take_message.ensures.settles
    c.in_brief-settled.ensures.settled c.forget.ensures (ap is_some c.in-Some.is)).waited

pub returns-in-Some-clause-behind : goal.returns-in-Some-clause-behind
returns-in-Some-clause-behind c =
    (settled_by_error c.args.self.now.end c.take_message.new.self c.args.self.now.lines.items c.forget.new.lines.items (all_kept_in c.args.self.now.refused.items)
    c.args.id _ UnknownError _ _ c.in_brief-settled.result.0 true c.requires.1 c.in_ok-take_message.ensures.means c.in_ok-take_message.ensures.settles
    c.in_brief-settled.ensures.settled c.forget.ensures (ap is_some c.in-Some.is)).behind

pub returns-in-None-clause-waits : goal.returns-in-None-clause-waits
returns-in-None-clause-waits c =
    (settled_by_error c.args.self.now.end c.take_message.new.self c.args.self.now.lines.items c.forget.new.lines.items (all_kept_in c.args.self.now.refused.items)
    c.args.id _ UnknownError _ _ c.in_brief-settled.result.0 false c.requires.1 c.in_ok-take_message.ensures.means c.in_ok-take_message.ensures.settles
    c.in_brief-settled.ensures.settled c.forget.ensures (ap is_some c.in-None.is)).waited

pub returns-in-None-clause-behind : goal.returns-in-None-clause-behind
returns-in-None-clause-behind c =
    (settled_by_error c.args.self.now.end c.take_message.new.self c.args.self.now.lines.items c.forget.new.lines.items (all_kept_in c.args.self.now.refused.items)
    c.args.id _ UnknownError _ _ c.in_brief-settled.result.0 false c.requires.1 c.in_ok-take_message.ensures.means c.in_ok-take_message.ensures.settles
    c.in_brief-settled.ensures.settled c.forget.ensures (ap is_some c.in-None.is)).behind

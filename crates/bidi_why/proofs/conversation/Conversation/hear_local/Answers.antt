use Rattle.std.proofs.Common.{◌∙◌, ap, option_map, string_bytes}
use Rattle.bidi_why.specs.Conversing.{with_refused}
use Rattle.bidi_why.specs.Explainers.{standing_of}
use Rattle.bidi_remarks.specs.Remark.{remark_of}
use Rattle.bidi_remarks.specs.Trouble.{trouble_of}
use Rattle.bidi_why.proofs.HearingLemmas.{heard_refused, judged_noted, judged_refused}
use Rattle.bidi_why.proofs.conversation.Conversation.hear_local.Goals as goal

pub trouble_in-requires : goal.trouble_in-requires
trouble_in-requires c = judged_refused c.args.text.now c.in_ok-id.field-0 c.in-Refused.id c.in-Refused.code c.in_ok-id.ensures c.in-Refused.is

pub returns-in-Accepted-clause-heard : goal.returns-in-Accepted-clause-heard
returns-in-Accepted-clause-heard c =
    judged_noted c.args.number (standing_of c.args.self.now) (standing_of c.note.new.self) c.args.text.now c.in_ok-id.field-0 c.in-Accepted.id c.in-Accepted.method
    (option_map remark_of) c.note.result c.in_ok-id.ensures c.in-Accepted.is c.note.ensures.noted

pub returns-in_ok-refuse-in-Refused-clause-heard : goal.returns-in_ok-refuse-in-Refused-clause-heard
returns-in_ok-refuse-in-Refused-clause-heard c =
    heard_refused c.args.number (standing_of c.args.self.now) (standing_of c.refuse.new.self) c.args.text.now c.in_ok-id.field-0 c.in-Refused.id c.in-Refused.code
    (string_bytes c.in_ok-brief-in-Refused.brief) (trouble_of c.in_ok-why-in-Refused.why) c.in_ok-id.ensures c.in-Refused.is
    c.in_ok-brief-in-Refused.ensures c.in_ok-why-in-Refused.ensures
    (c.in_ok-refuse-in-Refused.ensures.refused ∙ ap (λ k. with_refused k (standing_of c.args.self.now)) c.in_ok-kept_of-in-Refused.ensures)

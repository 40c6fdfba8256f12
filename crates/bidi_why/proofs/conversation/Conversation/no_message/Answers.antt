use Rattle.std.proofs.Common.{option_map}
use Rattle.bidi_why.specs.Explainers.{standing_of}
use Rattle.bidi_remarks.specs.Remark.{remark_of}
use Rattle.bidi_remarks.specs.Trouble.{trouble_of}
use Rattle.bidi_why.proofs.HearingLemmas.{heard_none}
use Rattle.bidi_why.proofs.conversation.Conversation.no_message.Goals as goal

pub returns-clause-heard : goal.returns-clause-heard
returns-clause-heard c n =
    heard_none n (standing_of c.args.self.now) (standing_of c.answer.new.self) c.args.line.now c.args.brief.now (trouble_of c.in_ok-why.why)
    (option_map (λ i. i.value) c.in_ok-id.id) c.in_ok-answers.answers (remark_of c.in_ok-no_message.field-0) c.requires c.in_ok-why.ensures c.in_ok-id.ensures
    c.in_ok-answers.ensures.told c.in_ok-answers.ensures.behind c.in_ok-no_message.ensures

use Rattle.bidi_why.specs.Explainers.{standing_of}
use Rattle.bidi_remarks.specs.Remark.{remark_of}
use Rattle.bidi_why.proofs.HearingLemmas.{heard_long}
use Rattle.bidi_why.proofs.conversation.Conversation.hear_line.Goals as goal

pub returns-in_ok-bad_line-in-TooLong-clause-heard : goal.returns-in_ok-bad_line-in-TooLong-clause-heard
returns-in_ok-bad_line-in-TooLong-clause-heard c is at =
    heard_long c.args.number (standing_of c.args.self.now) c.args.line is (remark_of c.in_ok-bad_line-in-TooLong.field-0) c.in-TooLong.is at
    c.in_ok-bad_line-in-TooLong.ensures

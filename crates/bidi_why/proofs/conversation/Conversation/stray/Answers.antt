use Rattle.bidi_why.proofs.HearingLemmas.{stray_answered, stray_told}
use Rattle.std.proofs.Common.{option_map}
use Rattle.bidi_remarks.specs.Remark.{remark_of}
use Rattle.bidi_why.specs.Explainers.{standing_of}
use Rattle.bidi_why.proofs.conversation.Conversation.stray.Goals as goal

pub returns-then-answers_refused-clause-told : goal.returns-then-answers_refused-clause-told
returns-then-answers_refused-clause-told c =
    stray_answered (standing_of c.args.self.now) (standing_of c.answers_refused.new.self) (option_map (λ n. n.value) c.args.id) c.args.kind.now
    c.answers_refused.result c.answers_refused.ensures.was c.answers_refused.ensures.no_more c.if-answers_refused.true

pub returns-clause-told : goal.returns-clause-told
returns-clause-told c =
    stray_told (standing_of c.args.self.now) (standing_of c.answers_refused.new.self) (option_map (λ n. n.value) c.args.id) c.args.kind.now
    c.answers_refused.result c.answers_refused.ensures.was c.answers_refused.ensures.no_more (remark_of c.in_ok-stray.field-0) c.if-answers_refused.false
    c.in_ok-stray.ensures

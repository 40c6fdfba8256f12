use Rattle.std.proofs.Common.{ℕ}
use Rattle.bidi_why.proofs.HearingLemmas.{notes_sent, notes_too_many, notes_twice}
use Rattle.bidi_remarks.specs.Remark.{remark_of}
use Rattle.bidi_why.specs.Explainers.{all_kept_in, standing_of}
use Rattle.bidi_why.proofs.conversation.Conversation.note.Goals as goal

pub returns-in_ok-push-in-Ok-clause-noted : goal.returns-in_ok-push-in-Ok-clause-noted
returns-in_ok-push-in-Ok-clause-noted c =
    notes_sent c.args.number c.args.self.now.end c.note.new.self c.args.self.now.lines.items (all_kept_in c.args.self.now.refused.items) c.args.id.value c.args.method _ c.push.new.self.items c.in-Ok.ensures.refusal c.in-Ok.ensures.waits
    c.in_ok-push-in-Ok.ensures.items

pub returns-in_ok-id_waits-in-Err-IdWaits-clause-noted : goal.returns-in_ok-id_waits-in-Err-IdWaits-clause-noted
returns-in_ok-id_waits-in-Err-IdWaits-clause-noted c =
    notes_twice c.args.number c.args.self.now.end c.note.new.self c.args.self.now.lines.items (all_kept_in c.args.self.now.refused.items) c.args.id.value c.args.method _ ℕ c.in-Err-IdWaits.field-0
    (remark_of c.in_ok-id_waits-in-Err-IdWaits.field-0) c.in-Err-IdWaits.field-0-is c.in-Err-IdWaits.ensures.refusal c.in-Err-IdWaits.ensures.err
    c.in_ok-id_waits-in-Err-IdWaits.ensures

pub returns-in_ok-too_many-in-Err-TooManyPending-clause-noted : goal.returns-in_ok-too_many-in-Err-TooManyPending-clause-noted
returns-in_ok-too_many-in-Err-TooManyPending-clause-noted c =
    notes_too_many c.args.number c.args.self.now.end c.note.new.self c.args.self.now.lines.items (all_kept_in c.args.self.now.refused.items) c.args.id.value c.args.method _ ℕ c.in-Err-TooManyPending.field-0
    (remark_of c.in_ok-too_many-in-Err-TooManyPending.field-0) (standing_of c.refuse.new.self) c.in-Err-TooManyPending.field-0-is
    c.in-Err-TooManyPending.ensures.refusal c.in-Err-TooManyPending.ensures.err c.in_ok-too_many-in-Err-TooManyPending.ensures
    c.in_ok-refuse-in-Err-TooManyPending.ensures.refused

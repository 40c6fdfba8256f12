use Rattle.std.proofs.Common.{◌∙◌, Some, map, sym, ap}
use Rattle.bidi_rows.specs.Rows.{Row}
use Rattle.bidi_rows.specs.View.{action_of, answer_of}
use Rattle.bidi_remote.specs.Machine.Outcome.{deeds}
use Rattle.bidi_scripted.specs.Becomes.{sent_by}
use Rattle.bidi_scripted.specs.Sending.{answer_sent}
use Rattle.bidi_names.specs.Subscriptions.{named_of}
use Rattle.bidi_scripted.proofs.UseLemmas.{row-there}
use Rattle.bidi_scripted.proofs.scripted_end.ScriptedEnd.answered.Goals as goal

pub returns-in_ok-sent-in-Answer-clause-sends : goal.returns-in_ok-sent-in-Answer-clause-sends
returns-in_ok-sent-in-Answer-clause-sends c = λ h command r s at is.
    let past = deeds h in
    let n = c.args.conn.value in
    let id = c.args.found.id.value in
    let named = map named_of c.args.self.now.script.named.items in
    let there = row-there command c.args.self.now.script.rows.all.items c.args.found.place c.index.result.now r at c.index.ensures is in
    ap Some (c.in_ok-sent-in-Answer.ensures.sends h s
    ∙ ap (λ ns. answer_sent past (map named_of ns) n id (answer_of c.in-Answer.answer)) c.deref.ensures.value)
    ∙ sym (ap (λ (x : Row). sent_by past named n id x.action) there ∙ ap (λ a. sent_by past named n id (action_of a)) c.in-Answer.is)

pub returns-in-Hold-clause-sends : goal.returns-in-Hold-clause-sends
returns-in-Hold-clause-sends c = λ h command r s at is.
    let past = deeds h in
    let n = c.args.conn.value in
    let id = c.args.found.id.value in
    let named = map named_of c.args.self.now.script.named.items in
    let there = row-there command c.args.self.now.script.rows.all.items c.args.found.place c.index.result.now r at c.index.ensures is in
    sym (ap (λ (x : Row). sent_by past named n id x.action) there ∙ ap (λ a. sent_by past named n id (action_of a)) c.in-Hold.is)

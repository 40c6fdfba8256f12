use Rattle.std.proofs.Common.{◌∙◌, ◌++◌, map, sym, ap, ap₂, subst}
use Rattle.std.specs.Prelude.{string_bytes}
use Rattle.bidi_messages.specs.contracts.message.MessageShape.TheImpl.{ghosts}
use Rattle.bidi_methods.specs.declared.event_data.EventName.TheVariants.{EntryAdded}
use Rattle.bidi_messages.specs.Reading.{IsMessageText}
use Rattle.bidi_remote.specs.Machine.Sent.{occurrence_text}
use Rattle.bidi_remote.specs.State.ConnectionRows.{rows}
use Rattle.bidi_sessions.specs.ConnectionRows.{rows_in}
use Rattle.bidi_remote.specs.Machine.Messages.{AllReadBack}
use Rattle.bidi_active.specs.SessionView.{session_row_of}
use Rattle.bidi_remote.specs.State.SessionRows.{session_rows}
use Rattle.bidi_sessions.specs.View.{sent_of}
use Rattle.bidi_remote.proofs.TellLemmas.{heard, heard-read, more-read, to_all-past}
use Rattle.bidi_remote.proofs.telling.tell_entry.Goals as goal

pub returns-clause-told : goal.returns-clause-told
returns-clause-told c = λ past o a event is.
    let t = c.args.state.now in
    let entry = c.args.entry.now in
    let cs = rows_in t.connections in
    let all = map session_row_of c.all.result.now in
    c.in_ok-push_heard.ensures
    ∙ (ap (λ xs. map sent_of xs ++ heard cs (string_bytes entry.text.value) EntryAdded entry.top all) c.new-sent.ensures.items
    ∙ (ap (λ ss. heard cs (string_bytes entry.text.value) EntryAdded entry.top ss) (c.all.ensures ∙ a.sessions)
    ∙ (ap₂ (λ w rs. heard rs w.text EntryAdded w.top (session_rows past)) is a.connections
    ∙ (ap (λ e. heard (rows past) (occurrence_text o) e o.top (session_rows past)) (sym event) ∙ to_all-past past o))))

pub returns-clause-reads_back : goal.returns-clause-reads_back
returns-clause-reads_back c = λ text.
    more-read _ _ c.in_ok-push_heard.ensures
    (heard-read (rows_in c.args.state.now.connections) (string_bytes c.args.entry.now.text.value) text
    EntryAdded c.args.entry.now.top (map session_row_of c.all.result.now))
    (subst AllReadBack (sym (ap (map sent_of) c.new-sent.ensures.items)) tt)

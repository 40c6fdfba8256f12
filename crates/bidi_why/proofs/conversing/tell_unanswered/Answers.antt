use Rattle.std.proofs.Common.{◌≡◌, ◌∙◌, ◌++◌, List, arith, subst}
use Rattle.std.specs.Prelude.{OnOk}
use Rattle.std.specs.Io.KnownBytes.{Appends}
use Rattle.bidi_why.specs.Conversing.{unanswered_commands, unanswered_lines}
use Rattle.bidi_why.specs.Explainers.{standing_of}
use Rattle.bidi_why.specs.Summary.{Entry, IsSum}
use Rattle.bidi_why.proofs.ConversationLemmas.{ok_anyhow}
use Rattle.bidi_why.proofs.KeptLemmas.{entries_as, lines_as}
use Rattle.bidi_why.proofs.TellingLemmas.{stops_write}
use Rattle.bidi_why.proofs.conversing.tell_unanswered.Goals as goal

pub returns-clause-sum : goal.returns-clause-sum
returns-clause-sum g c =
    ok_anyhow c.write.result (λ n told few p.
    let long = c.number_of.ensures.few in
    let all = c.in_ok-count_unanswered.ensures.sum n told (omega (arith, long, few)) p in
    subst (λ (es : List Entry). IsSum c.count_unanswered.new.self n (told ++ es))
    (entries_as c.number_of.result c.deref.result.now c.in_ok-commands.commands.items (unanswered_commands (standing_of c.args.conversation.now))
    c.deref.ensures.value c.in_ok-commands.ensures c.number_of.ensures.is) all)

pub returns-clause-ok : goal.returns-clause-ok
returns-clause-ok g c =
    subst (λ t. OnOk c.write.result (Appends (g.W.Sink.contents c.args.sink.now) (g.W.Sink.contents c.write.new.sink) t))
    (c.deref-3.ensures.value ∙ c.in_ok-text.ensures
    ∙ lines_as c.args.conversation.now.form c.deref-2.result.now c.in_ok-commands.commands.items (unanswered_commands (standing_of c.args.conversation.now))
    c.deref-2.ensures.value c.in_ok-commands.ensures) c.write.ensures.ok

pub returns-clause-err : goal.returns-clause-err
returns-clause-err g c =
    stops_write c.write.result (g.W.Sink.contents c.args.sink.now) (g.W.Sink.contents c.write.new.sink) c.deref-3.result.now
    (λ t. t ≡ unanswered_lines c.args.conversation.now.form (unanswered_commands (standing_of c.args.conversation.now))) c.write.ensures.err c.write.ensures.fault
    (c.deref-3.ensures.value ∙ c.in_ok-text.ensures
    ∙ lines_as c.args.conversation.now.form c.deref-2.result.now c.in_ok-commands.commands.items (unanswered_commands (standing_of c.args.conversation.now))
    c.deref-2.ensures.value c.in_ok-commands.ensures)

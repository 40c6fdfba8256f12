use Rattle.std.proofs.Common.{◌≡◌, ◌++◌, ℕ, List, inl, refl, sym, true}
use Rattle.std.specs.Prelude.{is_some}
use Rattle.std.proofs.KnownBytes.{Appends-trans}
use Rattle.bidi_lines.proofs.ResultLemmas.{by_fault}
use Rattle.bidi_lines.proofs.StopLemmas.{stops_as}
use Rattle.bidi_why.specs.Summary.{Entry, SumsUp}
use Rattle.bidi_why.proofs.ConversationLemmas.{counts_both, no_form, stops_behind, tells_both, transcript_so}
use Rattle.bidi_why.proofs.TellingLemmas.{reports_as}
use Rattle.bidi_why.proofs.conversing.explain_both.Goals as goal

pub returns-in_err-tell_lines-clause-err : goal.returns-in_err-tell_lines-clause-err
returns-in_err-tell_lines-clause-err g c =
    let fault = c.in_err-tell_lines.field-0.0 in
    let made = c.in_ok-conversation.ensures in
    let (read, wrote, consumes, appends, stops) = c.in_err-tell_lines.ensures.err in
    let told = transcript_so c.args.form c.args.profile_only c.in_ok-conversation.conversation made.form made.only in
    by_fault c.from_residual-in_err-tell_lines.result fault _ c.from_residual-in_err-tell_lines.ensures
    (read, wrote, consumes, appends, inl (stops_as _ _ (reports_as told) fault _ read wrote stops))

pub returns-in_err-tell_unanswered-clause-err : goal.returns-in_err-tell_unanswered-clause-err
returns-in_err-tell_unanswered-clause-err g c =
    let fault = c.in_err-tell_unanswered.field-0.0 in
    let made = c.in_ok-conversation.ensures in
    let (read, wrote, consumes, appends, whole) = c.in_ok-tell_lines.ensures.ok in
    let (more, part, stops) =
    stops_behind c.args.form c.args.profile_only c.in_ok-conversation.conversation c.tell_lines.new.explainer made.form made.only
    c.tell_lines.new.sum fault _ _ (g.R.Source.has_ended c.tell_lines.new.source) read wrote whole c.in_ok-tell_lines.ensures.end c.in_err-tell_unanswered.ensures.err in
    by_fault c.from_residual-in_err-tell_unanswered.result fault _ c.from_residual-in_err-tell_unanswered.ensures (
      read,
      wrote ++ more,
      consumes,
      Appends-trans _ _ _ _ _ appends part,
      stops,
    )

pub returns-then-is_none-clause-ok : goal.returns-then-is_none-clause-ok
returns-then-is_none-clause-ok g c =
    let made = c.in_ok-conversation.ensures in
    let (read, wrote, consumes, appends, whole) = c.in_ok-tell_lines.ensures.ok in
    let (text, rest, tells) =
    tells_both c.args.form c.args.profile_only c.in_ok-conversation.conversation c.tell_lines.new.explainer made.form made.only
    c.tell_lines.new.sum c.tell_unanswered.new.sum _ _ c.tell_unanswered.new.sum.has_fault read wrote whole c.in_ok-tell_unanswered.ensures.ok
    c.in_ok-tell_unanswered.ensures.sum refl in
    (read, wrote ++ text, consumes, Appends-trans _ _ _ _ _ appends rest, tells)

pub returns-then-is_none-clause-summary : goal.returns-then-is_none-clause-summary
returns-then-is_none-clause-summary g c =
    let made = c.in_ok-conversation.ensures in
    let (read, wrote, consumes, appends, whole) = c.in_ok-tell_lines.ensures.ok in
    let held = g.F.Sink.contents c.args.faults.now in
    let failed = g.F.Sink.failures c.args.faults.now in
    let (text, rest, tells) =
    counts_both c.args.form c.args.profile_only c.in_ok-conversation.conversation c.tell_lines.new.explainer made.form made.only
    c.tell_lines.new.sum c.tell_unanswered.new.sum _ _ read wrote
    (λ (n : ℕ) (told : List Entry). is_some c.args.form ≡ true → c.tell_unanswered.new.sum.has_fault ≡ true → SumsUp held held failed failed n told)
    whole c.in_ok-tell_unanswered.ensures.ok
    c.in_ok-tell_unanswered.ensures.sum (λ n told s is_form some. absurd (no_form (is_some c.args.form) (sym c.if-is_none.ensures) is_form)) in
    (read, wrote ++ text, consumes, Appends-trans _ _ _ _ _ appends rest, tells)

pub returns-clause-ok : goal.returns-clause-ok
returns-clause-ok g c =
    let made = c.in_ok-conversation.ensures in
    let (read, wrote, consumes, appends, whole) = c.in_ok-tell_lines.ensures.ok in
    let (text, rest, tells) =
    tells_both c.args.form c.args.profile_only c.in_ok-conversation.conversation c.tell_lines.new.explainer made.form made.only
    c.tell_lines.new.sum c.tell_unanswered.new.sum _ _ c.tell.result read wrote whole c.in_ok-tell_unanswered.ensures.ok
    c.in_ok-tell_unanswered.ensures.sum c.tell.ensures.some in
    (read, wrote ++ text, consumes, Appends-trans _ _ _ _ _ appends rest, tells)

pub returns-clause-summary : goal.returns-clause-summary
returns-clause-summary g c =
    let made = c.in_ok-conversation.ensures in
    let (read, wrote, consumes, appends, whole) = c.in_ok-tell_lines.ensures.ok in
    let held = g.F.Sink.contents c.args.faults.now in
    let held' = g.F.Sink.contents c.tell.new.faults in
    let failed = g.F.Sink.failures c.args.faults.now in
    let failed' = g.F.Sink.failures c.tell.new.faults in
    let (text, rest, tells) =
    counts_both c.args.form c.args.profile_only c.in_ok-conversation.conversation c.tell_lines.new.explainer made.form made.only
    c.tell_lines.new.sum c.tell_unanswered.new.sum _ _ read wrote
    (λ (n : ℕ) (told : List Entry). is_some c.args.form ≡ true → c.tell.result ≡ true → SumsUp held held' failed failed' n told)
    whole c.in_ok-tell_unanswered.ensures.ok
    c.in_ok-tell_unanswered.ensures.sum (λ n told s is_form some. c.tell.ensures.told some n told s) in
    (read, wrote ++ text, consumes, Appends-trans _ _ _ _ _ appends rest, tells)

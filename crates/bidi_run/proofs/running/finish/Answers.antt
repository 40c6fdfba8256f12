use Rattle.std.proofs.Common.{◌≡◌, false, true, arith, refl, subst, sym}
use Rattle.std.specs.Prelude.{is_some}
use Rattle.bidi_lines.specs.Stops.{StopsAt}
use Rattle.bidi_run.specs.declared.faults.RunFault.TheVariants as fault
use Rattle.bidi_why.specs.Conversing.{CountsConversation, TellsConversation}
use Rattle.bidi_why.specs.Summary.{SumsUp}
use Rattle.bidi_why.specs.Telling.{TellsCounted, TellsLines, report_run}
use Rattle.bidi_run.specs.Runs.{Completes, Counts, Stops, both_form, form_of, sums_up}
use Rattle.bidi_run.proofs.SummaryLemmas.{has_form, of_both, of_side}
use Rattle.bidi_run.proofs.running.finish.Goals as goal

pub returns-then-found-3-clause-ok : goal.returns-then-found-3-clause-ok
returns-then-found-3-clause-ok g c =
    let (read, wrote, consumes, appends, told) = c.in-Ok-explain_both.ensures.ok in
    let of_form = subst (λ f. TellsConversation f c.in-Both.options.profile_only c.in-Ok-explain_both.found read wrote) c.both_form.ensures told in
    let found = subst (λ b. TellsConversation (both_form c.in-Both.options) c.in-Both.options.profile_only b read wrote) c.if-found-3.true of_form in (
      omega arith,
      c.in-Ok-explain_both.ensures.end,
      (read, wrote, consumes, appends, subst (λ r. Completes r 1 read wrote) (sym c.in-Both.is) (true, refl, found)),
    )

pub returns-else-found-3-clause-ok : goal.returns-else-found-3-clause-ok
returns-else-found-3-clause-ok g c =
    let (read, wrote, consumes, appends, told) = c.in-Ok-explain_both.ensures.ok in
    let of_form = subst (λ f. TellsConversation f c.in-Both.options.profile_only c.in-Ok-explain_both.found read wrote) c.both_form.ensures told in
    let found = subst (λ b. TellsConversation (both_form c.in-Both.options) c.in-Both.options.profile_only b read wrote) c.if-found-3.false of_form in (
      omega arith,
      c.in-Ok-explain_both.ensures.end,
      (read, wrote, consumes, appends, subst (λ r. Completes r 0 read wrote) (sym c.in-Both.is) (false, refl, found)),
    )

pub returns-in-Err-explain-clause-err : goal.returns-in-Err-explain-clause-err
returns-in-Err-explain-clause-err g c =
    let o = c.in-Why.options in
    let at_end = g.R.Source.has_ended c.explain.new.source in
    let (read, wrote, consumes, appends, stops) = c.in-Err-explain.ensures.err in
    let of_form = subst (λ f. StopsAt (report_run (TellsLines f o.side o.profile_only)) c.in-Err-explain.fault at_end read wrote) c.form_of.ensures stops in
    (read, wrote, consumes, appends, subst (λ r. Stops r (fault.Listing c.in-Err-explain.fault) at_end read wrote) (sym c.in-Why.is) of_form)

pub returns-then-found-2-clause-summary : goal.returns-then-found-2-clause-summary
returns-then-found-2-clause-summary g c = λ _.
    let o = c.in-Why.options in
    let found = c.in-Ok-explain.found in
    let new = c.explain.new.faults in
    let old = c.args.faults.now in
    let sums = SumsUp (g.F.Sink.contents old) (g.F.Sink.contents new) (g.F.Sink.failures old) (g.F.Sink.failures new) in
    let (read, wrote, consumes, appends, counted) = c.in-Ok-explain.ensures.summary in
    let of_form = subst (λ f. TellsCounted f o.side o.profile_only (λ n told. found ≡ true → sums n told) read wrote) c.form_of.ensures counted in
    let all = of_side (form_of o.is_json) o.side o.profile_only found sums read wrote c.if-found-2.true of_form in
    (read, wrote, consumes, appends, subst (λ r. Counts r sums read wrote) (sym c.in-Why.is) all)

pub returns-then-found-3-clause-summary : goal.returns-then-found-3-clause-summary
returns-then-found-3-clause-summary g c = λ yes.
    let o = c.in-Both.options in
    let found = c.in-Ok-explain_both.found in
    let new = c.explain_both.new.faults in
    let old = c.args.faults.now in
    let sums = SumsUp (g.F.Sink.contents old) (g.F.Sink.contents new) (g.F.Sink.failures old) (g.F.Sink.failures new) in
    let (read, wrote, consumes, appends, counted) = c.in-Ok-explain_both.ensures.summary in
    let of_form = subst (λ f. CountsConversation f o.profile_only (λ n told. is_some f ≡ true → found ≡ true → sums n told) read wrote) c.both_form.ensures counted in
    let says = has_form o.is_why (form_of o.is_json) (subst (λ r. sums_up r 1 ≡ true) c.in-Both.is yes) in
    let all = of_both (both_form o) o.profile_only found sums read wrote says c.if-found-3.true of_form in
    (read, wrote, consumes, appends, subst (λ r. Counts r sums read wrote) (sym c.in-Both.is) all)

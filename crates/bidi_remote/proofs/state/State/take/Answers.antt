use Rattle.std.proofs.Common.{refl, sym, subst, ap, ◌∙◌, map, Ok}
use Rattle.bidi_sessions.specs.declared.step.Step.{Step}
use Rattle.bidi_sessions.specs.Step.{Text}
use Rattle.bidi_remote.specs.Machine.History.{At, Open, Drop, NotText, Time, IsHeardAs}
use Rattle.bidi_remote.specs.Machine.Outcome.{deeds}
use Rattle.bidi_sessions.specs.View.{page_of, step_of, sent_of}
use Rattle.bidi_remote.proofs.ChangeLemmas.{agree-time}
use Rattle.bidi_remote.proofs.TakeLemmas.{takes, nothing, step_heard, page_heard, text_heard}
use Rattle.bidi_remote.proofs.state.State.take.Goals as goal

pub returns-in-At-clause-ok : goal.returns-in-At-clause-ok
returns-in-At-clause-ok c =
    let n = c.in-At.moment in (
      At n.value,
      subst (λ (s : Step). IsHeardAs (step_of s) (At n.value)) (sym c.in-At.is) refl,
      λ h short a. takes (record c.args.self.now { moment = n }) h (At n.value) (Ok (Time n.value)) (map sent_of c.new.result.items) refl
          (ap (map sent_of) c.new.ensures.items) (nothing c.new.result.items c.new.ensures.items)
          (agree-time c.args.self.now (deeds h) n a),
    )

pub returns-in-Open-clause-ok : goal.returns-in-Open-clause-ok
returns-in-Open-clause-ok c =
    let i = Open c.in-Open.conn.value c.as_str.result.now in
    step_heard c.open.result (step_of c.args.step) c.args.self.now c.open.new.self i
    (subst (λ (s : Step). IsHeardAs (step_of s) i) (sym c.in-Open.is) (ap (Open c.in-Open.conn.value) c.as_str.ensures.value)) c.open.ensures.ok

pub returns-in-Drop-clause-ok : goal.returns-in-Drop-clause-ok
returns-in-Drop-clause-ok c =
    let i = Drop c.in-Drop.conn.value in
    step_heard c.drop_connection.result (step_of c.args.step) c.args.self.now c.drop_connection.new.self i
    (subst (λ (s : Step). IsHeardAs (step_of s) i) (sym c.in-Drop.is) refl) c.drop_connection.ensures.ok

pub returns-in-Text-clause-ok : goal.returns-in-Text-clause-ok
returns-in-Text-clause-ok c =
    text_heard c.hear.result (step_of c.args.step) c.in-Text.conn.value c.as_str-in-Text.result.now c.args.self.now c.hear.new.self
    (ap step_of c.in-Text.is ∙ ap (Text c.in-Text.conn.value) (sym c.as_str-in-Text.ensures.value)) c.hear.ensures.ok

pub returns-in-NotText-clause-ok : goal.returns-in-NotText-clause-ok
returns-in-NotText-clause-ok c =
    let i = NotText c.in-NotText.conn.value in
    step_heard c.hear_no_text.result (step_of c.args.step) c.args.self.now c.args.self.now i
    (subst (λ (s : Step). IsHeardAs (step_of s) i) (sym c.in-NotText.is) refl) c.hear_no_text.ensures

pub returns-in-Page-clause-ok : goal.returns-in-Page-clause-ok
returns-in-Page-clause-ok c =
    page_heard c.take_page.result (step_of c.args.step) (page_of c.in-Page.page) c.args.self.now c.take_page.new.self
    (ap step_of c.in-Page.is) c.take_page.ensures.ok

use Rattle.std.proofs.Common.{refl, sym, subst}
use Rattle.std.specs.Prelude.{string_bytes}
use Rattle.bidi_sessions.specs.Step as steps
use Rattle.bidi_sessions.specs.View.{page_of}
use Rattle.bidi_ledger.specs.declared.pair_step.PairStep.TheVariants as in_hand
use Rattle.bidi_ledger.specs.Ledger.{Opens, Sends, Up, Down, Cuts}
use Rattle.bidi_ledger.specs.Steps.{IsHeardAs, sending_of}
use Rattle.bidi_ledger.specs.declared.pair_step.PairStep.{PairStep}
use Rattle.bidi_link.proofs.StepLemmas.{Does, step-done, of-step, beside-done, at-quiet, page-quiet}
use Rattle.bidi_link.proofs.ends.Ends.take.Goals as goal

pub returns-in-Open-clause-ok : goal.returns-in-Open-clause-ok
returns-in-Open-clause-ok c =
    let x = in_hand.Open c.in-Open.link c.in-Open.resource in
    let q = Opens c.in-Open.link.value (string_bytes c.in-Open.resource) in
    of-step c.open.result c.args.step x (Does c.args.self.now c.open.new.self) c.in-Open.is
    (step-done c.open.result c.args.self.now c.open.new.self x q refl (λ p stands sane count. c.open.ensures.ok p stands sane))

pub returns-in-Up-clause-ok : goal.returns-in-Up-clause-ok
returns-in-Up-clause-ok c =
    let x = in_hand.Up c.in-Up.link in
    let q = Up c.in-Up.link.value in
    of-step c.carry_up.result c.args.step x (Does c.args.self.now c.carry_up.new.self) c.in-Up.is
    (step-done c.carry_up.result c.args.self.now c.carry_up.new.self x q refl (λ p stands sane count. c.carry_up.ensures.ok p stands sane))

pub returns-in-Cut-clause-ok : goal.returns-in-Cut-clause-ok
returns-in-Cut-clause-ok c =
    let x = in_hand.Cut c.in-Cut.link in
    let q = Cuts c.in-Cut.link.value in
    of-step c.cut.result c.args.step x (Does c.args.self.now c.cut.new.self) c.in-Cut.is
    (step-done c.cut.result c.args.self.now c.cut.new.self x q refl (λ p stands sane count. c.cut.ensures.ok p stands sane))

pub returns-in-At-clause-ok : goal.returns-in-At-clause-ok
returns-in-At-clause-ok c =
    of-step c.hand.result c.args.step (in_hand.At c.in-At.moment) (Does c.args.self.now c.hand.new.self) c.in-At.is
    (beside-done c.hand.result c.args.self.now c.hand.new.self (steps.At c.in-At.moment.value) (at-quiet c.in-At.moment.value) c.hand.ensures.ok)

pub returns-in-Page-clause-ok : goal.returns-in-Page-clause-ok
returns-in-Page-clause-ok c =
    of-step c.hand-in-Page.result c.args.step (in_hand.Page c.in-Page.page) (Does c.args.self.now c.hand-in-Page.new.self) c.in-Page.is
    (beside-done c.hand-in-Page.result c.args.self.now c.hand-in-Page.new.self (steps.Page (page_of c.in-Page.page)) (page-quiet (page_of c.in-Page.page))
    c.hand-in-Page.ensures.ok)

pub returns-in_ok-send-in-Send-clause-ok : goal.returns-in_ok-send-in-Send-clause-ok
returns-in_ok-send-in-Send-clause-ok c =
    let q = Sends c.in-Send.link.value (sending_of c.in-Send.command) in
    (q, subst (λ (x : PairStep). IsHeardAs x q) (sym c.in-Send.is) refl, λ p stands sane count. c.in_ok-send-in-Send.ensures p stands sane count)

pub returns-in_ok-carry_down-in-Down-clause-ok : goal.returns-in_ok-carry_down-in-Down-clause-ok
returns-in_ok-carry_down-in-Down-clause-ok c =
    let q = Down c.in-Down.link.value in
    (q, subst (λ (x : PairStep). IsHeardAs x q) (sym c.in-Down.is) refl, λ p stands sane count. c.in_ok-carry_down-in-Down.ensures p stands sane)

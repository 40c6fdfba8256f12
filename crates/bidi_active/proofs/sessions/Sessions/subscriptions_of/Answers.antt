use Rattle.std.proofs.Common.{◌∙◌, Some, None, option_map, sym, ap}
use Rattle.bidi_active.proofs.RowLemmas.{row-in-hand}
use Rattle.bidi_active.proofs.sessions.Sessions.subscriptions_of.Goals as goal

pub returns-in-Some : goal.returns-in-Some
returns-in-Some c =
    let row = row-in-hand c.args.number c.args.self.now.active.items c.deref.result.now (Some c.in-Some.session.now) c.deref.ensures.value
    (ap (option_map (λ s. s.now)) (sym c.in-Some.is) ∙ c.find.ensures) in
    c.all.ensures ∙ sym (ap (λ r. r.subscriptions) row)

pub returns-in-None : goal.returns-in-None
returns-in-None c =
    let row = row-in-hand c.args.number c.args.self.now.active.items c.deref.result.now None c.deref.ensures.value
    (ap (option_map (λ s. s.now)) (sym c.in-None.is) ∙ c.find.ensures) in
    sym (ap (λ r. r.subscriptions) row)

use Rattle.std.proofs.Common.{◌≡◌, ◌∙◌, List, [], ◌∷◌, length, Some, None, option_map, refl, sym, ap}
use Rattle.std.specs.Prelude.{◌==◌}
use Rattle.std.specs.List.{list_all}
use Rattle.std.proofs.Math.Dec.{eqb-suc-zero}
use Rattle.bidi_methods.specs.declared.event_data.EventName.{EventName}
use Rattle.bidi_sessions.specs.SubscriptionRows.{any_global}
use Rattle.bidi_active.proofs.RowLemmas.{row-in-hand}
use Rattle.bidi_active.proofs.sessions.Sessions.all_global.Goals as goal

-- without subscriptions just no event is in one
none-global : (es : List EventName) → (length es == 0) ≡ list_all (any_global []) es
none-global [] = refl
none-global (e ∷ es) = eqb-suc-zero (length es)

pub returns-in-Some : goal.returns-in-Some
returns-in-Some c =
    let row = row-in-hand c.args.number c.args.self.now.active.items c.deref.result.now (Some c.in-Some.session.now) c.deref.ensures.value
    (ap (option_map (λ s. s.now)) (sym c.in-Some.is) ∙ c.find.ensures) in
    c.all_global.ensures ∙ sym (ap (λ r. list_all (any_global r.subscriptions) c.args.events.now) row)

pub returns-in-None : goal.returns-in-None
returns-in-None c =
    let row = row-in-hand c.args.number c.args.self.now.active.items c.deref.result.now None c.deref.ensures.value
    (ap (option_map (λ s. s.now)) (sym c.in-None.is) ∙ c.find.ensures) in
    c.is_empty.ensures ∙ (none-global c.args.events.now ∙ sym (ap (λ r. list_all (any_global r.subscriptions) c.args.events.now) row))

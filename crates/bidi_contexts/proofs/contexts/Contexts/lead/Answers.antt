use Rattle.std.proofs.Common.{◌∙◌, sym, ap, subst}
use Rattle.std.specs.List.{position}
use Rattle.std.specs.Prelude.{◌==◌}
use Rattle.bidi_contexts.specs.declared.context.Context.{Context}
use Rattle.bidi_contexts.specs.ContextRows.{ContextRow, row_of, changed, moved_in}
use Rattle.bidi_contexts.specs.HistoryInHand.{move_of, Leads, HasRoomFor}
use Rattle.bidi_contexts.proofs.MoveLemmas.{changed-at, changed-none, at-place}
use Rattle.bidi_handles.proofs.ListLemmas.{no_value}
use Rattle.bidi_contexts.proofs.contexts.Contexts.lead.Goals as goal

pub navigate-requires-clause-room : goal.navigate-requires-clause-room
navigate-requires-clause-room c =
    let at = ap (position (λ (x : Context). x.number == c.args.number)) (sym c.deref.ensures.value) ∙ (sym c.place_of.ensures ∙ c.in-Some.is) in
    subst (λ (x : Context). HasRoomFor x.details.value.history c.args.to) (sym c.index_mut.ensures.value) (c.requires.room c.in-Some.place c.index_mut.result.now at)

pub returns-in-Some : goal.returns-in-Some
returns-in-Some c = λ past table leads.
    let items = c.args.self.now.live.items in
    let number = c.args.number in
    let f = moved_in c.args.realm (move_of c.args.to) in
    let at = ap (position (λ (x : Context). x.number == number)) (sym c.deref.ensures.value) ∙ (sym c.place_of.ensures ∙ c.in-Some.is) in
    let old = c.index_mut.result.now in
    let row = ap row_of c.index_mut.ensures.value ∙ at-place row_of past items number c.in-Some.place old table.rows at in
    let leads_here = subst (λ e. Leads e (move_of c.args.to)) (sym (ap (λ (r : ContextRow). r.entries) row)) leads in
    changed-at row_of f number items c.in-Some.place c.navigate.new.self old at
    (c.navigate.ensures leads_here ∙ ap (λ x. f (row_of x)) c.index_mut.ensures.value) ∙ ap (changed number f) table.rows

pub returns-in_default : goal.returns-in_default
returns-in_default c = λ past table leads.
    let items = c.args.self.now.live.items in
    let number = c.args.number in
    let f = moved_in c.args.realm (move_of c.args.to) in
    let at = ap (position (λ (x : Context). x.number == number)) (sym c.deref.ensures.value)
    ∙ (sym c.place_of.ensures ∙ no_value c.place_of.result c.in_default.not-Some) in
    changed-none row_of f number items at ∙ ap (changed number f) table.rows

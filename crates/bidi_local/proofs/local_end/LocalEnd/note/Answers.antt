use Rattle.std.proofs.Common.{◌≡◌, ◌∙◌, ◌≤◌, false, is_some, sym, ap, subst, arith}
use Rattle.std.specs.List.{AllByRecursion}
use Rattle.bidi_local.specs.Pending.{method_of}
use Rattle.bidi_local.proofs.PendingLemmas.{insert_entry-absent, AllByRecursion-last}
use Rattle.bidi_local.proofs.local_end.LocalEnd.note.Goals as goal

pub invariant_of-self-clause-were_sent : goal.invariant_of-self-clause-were_sent
invariant_of-self-clause-were_sent c =
    let end = c.args.self.now in
    let id = c.args.id.value in
    let none : is_some (method_of end.pending.entries id) ≡ false = ap is_some (sym c.method_of.ensures) ∙ sym c.is_some.ensures ∙ c.if-is_some.false in
    let last = c.in-Ok.ensures.entries ∙ insert_entry-absent id c.args.method end.pending.entries none in
    subst (AllByRecursion (λ w. w.0 ≤ c.max-self.result)) (sym last)
    (AllByRecursion-last end.sent c.max-self.result id c.args.method end.pending.entries (omega arith) (omega arith) end.were_sent)

pub returns-in-Ok-clause-waits : goal.returns-in-Ok-clause-waits
returns-in-Ok-clause-waits c =
    let end = c.args.self.now in
    let id = c.args.id.value in
    let none : is_some (method_of end.pending.entries id) ≡ false = ap is_some (sym c.method_of.ensures) ∙ sym c.is_some.ensures ∙ c.if-is_some.false in
    record { sent = c.max-self.ensures; waiting = c.in-Ok.ensures.entries ∙ insert_entry-absent id c.args.method end.pending.entries none }

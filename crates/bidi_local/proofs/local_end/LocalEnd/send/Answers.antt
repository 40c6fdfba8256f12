use Rattle.std.proofs.Common.{◌∙◌, ◌≤◌, ◌+◌, ◌∷◌, [], ◌++◌, suc, sym, ap, subst, arith}
use Rattle.std.specs.List.{AllByRecursion}
use Rattle.bidi_local.proofs.PendingLemmas.{insert_entry-next, AllByRecursion-last}
use Rattle.std.specs.Prelude.{length, string_bytes}
use Rattle.bidi_messages.specs.Verdict.{IsVerdict, Accepted}
use Rattle.bidi_methods.specs.contracts.command_data.CommandDataPayloadMethod.TheImpl as asks
use Rattle.bidi_local.specs.Pending.{command_tree}
use Rattle.bidi_local.proofs.SendingLemmas.{text_accepted}
use Rattle.bidi_local.proofs.local_end.LocalEnd.send.Goals as goal

pub invariant_of-self : goal.invariant_of-self
invariant_of-self c =
    let end = c.args.self.now in
    let last = c.in-Ok.ensures.entries ∙ insert_entry-next end.sent c.in_ok-method.method end.pending.entries end.were_sent in
    record {
      in_range = omega (arith, c.if-self-ge-LAST_ID.false);
      were_sent =
          subst (AllByRecursion (λ w. w.0 ≤ end.sent + 1)) (sym last)
          (AllByRecursion-last end.sent (end.sent + 1) (suc end.sent) c.in_ok-method.method end.pending.entries (omega arith) (omega arith) end.were_sent);
    }

pub returns-in-Ok-clause-waits : goal.returns-in-Ok-clause-waits
returns-in-Ok-clause-waits c =
    let end = c.args.self.now in
    let last = c.in-Ok.ensures.entries ∙ insert_entry-next end.sent c.in_ok-method.method end.pending.entries end.were_sent in
    record {
      sent = omega arith;
      waiting = last ∙ ap (λ k. end.pending.entries ++ (suc end.sent, k) ∷ []) c.in_ok-method.ensures.method;
    }

pub returns-in-Ok-clause-accepted : goal.returns-in-Ok-clause-accepted
returns-in-Ok-clause-accepted c =
    let id = suc c.args.self.now.sent in
    let fits : length (string_bytes c.in_ok-method.text) ≤ 1048576 = omega (arith, c.if-len-gt-MAX_BYTES.false, c.len-2.ensures) in
    subst (λ n. IsVerdict (string_bytes c.in_ok-method.text)
    (Accepted (command_tree n (asks.ghosts.payload.kind c.args.«data») (asks.ghosts.payload.tree_of c.args.«data»)))) (omega arith)
    (text_accepted (string_bytes c.in_ok-method.text) _ fits c.in_ok-method.ensures.reads_back c.in_ok-method.ensures.fits)

use Rattle.std.proofs.Common.{◌∙◌, sym}
use Rattle.bidi_ledger.specs.Pairing.{history}
use Rattle.bidi_link.proofs.StepLemmas.{drop-done, drop-not}
use Rattle.bidi_link.proofs.ends.Ends.drop_connection.Goals as goal

pub returns-then-is_open-clause-ok : goal.returns-then-is_open-clause-ok
returns-then-is_open-clause-ok c = λ past stands sane.
    drop-done c.hand.result c.args.self.now c.hand.new.self past c.args.number.value stands sane
    (sym (c.is_open.ensures (history past) stands.remote) ∙ c.if-is_open.true) c.hand.ensures.ok

pub returns-else-is_open-clause-ok : goal.returns-else-is_open-clause-ok
returns-else-is_open-clause-ok c =
    λ past stands sane.
    drop-not c.args.self.now past c.args.number.value stands sane (sym (c.is_open.ensures (history past) stands.remote) ∙ c.if-is_open.false)

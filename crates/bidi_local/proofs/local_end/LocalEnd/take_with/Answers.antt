use Rattle.bidi_local.specs.Received.{NotJson, NotInProfile, is_not_json, is_no_message}
use Rattle.bidi_local.specs.View.{meaning_of}
use Rattle.bidi_local.proofs.OneMeaning.{one_meaning}
use Rattle.bidi_local.proofs.local_end.LocalEnd.take_with.Goals as goal

pub returns-in-Err-NotJson-clause-means : goal.returns-in-Err-NotJson-clause-means
returns-in-Err-NotJson-clause-means c = is_not_json (rw c.in-Err-NotJson.field-0-is at c.in-Err-NotJson.ensures.err)

pub returns-in-Err-NoFit-clause-means : goal.returns-in-Err-NoFit-clause-means
returns-in-Err-NoFit-clause-means c =
    let cause = rw c.in-Err-NoFit.field-0-is at c.in-Err-NoFit.ensures.err in
    is_no_message cause.0 cause.1 cause.2

pub returns-in_ok-taken-in-Ok-clause-means : goal.returns-in_ok-taken-in-Ok-clause-means
returns-in_ok-taken-in-Ok-clause-means c = c.in_ok-taken-in-Ok.ensures.means c.args.text.now c.in-Ok.ensures.ok.0

pub returns-in_ok-taken-in-Ok-clause-no_other : goal.returns-in_ok-taken-in-Ok-clause-no_other
returns-in_ok-taken-in-Ok-clause-no_other c =
    λ m means. one_meaning c.args.self.now.pending.entries c.args.text.now m (meaning_of c.in_ok-taken-in-Ok.taken.received) means
    (returns-in_ok-taken-in-Ok-clause-means c)

pub returns-in-Err-NotJson-clause-no_other : goal.returns-in-Err-NotJson-clause-no_other
returns-in-Err-NotJson-clause-no_other c =
    λ m means. one_meaning c.args.self.now.pending.entries c.args.text.now m NotJson means (returns-in-Err-NotJson-clause-means c)

pub returns-in-Err-NoFit-clause-no_other : goal.returns-in-Err-NoFit-clause-no_other
returns-in-Err-NoFit-clause-no_other c =
    λ m means. one_meaning c.args.self.now.pending.entries c.args.text.now m NotInProfile means (returns-in-Err-NoFit-clause-means c)

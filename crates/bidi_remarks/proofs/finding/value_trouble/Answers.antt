use Rattle.std.proofs.lemmas.Result.{IfOk-weaker}
use Rattle.bidi_remarks.proofs.finding.value_trouble.Goals as goal

pub returns-in-Local : goal.returns-in-Local
returns-in-Local c = rw c.in-Local.is c.command_trouble.ensures

pub returns-in-Remote : goal.returns-in-Remote
returns-in-Remote c = rw c.in-Remote.is (IfOk-weaker c.message_trouble.result _ _ (λ found h line read small. h line read) c.message_trouble.ensures)

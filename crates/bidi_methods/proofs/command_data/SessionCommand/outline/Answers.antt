use Rattle.std.proofs.Common.{sym}
use Rattle.bidi_methods.proofs.command_data.SessionCommand.outline.Goals as goal

pub returns-in-Status : goal.returns-in-Status
returns-in-Status c = rw c.in-Status.is c.outline.ensures

pub returns-in-New : goal.returns-in-New
returns-in-New c = rw (c.in-New.is, sym c.as_ref.ensures) c.outline-in-New.ensures

pub returns-in-End : goal.returns-in-End
returns-in-End c = rw c.in-End.is c.outline-in-End.ensures

pub returns-in-Subscribe : goal.returns-in-Subscribe
returns-in-Subscribe c = rw (c.in-Subscribe.is, sym c.as_ref-in-Subscribe.ensures) c.outline-in-Subscribe.ensures

pub returns-in-Unsubscribe : goal.returns-in-Unsubscribe
returns-in-Unsubscribe c = rw c.in-Unsubscribe.is c.outline-in-Unsubscribe.ensures

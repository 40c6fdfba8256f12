use Rattle.bidi_why.proofs.HearingLemmas.{from_error, from_event, from_response}
use Rattle.bidi_why.proofs.judging.sender.Goals as goal

pub returns-in-Response : goal.returns-in-Response
returns-in-Response c = from_response c.args.message.now c.in-Response.response c.requires c.in-Response.is

pub returns-in-Error : goal.returns-in-Error
returns-in-Error c = from_error c.args.message.now c.in-Error.error c.requires c.in-Error.is

pub returns-in-Event : goal.returns-in-Event
returns-in-Event c = from_event c.args.message.now c.in-Event.field-0 _ _ c.requires c.in-Event.is

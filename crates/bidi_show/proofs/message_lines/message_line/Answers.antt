use Rattle.bidi_show.proofs.MessageLineLemmas.{response_told, error_told, event_told}
use Rattle.bidi_show.proofs.message_lines.message_line.Goals as goal

pub returns-in-Response : goal.returns-in-Response
returns-in-Response c = response_told c.response_line.result c.args.message c.requires c.in-Response.response c.in-Response.is c.response_line.ensures

pub returns-in-Error : goal.returns-in-Error
returns-in-Error c = error_told c.error_line.result c.args.message c.requires c.in-Error.error c.in-Error.is c.error_line.ensures

pub returns-in-Event : goal.returns-in-Event
returns-in-Event c = event_told c.event_line.result c.args.message c.requires c.in-Event.event c.in-Event.is c.event_line.ensures

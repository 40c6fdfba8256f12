use Rattle.std.proofs.Common.{option_map}
use Rattle.bidi_messages.specs.contracts.message.MessageShape.TheImpl.{ghosts}
use Rattle.bidi_why.specs.Explainers.{standing_of}
use Rattle.bidi_remarks.specs.Remark.{remark_of}
use Rattle.bidi_why.proofs.HearingLemmas.{heard_message, no_fit_line, no_json_line, no_text_refused}
use Rattle.bidi_why.proofs.conversation.Conversation.hear_remote.Goals as goal

pub no_message-requires : goal.no_message-requires
no_message-requires c = no_text_refused c.args.line.now c.in_default.ensures.cases.0

pub no_message-requires-in-Err-NotJson : goal.no_message-requires-in-Err-NotJson
no_message-requires-in-Err-NotJson c =
    no_json_line c.args.line.now c.in-Ok.text.now c.in-Err-NotJson.field-0 c.in-Ok.ensures.cases c.in-Err-NotJson.field-0-is c.in-Err-NotJson.ensures.err

pub no_message-requires-in-Err-NoFit : goal.no_message-requires-in-Err-NoFit
no_message-requires-in-Err-NoFit c =
    no_fit_line c.args.line.now c.in-Ok.text.now c.in-Err-NoFit.field-0 c.in-Ok.ensures.cases c.in-Err-NoFit.field-0-is c.in-Err-NoFit.ensures.err

pub returns-in-Ok-read_message_with-clause-heard : goal.returns-in-Ok-read_message_with-clause-heard
returns-in-Ok-read_message_with-clause-heard c n =
    heard_message n (standing_of c.args.self.now) (standing_of c.take.new.self) c.args.line.now c.in-Ok.text.now
    (ghosts.shape.tree_of c.in-Ok-read_message_with.message) (option_map remark_of) c.take.result c.in-Ok.ensures.cases
    c.in-Ok-read_message_with.ensures.ok.0 c.take.ensures.taken

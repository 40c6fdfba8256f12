use Rattle.bidi_messages.specs.contracts.message.MessageShape.TheImpl.{ghosts}
use Rattle.bidi_messages.specs.declared.text.MessageFault.TheVariants.{NotJson, NoFit}
use Rattle.bidi_params.specs.declared.error_code.ErrorCode.TheVariants.{UnknownError}
use Rattle.bidi_why.proofs.SettlingLemmas.{never, reads_error}
use Rattle.bidi_why.proofs.conversation.Conversation.settle_text.Goals as goal

pub settle_by-requires : goal.settle_by-requires
settle_by-requires c = (
  c.in-Ok.ensures.ok.1,
  reads_error c.args.text.now c.args.id UnknownError (ghosts.shape.tree_of c.in-Ok.message) c.requires.error c.in-Ok.ensures.ok.0,
)

pub unreachable-requires : goal.unreachable-requires
unreachable-requires c = never c.in-Err-NotJson.field-0 NotJson c.args.text.now c.in-Err-NotJson.field-0-is c.in-Err-NotJson.ensures.sent c.requires.reads

pub unreachable-requires-in-Err-NoFit : goal.unreachable-requires-in-Err-NoFit
unreachable-requires-in-Err-NoFit c = never c.in-Err-NoFit.field-0 NoFit c.args.text.now c.in-Err-NoFit.field-0-is c.in-Err-NoFit.ensures.sent c.requires.reads

use Rattle.bidi_methods.specs.contracts.result_data.ResultDataPayloadMethod.TheImpl.{ghosts}
use Rattle.bidi_messages.specs.contracts.message.MessageShape.TheImpl as message
use Rattle.bidi_messages.proofs.SendingLemmas.{is_text, no_event-response, response_fits}
use Rattle.bidi_messages.proofs.sending.response_text.Goals as goal

pub write_response-text-requires : goal.write_response-text-requires
write_response-text-requires c = ((ghosts.payload.whole c.args.result_data c.requires.well).0, c.requires.small)

pub returns-clause-reads_back : goal.returns-clause-reads_back
returns-clause-reads_back c =
    let tree = ghosts.payload.tree_of c.args.result_data in
    is_text message.ghosts.shape _
    (response_fits c.args.id (ghosts.payload.kind c.args.result_data) tree 70 (ghosts.payload.fits c.args.result_data c.requires.well)
    (ghosts.payload.whole c.args.result_data c.requires.well) c.requires.small)
    (λ e params same. absurd (no_event-response c.args.id.value tree e params same)) c.write_response-text.result
    c.write_response-text.ensures.text c.write_response-text.ensures.tree

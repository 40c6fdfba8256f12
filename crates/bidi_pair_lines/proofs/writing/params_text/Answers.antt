use Rattle.bidi_methods.specs.contracts.event_data.EventDataPayloadEventName.TheImpl.{ghosts}
use Rattle.bidi_pair_lines.proofs.LedgerLemmas.{writable}
use Rattle.bidi_pair_lines.proofs.writing.params_text.Goals as goal

pub compact-requires : goal.compact-requires
compact-requires c = writable _ _ c.in_ok-tree.ensures (ghosts.payload.whole c.args.event c.requires)

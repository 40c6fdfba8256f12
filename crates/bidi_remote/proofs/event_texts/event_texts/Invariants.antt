use Rattle.std.proofs.Common.{◌≡◌, ◌++◌, map, drop}
use Rattle.std.specs.List.{AllByRecursion}
use Rattle.bidi_methods.specs.contracts.event_data.EventDataPayloadEventName.TheImpl.{ghosts}
use Rattle.bidi_contexts.specs.View.{seen}
use Rattle.bidi_remote.specs.State.EventTexts.{written, AreMessages}
use Rattle.bidi_active.specs.Written.{written_in}
use Rattle.bidi_remote.proofs.event_texts.event_texts.Given as goal

-- those that were looked at are written, and the others are well
abbrev pub invariant-loop-occurrence : goal.invariant-loop-occurrence
invariant-loop-occurrence l =
    AllByRecursion (λ o. ghosts.payload.well o.event) (drop l.occurrence-index l.occurrences)
    × (map written (seen l.occurrences) ≡ written_in l.all.items ++ map written (seen (drop l.occurrence-index l.occurrences)))
    × AreMessages (written_in l.all.items)

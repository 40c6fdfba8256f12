use Rattle.std.proofs.Common.{◌≡◌, map}
use Rattle.bidi_local.specs.Pending.{ids}
use Rattle.bidi_link.specs.Rows.{waiting_among}
use Rattle.bidi_ledger.specs.Steps.{EntriesAreWell}
use Rattle.bidi_link.proofs.LinkFateLemmas.{AreNumbered, AreLost}
use Rattle.bidi_link.proofs.link_end.lose.Given as goal

abbrev pub invariant-loop-id : goal.invariant-loop-id
invariant-loop-id l =
    (AreNumbered 1 l.fn.commands.items → map (λ id. id.value) l.fn.lost.items ≡ ids (waiting_among l.fn.commands.items)
    → AreLost l.fn.commands.items l.commands.items l.id-iterator.rest.items)
    × (EntriesAreWell l.fn.commands.items → EntriesAreWell l.commands.items)

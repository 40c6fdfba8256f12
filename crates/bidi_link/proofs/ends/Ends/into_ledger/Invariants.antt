use Rattle.std.proofs.Common.{◌≡◌, ◌++◌, map}
use Rattle.std.specs.List.{AllByRecursion}
use Rattle.indexmap.specs.IndexMap.{values}
use Rattle.bidi_link.specs.Rows.{account_in_hand}
use Rattle.bidi_ledger.specs.Steps.{account_seen, AccountIsWell}
use Rattle.bidi_link.proofs.WellLemmas.{AgreesWithSome}
use Rattle.bidi_link.proofs.ends.Ends.into_ledger.Given as goal

abbrev pub invariant-loop-link : goal.invariant-loop-link
invariant-loop-link l =
    (map account_seen l.accounts.items ++ map account_in_hand l.link-iterator ≡ map account_in_hand (values l.fn.self.links))
    × (AllByRecursion AgreesWithSome (values l.fn.self.links) → AllByRecursion AccountIsWell l.accounts.items × AllByRecursion AgreesWithSome l.link-iterator)

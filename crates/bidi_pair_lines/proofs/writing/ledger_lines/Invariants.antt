use Rattle.std.proofs.Common.{◌≡◌, ◌++◌, map}
use Rattle.std.specs.Prelude.{string_bytes}
use Rattle.std.specs.List.{AllByRecursion}
use Rattle.bidi_ledger.specs.Steps.{AccountIsWell, account_seen, accounts_of}
use Rattle.bidi_pair_lines.specs.PairLines.{ledger_text}
use Rattle.bidi_pair_lines.proofs.writing.ledger_lines.Given as goal

-- the accounts that are left are well, and their lines make the whole
abbrev pub invariant-accounts : goal.invariant-accounts
invariant-accounts l =
    AllByRecursion AccountIsWell l.account-iterator.rest.items
    × (ledger_text (accounts_of l.fn.ledger) ≡ string_bytes l.lines ++ ledger_text (map account_seen l.account-iterator.rest.items))

use Rattle.std.proofs.Common.{◌≡◌, ◌++◌, map}
use Rattle.std.specs.Prelude.{string_bytes}
use Rattle.std.specs.List.{AllByRecursion}
use Rattle.bidi_ledger.specs.Steps.{FateIsWell, entry_seen}
use Rattle.bidi_pair_lines.specs.PairLines.{entries_text}
use Rattle.bidi_pair_lines.proofs.writing.entry_lines.Given as goal

-- the entries that are left are well, and their lines make the whole
abbrev pub invariant-entries : goal.invariant-entries
invariant-entries l =
    AllByRecursion (λ e. FateIsWell e.fate) l.entry-iterator.rest.items
    × (entries_text l.link.value (map entry_seen l.fn.commands.items)
    ≡ string_bytes l.lines ++ entries_text l.link.value (map entry_seen l.entry-iterator.rest.items))

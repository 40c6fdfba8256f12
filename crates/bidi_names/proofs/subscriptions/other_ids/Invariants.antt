use Rattle.std.proofs.Common.{◌≡◌, ◌++◌, map, drop, string_bytes}
use Rattle.bidi_names.specs.Subscriptions.{other_ids}
use Rattle.bidi_names.proofs.subscriptions.other_ids.Given as goal

-- what is left is added to what was found
abbrev pub invariant-loop-id : goal.invariant-loop-id
invariant-loop-id l = other_ids l.numbers l.session (map string_bytes l.ids)
    ≡ map string_bytes l.found.items ++ other_ids l.numbers l.session (map string_bytes (drop l.id-index l.ids))

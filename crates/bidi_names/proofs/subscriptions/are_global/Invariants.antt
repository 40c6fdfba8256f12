use Rattle.std.proofs.Common.{◌≡◌, map, drop, string_bytes}
use Rattle.std.specs.List.{list_all}
use Rattle.bidi_names.specs.Subscriptions.{holds_globally, named_of}
use Rattle.bidi_names.proofs.subscriptions.are_global.Given as goal

abbrev pub invariant-loop-name : goal.invariant-loop-name
invariant-loop-name l =
    list_all (holds_globally (map named_of l.subscriptions) l.session) (map string_bytes l.names)
    ≡ list_all (holds_globally (map named_of l.subscriptions) l.session) (map string_bytes (drop l.name-index l.names))

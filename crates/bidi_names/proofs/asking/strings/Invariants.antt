use Rattle.std.proofs.Common.{◌≡◌, ◌++◌, drop, option_map}
use Rattle.json.specs.Value.{items_view}
use Rattle.bidi_names.specs.Asked.{strings_of}
use Rattle.bidi_names.specs.View.{texts_of}
use Rattle.bidi_names.proofs.asking.strings.Given as goal

-- the strings of all are those so far with those of the rest
abbrev pub invariant-loop-value : goal.invariant-loop-value
invariant-loop-value l = strings_of (items_view l.values) ≡ option_map (λ ss. texts_of l.strings.items ++ ss) (strings_of (items_view (drop l.value-index l.values)))

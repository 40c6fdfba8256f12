use Rattle.std.proofs.Common.{◌≡◌, map, take}
use Rattle.json.specs.Json.{string}
use Rattle.json.specs.Value.{value_view}
use Rattle.bidi_names.specs.View.{texts_of}
use Rattle.bidi_names.proofs.asking.strings_text.Given as goal

abbrev pub invariant-loop-text : goal.invariant-loop-text
invariant-loop-text l = map value_view l.values.items ≡ map string (texts_of (take l.text-index l.texts))

use Rattle.std.proofs.Common.{◌≡◌, Some, map, take, string_bytes}
use Rattle.bidi_loader.specs.Plain.{unescaped}
use Rattle.bidi_loader.specs.Readings.{text_in}
use Rattle.bidi_loader.proofs.reading.texts_of.Given as goal

abbrev pub invariant-nodes : goal.invariant-nodes
invariant-nodes l = map (λ n. unescaped (text_in n)) (take l.k l.written.nodes.items) ≡ map (λ s. Some (string_bytes s)) l.texts.items

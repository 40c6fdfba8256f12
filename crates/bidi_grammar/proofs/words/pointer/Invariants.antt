use Rattle.std.proofs.Common.{◌≡◌, map, drop, string_bytes}
use Rattle.bidi_grammar.specs.View.{step_of}
use Rattle.bidi_grammar.specs.Words.{pointer_text}
use Rattle.bidi_grammar.proofs.words.pointer.Given as goal

abbrev pub invariant-loop-i : goal.invariant-loop-i
invariant-loop-i l = string_bytes l.text ≡ pointer_text (map step_of (drop l.i l.steps))

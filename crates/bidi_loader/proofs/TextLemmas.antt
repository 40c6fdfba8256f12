-- The string that JSON reads between quotation marks.
use Rattle.std.proofs.Common.{◌≡◌, ℕ, List, Some, None, sym, ap, ◌∙◌}
use Rattle.std.specs.Prelude.{option_and_then}
use Rattle.json.specs.Json.{Json, document}
use Rattle.json.specs.Find.{as_str}
use Rattle.bidi_loader.specs.Plain.{quoted, unescaped}

-- a text that is a value
pub unescaped-is : (s d : List ℕ) (j : Json) → d ≡ quoted s → document d ≡ Some j → unescaped s ≡ as_str j
unfolding unescaped
unescaped-is s d j e h = ap (λ (t : List ℕ). option_and_then as_str (document t)) (sym e) ∙ ap (option_and_then as_str) h

-- a text that is no value
pub unescaped-none : (s d : List ℕ) → d ≡ quoted s → document d ≡ None → unescaped s ≡ None
unfolding unescaped
unescaped-none s d e h = ap (λ (t : List ℕ). option_and_then as_str (document t)) (sym e) ∙ ap (option_and_then as_str) h

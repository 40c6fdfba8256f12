-- The types whose values are a few texts: each value's text, and the table of them.
-- After WebDriver BiDi, "The browsingContext.create Command" and "The browsingContext.ReadinessState Type".
use Rattle.std.specs.Prelude.{◌≡◌, ℕ, List, [], ◌∷◌, Some, codes, refl}
use Rattle.bidi_shape.specs.Name as name
use Rattle.bidi_shape.specs.Term.{Term, rule, ◌or◌, the}
use Rattle.bidi_shape.specs.WordLaws.{Words, word, value_named}
use Rattle.bidi_params.specs.declared.browsing_context.create.ContextType.{ContextType}
use Rattle.bidi_params.specs.declared.browsing_context.create.ContextType.TheVariants.{Tab, Window}
use Rattle.bidi_params.specs.declared.browsing_context.navigate.Wait.{Wait}
use Rattle.bidi_params.specs.declared.browsing_context.navigate.Wait.TheVariants.{None as Never, Interactive, Complete}

-- ---- types of a new context

-- the term of a type of context, as the rules have it
abbrev pub context_type : Term
context_type = the "tab" or the "window"

-- the string of each type of context
abbrev pub context_type_text : ContextType → List ℕ
context_type_text Tab = codes "tab"
context_type_text Window = codes "window"

-- the string of each type of context names it
pub context_type_named : (v : ContextType) → value_named (word context_type_text Tab) (word context_type_text Window ∷ []) (context_type_text v) ≡ Some v
context_type_named Tab = refl
context_type_named Window = refl

-- the types of contexts as a table of their strings
abbrev pub context_type_words : Words ContextType
context_type_words = record {
  rule = context_type;
  first = word context_type_text Tab;
  rest = word context_type_text Window ∷ [];
  text_of = context_type_text;
  is_rule = refl;
  has_texts = (refl, refl);
  names_it = context_type_named;
}

-- ---- how far a navigation has to be

-- the string of each wait
abbrev pub wait_text : Wait → List ℕ
wait_text Never = codes "none"
wait_text Interactive = codes "interactive"
wait_text Complete = codes "complete"

-- the string of each wait names it
pub wait_named : (v : Wait) → value_named (word wait_text Never) (word wait_text Interactive ∷ word wait_text Complete ∷ []) (wait_text v) ≡ Some v
wait_named Never = refl
wait_named Interactive = refl
wait_named Complete = refl

-- the waits as a table of their strings
abbrev pub wait_words : Words Wait
wait_words = record {
  rule = rule name.wait;
  first = word wait_text Never;
  rest = word wait_text Interactive ∷ word wait_text Complete ∷ [];
  text_of = wait_text;
  is_rule = refl;
  has_texts = (refl, (refl, refl));
  names_it = wait_named;
}

-- What was read of a row, put together.
use Rattle.std.proofs.Common.{◌≡◌, ◌∙◌, ◌<◌, ◌+◌, ℕ, suc, true, get_or, drop, add-one, drop-cons, codes, List, ◌∷◌, length, Some, Result, Ok, Err, string_bytes, sym, ap, subst}
use Rattle.std.specs.Prelude.{IfOk, option_map}
use Rattle.json.specs.Find.{get}
use Rattle.json.specs.Json.{Json, Items, array}
use Rattle.bidi_rows.specs.declared.row.Row as declared_row
use Rattle.bidi_rows.specs.declared.row.Action.TheVariants as action_in_code
use Rattle.bidi_rows.specs.declared.row.Answer as declared_answer
use Rattle.bidi_rows.specs.Filling.{Template}
use Rattle.bidi_rows.specs.Part.{part_of}
use Rattle.bidi_rows.specs.Rows.{Answer, Answers}
use Rattle.bidi_rows.specs.Reading.{HasPart, HasTimes, IsFor, Does, IsRow, IsAnsweringRow, IsHoldingRow, IsAnswer, HasAnswer, has_only, answer_names, hold_names, row_names}
use Rattle.bidi_rows.specs.Refusals.{IsText}
use Rattle.bidi_rows.specs.Templates.{AreTemplates, AreTemplateTexts}
use Rattle.bidi_rows.specs.View.{row_of, answer_of, action_of}

-- The two rows are for the same commands.
abbrev pub IsAlike : declared_row.Row → declared_row.Row → Type 0
IsAlike r row = (r.method ≡ row.method) × (r.part ≡ row.part) × (r.left ≡ row.left) × (r.bytes ≡ row.bytes)

alike-for : (value : Json) (r row : declared_row.Row) → IsAlike r row → IsFor value (row_of row) → IsFor value (row_of r)
alike-for value r row (method, part, left, bytes) for = record {
  has_method = for.has_method ∙ ap (λ m. Some (string_bytes m)) (sym method);
  part = subst (λ p. HasPart (get (codes "params") value) (option_map part_of p)) (sym part) for.part;
  times = subst (HasTimes (get (codes "times") value)) (sym left) for.times;
}

row-of : (s : List ℕ) (value : Json) (row : declared_row.Row) (n : ℕ)
    → IsText s value → Does value (action_of row.action) → n ≡ length s → IsFor value (row_of row) → row.bytes ≡ n → IsRow s (row_of row)
row-of s value row n is does long for bytes = record {
  value = value;
  few = is.0;
  is_json = is.1;
  is_for = for;
  does = does;
  bytes = bytes ∙ long;
}

-- a row of these properties that answers as they say
pub answering_read : {E : Type 0} (r : Result declared_row.Row E) (s : List ℕ) (value : Json) (row : declared_row.Row) (n : ℕ)
    → IsText s value → has_only row_names value ≡ true → n ≡ length s → IsFor value (row_of row) → row.bytes ≡ n
    → IfOk r (λ r. IsAlike r row) → IfOk r (λ r. (answer : Answer) × (action_of r.action ≡ Answers answer) × HasAnswer value answer)
    → IfOk r (λ r. IsAnsweringRow s (row_of r))
answering_read (Err e) s value row n is names long for bytes alike answers = tt
answering_read (Ok r) s value row n is names long for bytes alike (answer, action, has) =
    (row-of s value r n is (subst (Does value) (sym action) (names, has)) long (alike-for value r row alike for) (alike.3 ∙ bytes), answer, action)

-- a row of these properties that holds
pub holding_read : {E : Type 0} (r : Result declared_row.Row E) (s : List ℕ) (value : Json) (n : ℕ)
    → IsText s value → has_only hold_names value ≡ true → n ≡ length s
    → IfOk r (λ row. IsFor value (row_of row)) → IfOk r (λ row. row.action ≡ action_in_code.Hold) → IfOk r (λ row. row.bytes ≡ n)
    → IfOk r (λ row. IsHoldingRow s (row_of row))
holding_read (Err e) s value n is names long for holds bytes = tt
holding_read (Ok row) s value n is names long for holds bytes =
    (row-of s value row n is (subst (λ a. Does value (action_of a)) (sym holds) names) long for bytes, ap action_of holds)

-- an answer of these properties
pub answer_read : {E : Type 0} (r : Result declared_answer.Answer E) (s : List ℕ) (value : Json)
    → IsText s value → has_only answer_names value ≡ true → IfOk r (λ a. HasAnswer value (answer_of a)) → IfOk r (λ a. IsAnswer s (answer_of a))
answer_read (Err e) s value is names has = tt
answer_read (Ok a) s value is names has = record { value = value; few = is.0; is_json = is.1; names = names; answer = has }

-- events with places of an array
pub templates_read : {T E : Type 0} (r : Result T E) (view : T → List Template) (s : List ℕ) (value : Json) → IsText s value
    → IfOk r (λ ts. (js : Items) × (value ≡ array js) × AreTemplates js (view ts)) → IfOk r (λ ts. AreTemplateTexts s (view ts))
templates_read (Err e) view s value is has = tt
templates_read (Ok ts) view s value is (js, same, are) = record { items = js; few = is.0; is_json = is.1 ∙ ap Some same; templates = are }

-- an item, and those behind it
pub from-item : {X : Type 0} (xs : List X) (i : ℕ) (x : X) → i < length xs → x ≡ get_or xs i x → drop i xs ≡ x ∷ drop (i + 1) xs
from-item xs i x less is = rw (add-one, drop-cons xs i x) (ap (λ y. y ∷ drop (suc i) xs) (sym is))

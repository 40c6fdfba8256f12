-- Why a text, a value or a property is refused, and that it is then JSON for nothing of its kind.
use Rattle.std.proofs.Common.{◌≡◌, true, false, ◌||◌, inl, inr, is_some, ℕ, List, [], ◌∷◌, Option, Some, None, Result, Ok, Err, arith, codes, refl, sym, subst}
use Rattle.std.specs.Prelude.{IsSome}
use Rattle.std.specs.Result.{IsErrAnd}
use Rattle.json.specs.Json.{Json, null, boolean, number, string, array, object, Items, no_items, item}
use Rattle.json.specs.Find.{as_array}
use Rattle.bidi_rows.specs.declared.fault.RowFault.{RowFault}
use Rattle.bidi_rows.specs.declared.fault.RowFault.TheVariants.{NoMemory, TooLong, NotJson, NoMethod, NoParams, BadEvents}
use Rattle.bidi_rows.specs.Rows.{Event, Answer, Action, Answers, Holds, Row}
use Rattle.bidi_rows.specs.Filling.{Template}
use Rattle.bidi_rows.specs.Templates.{IsTemplate, AreTemplates, AreTemplateTexts}
use Rattle.bidi_rows.specs.Reading.{answer_names, event_names, hold_names, row_names, has_only, string_at, object_at, AreEvents, IsEvent, IsEventText, HasAnswer, HasEvents, IsFor, Does, IsAnsweringRow, IsHoldingRow, IsAnswer}
use Rattle.bidi_rows.specs.Refusals.{IfRefused, HasReason, IfFails, IsText, RefusesAnswer, RefusesAnswering, RefusesArray, RefusesCall, RefusesEvent, RefusesEvents, RefusesFor, RefusesItems, RefusesNames, RefusesText, PassesEvent}

-- a reason that holds for another
pub for-reason : {P Q : RowFault → Type 0} (e : RowFault) → HasReason P e → ((f : RowFault) → P f → Q f) → HasReason Q e
for-reason NoMemory p g = tt
for-reason e p g = g e p

-- a fault that `?` returns early keeps its reason
pub handed_on : {Y : Type 0} {P Q : RowFault → Type 0} (e : RowFault) (r : Result Y RowFault) → IsErrAnd r (λ y. y ≡ e) → HasReason P e
    → ((f : RowFault) → P f → Q f) → IfFails r Q
handed_on e (Ok v) h p g = tt
handed_on {Q = Q} e (Err y) h p g = subst (HasReason Q) (sym h) (for-reason e p g)

-- so does a result that is handed on as it is
pub kept_on : {Y : Type 0} {P Q : RowFault → Type 0} (r : Result Y RowFault) → IfFails r P → ((f : RowFault) → P f → Q f) → IfFails r Q
kept_on (Ok v) p g = tt
kept_on (Err e) p g = for-reason e p g

-- what is refused for a reason that lets nothing be is refused
pub none-then : {Y : Type 0} {P : RowFault → Type 0} {N : Type 0} (r : Result Y RowFault) → IfFails r P → ((f : RowFault) → P f → N) → IfRefused r N
none-then (Ok v) p g = tt
none-then (Err NoMemory) p g = tt
none-then (Err e) p g = g e p

some-same : {X : Type 0} {o : Option X} {x y : X} → o ≡ Some x → o ≡ Some y → x ≡ y
some-same e f = cc

none-some : {X : Type 0} {o : Option X} {x : X} → o ≡ None → o ≡ Some x → ⊥
none-some e f = cc

pub is-there : {X : Type 0} {o : Option X} {x : X} → o ≡ Some x → IsSome o
is-there e = cc

-- ---- which faults come

-- The fault is one of a text as such.
abbrev pub IsOfText : RowFault → Type 0
IsOfText TooLong = Unit {0}
IsOfText NotJson = Unit {0}
IsOfText f = ⊥

-- what is refused for its properties is not refused as a text
never-names : (names : List (List ℕ)) (Refuses : Json → RowFault → Type 0) → ((j : Json) (f : RowFault) → IsOfText f → Refuses j f → ⊥)
    → (j : Json) (f : RowFault) → IsOfText f → RefusesNames names Refuses j f → ⊥
never-names names Refuses later j TooLong t (inl x) = let e = x.0 in cc
never-names names Refuses later j NotJson t (inl x) = let e = x.0 in cc
never-names names Refuses later j f t (inl x) = absurd t
never-names names Refuses later j f t (inr x) = later j f t x.1

never-call : (j : Json) (f : RowFault) → IsOfText f → RefusesCall j f → ⊥
never-call j TooLong t x = x
never-call j NotJson t x = x
never-call j f t x = absurd t

never-event : (j : Json) (f : RowFault) → IsOfText f → RefusesEvent j f → ⊥
never-event = never-names event_names RefusesCall never-call

never-items : (js : Items) (f : RowFault) → IsOfText f → RefusesItems js f → ⊥
never-items no_items f t x = x
never-items (item j js) f t (inl x) = never-event j f t x
never-items (item j js) f t (inr x) = never-items js f t x.1

of-text : {g : RowFault} (f : RowFault) → IsOfText f → IsOfText g ≡ ⊥ → f ≡ g → ⊥
of-text f t none e = subst (λ P. P) (none) (subst IsOfText e t)

never-array : (j : Json) (f : RowFault) → IsOfText f → RefusesArray j f → ⊥
never-array (array js) f t x = never-items js f t x
never-array null f t x = of-text f t refl x
never-array (boolean b) f t x = of-text f t refl x
never-array (number n) f t x = of-text f t refl x
never-array (string b) f t x = of-text f t refl x
never-array (object ms) f t x = of-text f t refl x

never-events : (o : Option Json) (f : RowFault) → IsOfText f → RefusesEvents o f → ⊥
never-events None f t x = x
never-events (Some j) f t x = never-array j f t x

never-answer : (j : Json) (f : RowFault) → IsOfText f → RefusesAnswer j f → ⊥
never-answer j f t (inl x) = of-text f t refl x.0
never-answer j f t (inr (r, inl x)) = never-events _ f t x
never-answer j f t (inr (r, inr x)) = never-events _ f t x.1

never-for : (j : Json) (f : RowFault) → IsOfText f → RefusesFor j f → ⊥
never-for j f t (inl x) = of-text f t refl x.0
never-for j f t (inr (name, inl x)) = of-text f t refl x.0
never-for j f t (inr (name, inr x)) = of-text f t refl x.1.0

never-answering : (j : Json) (f : RowFault) → IsOfText f → RefusesAnswering j f → ⊥
never-answering j f t (inl x) = never-for j f t x
never-answering j f t (inr x) = never-answer j f t x.1

-- why a text is refused, if its value is
of-value : (Refuses : Json → RowFault → Type 0) → ((j : Json) (f : RowFault) → IsOfText f → Refuses j f → ⊥) → (s : List ℕ) (j : Json) → IsText s j
    → (f : RowFault) → Refuses j f → RefusesText Refuses s f
of-value Refuses never s j is TooLong x = absurd (never j TooLong tt x)
of-value Refuses never s j is NotJson x = absurd (never j NotJson tt x)
of-value Refuses never s j is f x = (j, is, x)

pub event-text : (s : List ℕ) (j : Json) → IsText s j → (f : RowFault) → RefusesEvent j f → RefusesText RefusesEvent s f
event-text = of-value RefusesEvent never-event

pub array-text : (s : List ℕ) (j : Json) → IsText s j → (f : RowFault) → RefusesArray j f → RefusesText RefusesArray s f
array-text = of-value RefusesArray never-array

pub answer-text : (s : List ℕ) (j : Json) → IsText s j → (f : RowFault) → RefusesNames answer_names RefusesAnswer j f
    → RefusesText (RefusesNames answer_names RefusesAnswer) s f
answer-text = of-value (RefusesNames answer_names RefusesAnswer) (never-names answer_names RefusesAnswer never-answer)

pub hold-text : (s : List ℕ) (j : Json) → IsText s j → (f : RowFault) → RefusesNames hold_names RefusesFor j f → RefusesText (RefusesNames hold_names RefusesFor) s f
hold-text = of-value (RefusesNames hold_names RefusesFor) (never-names hold_names RefusesFor never-for)

pub row-text : (s : List ℕ) (j : Json) → IsText s j → (f : RowFault) → RefusesNames row_names RefusesAnswering j f
    → RefusesText (RefusesNames row_names RefusesAnswering) s f
row-text = of-value (RefusesNames row_names RefusesAnswering) (never-names row_names RefusesAnswering never-answering)

-- a text without a value is refused for any reason that its value might have
pub no-value : (Refuses : Json → RowFault → Type 0) (s : List ℕ) (f : RowFault) → RefusesText (λ _ _. ⊥) s f → RefusesText Refuses s f
no-value Refuses s TooLong x = x
no-value Refuses s NotJson x = x
no-value Refuses s f x = absurd x.2

-- ---- what is refused is JSON for nothing

-- a text that is refused has no value that is not
refused-text : (Refuses : Json → RowFault → Type 0) (s : List ℕ) (f : RowFault) → RefusesText Refuses s f → (j : Json) → IsText s j → (Refuses j f → ⊥) → ⊥
refused-text Refuses s TooLong x j is none = let few = is.0 in omega arith
refused-text Refuses s NotJson x j is none = none-some x.1 is.1
refused-text Refuses s f x j is none = none (subst (λ v. Refuses v f) (some-same x.1.1 is.1) x.2)

named : (names : List (List ℕ)) (Refuses : Json → RowFault → Type 0) (j : Json) (f : RowFault) → has_only names j ≡ true → RefusesNames names Refuses j f → Refuses j f
named names Refuses j f e (inl x) = let no = x.1 in cc
named names Refuses j f e (inr x) = x.1

no-call : (j : Json) (name : List ℕ) (params : Json) (f : RowFault) → string_at (codes "method") j ≡ Some name → object_at (codes "params") j ≡ Some params
    → RefusesCall j f → ⊥
no-call j name params NoMethod m p x = none-some x m
no-call j name params NoParams m p x = none-some x.1 p
no-call j name params f m p x = absurd x

pub no-event : (j : Json) (f : RowFault) → RefusesEvent j f → (e : Event) → IsEvent j e → ⊥
no-event j f x e is = no-call j e.method is.params f is.has_method is.has_params (named event_names RefusesCall j f is.names x)

no-template : (j : Json) (f : RowFault) → RefusesEvent j f → (t : Template) → IsTemplate j t → ⊥
no-template j f x t is = no-call j is.name t.params f is.has_method is.has_params (named event_names RefusesCall j f is.names x)

no-items : (js : Items) (f : RowFault) → RefusesItems js f → (es : List Event) → AreEvents js es → ⊥
no-items no_items f x es are = x
no-items (item j js) f x [] are = are
no-items (item j js) f (inl x) (e ∷ es) are = no-event j f x e are.0
no-items (item j js) f (inr x) (e ∷ es) are = no-items js f x.1 es are.1

no-templates : (js : Items) (f : RowFault) → RefusesItems js f → (ts : List Template) → AreTemplates js ts → ⊥
no-templates no_items f x ts are = x
no-templates (item j js) f x [] are = are
no-templates (item j js) f (inl x) (t ∷ ts) are = no-template j f x t are.0
no-templates (item j js) f (inr x) (t ∷ ts) are = no-templates js f x.1 ts are.1

-- an array that is refused is refused for its items
items-of : (j : Json) (js : Items) (f : RowFault) → j ≡ array js → RefusesArray j f → RefusesItems js f
items-of j js f e x = subst (λ v. RefusesArray v f) e x

no-events : (o : Option Json) (f : RowFault) → RefusesEvents o f → (es : List Event) → HasEvents o es → ⊥
no-events None f x es has = x
no-events (Some j) f x es (js, e, are) = no-items js f (items-of j js f e x) es are

no-answer : (j : Json) (f : RowFault) → RefusesAnswer j f → (a : Answer) → HasAnswer j a → ⊥
no-answer j f (inl x) a has = x.1 a.reply has.reply
no-answer j f (inr (r, inl x)) a has = no-events _ f x a.before has.before
no-answer j f (inr (r, inr x)) a has = no-events _ f x.1 a.after has.after

no-for : (j : Json) (f : RowFault) → RefusesFor j f → (r : Row) → IsFor j r → ⊥
no-for j f (inl x) r is = none-some x.1 is.has_method
no-for j f (inr (name, inl x)) r is = x.1 r.part is.part
no-for j f (inr (name, inr x)) r is = x.1.1 r.left is.times

no-answering : (j : Json) (f : RowFault) → RefusesAnswering j f → (r : Row) → IsFor j r → (a : Answer) → HasAnswer j a → ⊥
no-answering j f (inl x) r is a has = no-for j f x r is
no-answering j f (inr x) r is a has = no-answer j f x.1 a has

pub no-event-text : (s : List ℕ) (f : RowFault) → RefusesText RefusesEvent s f → (e : Event) → IsEventText s e → ⊥
no-event-text s f x e is = refused-text RefusesEvent s f x is.value (is.few, is.is_json) (λ why. no-event is.value f why e is.event)

pub no-template-text : (s : List ℕ) (f : RowFault) → RefusesText RefusesArray s f → (ts : List Template) → AreTemplateTexts s ts → ⊥
no-template-text s f x ts are =
    refused-text RefusesArray s f x (array are.items) (are.few, are.is_json) (λ why. no-templates are.items f why ts are.templates)

pub no-answer-text : (s : List ℕ) (f : RowFault) → RefusesText (RefusesNames answer_names RefusesAnswer) s f → (a : Answer) → IsAnswer s a → ⊥
no-answer-text s f x a is =
    refused-text (RefusesNames answer_names RefusesAnswer) s f x is.value (is.few, is.is_json)
    (λ why. no-answer is.value f (named answer_names RefusesAnswer is.value f is.names why) a is.answer)

does : (j : Json) (r : Row) (a : Action) → Does j r.action → r.action ≡ a → Does j a
does j r a is e = subst (Does j) e is

pub no-hold-text : (s : List ℕ) (f : RowFault) → RefusesText (RefusesNames hold_names RefusesFor) s f → (r : Row) → IsHoldingRow s r → ⊥
no-hold-text s f x r (is, holds) =
    refused-text (RefusesNames hold_names RefusesFor) s f x is.value (is.few, is.is_json)
    (λ why. no-for is.value f (named hold_names RefusesFor is.value f (does is.value r Holds is.does holds) why) r is.is_for)

pub no-row-text : (s : List ℕ) (f : RowFault) → RefusesText (RefusesNames row_names RefusesAnswering) s f → (r : Row) → IsAnsweringRow s r → ⊥
no-row-text s f x r (is, a, answers) =
    let d = does is.value r (Answers a) is.does answers in
    refused-text (RefusesNames row_names RefusesAnswering) s f x is.value (is.few, is.is_json)
    (λ why. no-answering is.value f (named row_names RefusesAnswering is.value f d.0 why) r is.is_for a d.1)

-- ---- items

-- a value that is no array
pub no_array : (j : Json) → as_array j ≡ None → RefusesArray j BadEvents
no_array (array js) e = cc
no_array null e = refl
no_array (boolean b) e = refl
no_array (number n) e = refl
no_array (string b) e = refl
no_array (object ms) e = refl

-- an array whose items are refused
of-items : (j : Json) (js : Items) (f : RowFault) → Some js ≡ as_array j → RefusesItems js f → RefusesArray j f
of-items (array ks) js f e x = subst (λ is. RefusesItems is f) (some-same refl e) x
of-items null js f e x = cc
of-items (boolean b) js f e x = cc
of-items (number n) js f e x = cc
of-items (string b) js f e x = cc
of-items (object ms) js f e x = cc

pub array_refused : {Y : Type 0} (r : Result Y RowFault) (j : Json) (js : Items) → Some js ≡ as_array j → IfFails r (RefusesItems js) → IfFails r (RefusesArray j)
array_refused r j js e why = kept_on r why (λ f x. of-items j js f e x)

pub event-passes : (j : Json) (e : Event) → IsEvent j e → PassesEvent j
event-passes j e is = (is.names, is-there is.has_method, is-there is.has_params)

pub template-passes : (j : Json) (t : Template) → IsTemplate j t → PassesEvent j
template-passes j t is = (is.names, is-there is.has_method, is-there is.has_params)

-- ---- replies

-- neither of two is there
pub both-none : {X : Type 0} (a b : Option X) → (is_some a || is_some b) ≡ false → (a ≡ None) × (b ≡ None)
both-none None None e = (refl, refl)
both-none (Some x) b e = cc
both-none None (Some x) e = cc

-- what is not there
pub not-there : {X : Type 0} (o : Option X) → is_some o ≡ false → o ≡ None
not-there None e = refl
not-there (Some x) e = cc

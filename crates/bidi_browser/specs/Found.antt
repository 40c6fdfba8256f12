-- What it means that a look-up or a check of the code agrees with its definition.
use Rattle.std.specs.Prelude.{true, ◌≡◌, ℕ, List, Option, Some, None, Result, Ok, Err, ⊤}
use Rattle.std.specs.Borrow.{Bor}
use Rattle.bidi_params.specs.declared.error_code.ErrorCode.{ErrorCode}
use Rattle.bidi_handles.specs.declared.refusal.Refusal.{Refusal}
use Rattle.bidi_handles.specs.declared.refusal.Refusal.TheVariants.{Code, NoMemory}
use Rattle.bidi_contexts.specs.declared.context.Context.{Context}
use Rattle.bidi_contexts.specs.Acts.{Act, Looked}
use Rattle.bidi_contexts.specs.Contexts.{is_alive}
use Rattle.bidi_contexts.specs.Realms.{realm_of}
use Rattle.bidi_contexts.specs.ContextRows.{row_of, row_at}

-- The context or the code is the one that the past gives.
abbrev pub IsFound : Result (Bor Context) ErrorCode → List Act → Result ℕ ErrorCode → Type 0
IsFound (Ok context) past answer = (c : ℕ) × (answer ≡ Ok c) × (row_of context.now ≡ row_at past c)
IsFound (Err code) past answer = answer ≡ Err code

-- The context has the realm that the past gives for a target, or the code is the one that the past gives.
abbrev pub IsTargeted : Result (Bor Context) ErrorCode → List Act → Result ℕ ErrorCode → Type 0
IsTargeted (Ok context) past answer = (c : ℕ) × (is_alive past c ≡ true) × (answer ≡ Ok (realm_of past c)) × (row_of context.now ≡ row_at past c)
IsTargeted (Err code) past answer = answer ≡ Err code

-- The context, none, or the code is what the past gives for an id that may be absent.
abbrev pub IsFoundIfNamed : Result (Option (Bor Context)) ErrorCode → List Act → Result (Option ℕ) ErrorCode → Type 0
IsFoundIfNamed (Ok None) past answer = answer ≡ Ok None
IsFoundIfNamed (Ok (Some context)) past answer = (c : ℕ) × (answer ≡ Ok (Some c)) × (row_of context.now ≡ row_at past c)
IsFoundIfNamed (Err code) past answer = answer ≡ Err code

-- The check gives the value of the definition, or its code.
abbrev pub IsChecked : {A B : Type 0} → (A → B) → Result A ErrorCode → Result B ErrorCode → Type 0
IsChecked view (Ok x) answer = answer ≡ Ok (view x)
IsChecked view (Err code) answer = answer ≡ Err code

-- The check passes; or the code is that of the check; or an allocation failed.
abbrev pub IsLookedAt : {A : Type 0} → Result A Refusal → Result Act ErrorCode → Type 0
IsLookedAt (Ok x) checked = checked ≡ Ok Looked
IsLookedAt (Err (Code code)) checked = checked ≡ Err code
IsLookedAt (Err NoMemory) checked = ⊤

-- The check passes and the value shows what it should; or the code is that of the check.
abbrev pub AreShown : {A B : Type 0} → (A → List B) → Result A ErrorCode → Result Act ErrorCode → List B → Type 0
AreShown seen (Ok xs) checked shown = (checked ≡ Ok Looked) × (seen xs ≡ shown)
AreShown seen (Err code) checked shown = checked ≡ Err code

-- The table in hand by its rows.
use Rattle.std.proofs.Common.{◌≡◌, ◌∙◌, Option, Some, None, Result, Ok, Err, IfOk, refl}
use Rattle.std.specs.Prelude.{option_map}
use Rattle.std.specs.Borrow.{Bor}
use Rattle.bidi_contexts.specs.declared.context.Context.{Context}
use Rattle.bidi_contexts.specs.ContextRows.{row_of}

-- what a result is told as, said in another way
pub ok-told : {A B E : Type 0} (f : A → B) (r : Result A E) (x y : B) → IfOk r (λ v. f v ≡ x) → x ≡ y → IfOk r (λ v. f v ≡ y)
ok-told f (Ok v) x y told is = told ∙ is
ok-told f (Err e) x y told is = tt

-- the row of what is borrowed
pub row-now : (o : Option (Bor Context)) → option_map (λ c. row_of c.now) o ≡ option_map row_of (option_map (λ c. c.now) o)
row-now None = refl
row-now (Some c) = refl

-- What is answered to more inputs at the end of a run.
use Rattle.std.proofs.Common.{◌≡◌, List, [], ◌∷◌, ◌++◌, reverse, append_assoc, append-nil, refl, sym, ◌∙◌, ap}
use Rattle.std.proofs.lemmas.List.{reverse-append}
use Rattle.bidi_remote.specs.Machine.History.{Input}
use Rattle.bidi_remote.specs.Machine.Sent.{answers_after, answers, out}

-- what comes before more inputs is newest first
pub reverse_behind : (i : Input) (inputs h : List Input) → reverse inputs ++ i ∷ h ≡ reverse (i ∷ inputs) ++ h
reverse_behind i inputs h = sym (ap (λ r. r ++ h) (reverse-append (i ∷ []) inputs) ∙ append_assoc (reverse inputs) (i ∷ []) h)

after_append : (h inputs more : List Input) → answers_after h (inputs ++ more) ≡ answers_after h inputs ++ answers_after (reverse inputs ++ h) more
after_append h [] more = refl
after_append h (i ∷ inputs) more =
    ap (λ ys. out h i ++ ys) (after_append (i ∷ h) inputs more)
    ∙ (sym (append_assoc (out h i) (answers_after (i ∷ h) inputs) (answers_after (reverse inputs ++ i ∷ h) more))
    ∙ ap (λ g. (out h i ++ answers_after (i ∷ h) inputs) ++ answers_after g more) (reverse_behind i inputs h))

-- the answers to some inputs, and to more behind them
pub answers_append : (inputs more : List Input) → answers (inputs ++ more) ≡ answers inputs ++ answers_after (reverse inputs) more
answers_append inputs more = after_append [] inputs more ∙ ap (λ g. answers inputs ++ answers_after g more) (append-nil (reverse inputs))

-- one input more
pub answers_more : (inputs : List Input) (i : Input) → answers (inputs ++ i ∷ []) ≡ answers inputs ++ out (reverse inputs) i
answers_more inputs i = answers_append inputs (i ∷ []) ∙ ap (λ ys. answers inputs ++ ys) (append-nil (out (reverse inputs) i))

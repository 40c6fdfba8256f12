use Rattle.std.proofs.Common.{◌∙◌, ◌++◌, take, sym, ap}
use Rattle.std.proofs.lemmas.List.{take-append-drop}
use Rattle.bidi_names.proofs.replies.tail.Goals as goal

pub returns-clause-some : goal.returns-clause-some
returns-clause-some c =
    let front = take c.in_ok-place.place c.args.text.now in
    (front, sym (take-append-drop c.in_ok-place.place c.args.text.now) ∙ ap (λ rest. front ++ rest) (sym c.in_ok-rest.ensures.back))

use Rattle.std.proofs.Common.{◌≡◌, ◌∙◌, [], map, string_bytes, ap, rules}
use Rattle.std.proofs.lemmas.Result.{IfOk-weaker}
use Rattle.bidi_grammar.specs.Words.{choice_text, each_once}
use Rattle.bidi_grammar.proofs.wanting.wanted.Goals as goal

pub returns : goal.returns
returns c =
    let h = c.in_ok-tell_all.ensures in
    let begun : map string_bytes c.new-told.result.items ≡ [] = ap (map string_bytes) c.new-told.ensures.items in
    let all : map string_bytes c.tell_all.new.told.items ≡ each_once [] h.0 = h.1.1 ∙ ap (λ told. each_once told h.0) begun in
    let same : c.deref.result.now ≡ c.tell_all.new.told.items = search rules in
    IfOk-weaker c.choice.result _ _ (λ s e. (h.0, (h.1.0, e ∙ ap (λ xs. choice_text (map string_bytes xs)) same ∙ ap choice_text all))) c.choice.ensures

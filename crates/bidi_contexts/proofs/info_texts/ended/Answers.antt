use Rattle.std.proofs.Common.{◌≡◌, ◌∙◌, ◌++◌, ℕ, List, [], sym, ap, subst}
use Rattle.std.specs.Str.{IsUtf8}
use Rattle.json.specs.Print.{print}
use Rattle.bidi_contexts.proofs.InfoTextLemmas.{infos-printed}
use Rattle.bidi_contexts.proofs.info_texts.ended.Goals as goal

pub from_utf8_unchecked-requires : goal.from_utf8_unchecked-requires
from_utf8_unchecked-requires c =
    let before : c.end_object.new.self.before ≡ [] = c.in_ok-end_object.ensures.room.0 ∙ (c.in_ok-end_array.ensures.room.0 ∙ c.requires) in
    subst IsUtf8 (sym (c.into_inner.ensures.items ∙ ap (λ (b : List ℕ). b ++ print c.end_object.new.self.tokens) before)) c.into_inner.ensures.utf8

pub returns : goal.returns
returns c = λ infos are at.
    let before : c.end_object.new.self.before ≡ [] = c.in_ok-end_object.ensures.room.0 ∙ (c.in_ok-end_array.ensures.room.0 ∙ c.requires) in
    ap (λ v. v.items) c.from_utf8_unchecked.ensures.value
    ∙ (c.into_inner.ensures.items ∙ (ap (λ (b : List ℕ). b ++ print c.end_object.new.self.tokens) before
    ∙ infos-printed infos _ _ _ are at c.in_ok-end_array.ensures.ok c.in_ok-end_object.ensures.ok))

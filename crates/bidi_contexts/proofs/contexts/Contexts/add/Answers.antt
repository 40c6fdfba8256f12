use Rattle.std.proofs.Common.{◌≡◌, ◌∙◌, map, ap, if◌then◌else◌, subst}
use Rattle.std.specs.Prelude.{MatchOption, ◌==◌, length, ℕ, Some}
use Rattle.std.specs.List.{position, insert}
use Rattle.bidi_contexts.specs.declared.context.Context.{Context}
use Rattle.bidi_contexts.specs.declared.context.Details.{Details}
use Rattle.bidi_contexts.specs.ContextRows.{row_of}
use Rattle.bidi_contexts.specs.Subtrees.{end_in}
use Rattle.bidi_contexts.proofs.EditLemmas.{born-rows, ok-is}
use Rattle.bidi_contexts.proofs.contexts.Contexts.add.Goals as goal

pub returns : goal.returns
returns c = λ past act table accepted born is.
    let items = c.args.self.now.live.items in
    let e = c.place_for-place.result in
    let held = subst (λ (d : Details). MatchOption d.parent (e ≡ length c.deref.result.now)
    (λ p. (i : ℕ) → position (λ (x : Context). x.number == p) c.deref.result.now ≡ Some i
    → e ≡ end_in (map (λ (x : Context). x.details.value.level) c.deref.result.now) i)) c.deref-2.ensures c.place_for-place.ensures.is in
    let place = subst (λ xs. MatchOption c.args.context.details.value.parent (e ≡ length xs)
    (λ p. (i : ℕ) → position (λ (x : Context). x.number == p) xs ≡ Some i → e ≡ end_in (map (λ (x : Context). x.details.value.level) xs) i))
    c.deref.ensures.value held in record {
      rows = ap (map row_of) (c.insert.ensures.items ∙ ap (λ b. if b then insert items e c.args.context else items) (ok-is c.insert.result (c.insert.ensures.succeeds c.requires)))
          ∙ born-rows past act items c.args.context e accepted born table.rows is place;
      accepted = accepted;
    }

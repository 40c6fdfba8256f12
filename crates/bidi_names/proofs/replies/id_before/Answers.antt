use Rattle.std.proofs.Common.{◌≡◌, ◌∙◌, ◌++◌, Some, codes, take, drop, true≢false, refl, sym, ap}
use Rattle.std.proofs.lemmas.Bool.Decides.{Decides-eqb}
use Rattle.std.proofs.lemmas.List.{take-append-drop, take_at, drop_at}
use Rattle.std.proofs.lemmas.Slice.Eq.{slice_eq-Decides}
use Rattle.bidi_names.proofs.ReplyLemmas.{not-off, not-on}
use Rattle.bidi_names.proofs.replies.id_before.Goals as goal

pub returns-then-ne-clause-every : goal.returns-then-ne-clause-every
returns-then-ne-clause-every c = λ id e long.
    let end = codes "\"},\"type\":\"success\"}" in
    let same : c.in_ok-id.rest.now ≡ end = c.in_ok-id.ensures.back ∙ (ap (drop 36) e ∙ drop_at id end 36 long) in
    absurd (true≢false (sym ((slice_eq-Decides Decides-eqb c.in_ok-id.rest.now end _ refl).1 same) ∙ not-on _ (sym c.ne.ensures ∙ c.if-ne.true)))

pub returns-clause-some : goal.returns-clause-some
returns-clause-some c =
    let end = codes "\"},\"type\":\"success\"}" in
    let same : c.in_ok-id.rest.now ≡ end = (slice_eq-Decides Decides-eqb c.in_ok-id.rest.now end _ refl).0 (not-off _ (sym c.ne.ensures ∙ c.if-ne.false)) in
    sym (take-append-drop 36 c.args.end.now)
    ∙ (ap (λ id. id ++ drop 36 c.args.end.now) (sym c.in_ok-id.ensures.front) ∙ ap (λ rest. c.in_ok-id.id.now ++ rest) (sym c.in_ok-id.ensures.back ∙ same))

pub returns-clause-every : goal.returns-clause-every
returns-clause-every c = λ id e long. ap Some (c.in_ok-id.ensures.front ∙ (ap (take 36) e ∙ take_at id (codes "\"},\"type\":\"success\"}") 36 long))

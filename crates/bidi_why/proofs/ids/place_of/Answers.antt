use Rattle.std.proofs.Common.{◌∙◌, ap, sym, option_map}
use Rattle.std.specs.Prelude.{position}
use Rattle.bidi_why.specs.Conversing.{is_any, or_else}
use Rattle.bidi_why.specs.Explainers.{kept_in}
use Rattle.bidi_why.proofs.KeptLemmas.{place_of-map}
use Rattle.bidi_why.proofs.ids.place_of.Goals as goal

pub returns-in-Some-clause-place : goal.returns-in-Some-clause-place
returns-in-Some-clause-place c =
    sym (place_of-map (option_map (λ n. n.value) c.args.id) c.args.answers.now
    ∙ ap (λ o. or_else o (position (λ k. is_any (kept_in k)) c.args.answers.now)) (sym c.in-Some.ensures.place))

pub returns-in-None-clause-place : goal.returns-in-None-clause-place
returns-in-None-clause-place c =
    c.place_of_any.ensures.place
    ∙ sym (place_of-map (option_map (λ n. n.value) c.args.id) c.args.answers.now
    ∙ ap (λ o. or_else o (position (λ k. is_any (kept_in k)) c.args.answers.now)) (sym c.in-None.ensures.place))

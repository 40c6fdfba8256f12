use Rattle.std.proofs.Common.{◌≡◌, ◌∙◌, map, Some, None, sym, ap}
use Rattle.std.specs.Prelude.{option_map, slice_get, unwrap_or}
use Rattle.std.proofs.lemmas.Option.{slice_get-map}
use Rattle.bidi_contexts.specs.Acts.{Returned}
use Rattle.bidi_contexts.specs.Outcome.{undefined}
use Rattle.bidi_handles.specs.Resolves.{stands_for}
use Rattle.bidi_browser.proofs.scripts.returned.Goals as goal

pub returns-in_ok-given_back-in-Some : goal.returns-in_ok-given_back-in-Some
returns-in_ok-given_back-in-Some c =
    let all = c.args.arguments.now in
    let there : slice_get (map stands_for all) c.args.place ≡ Some (stands_for c.in-Some.argument.now) = slice_get-map stands_for all c.args.place
    ∙ ap (option_map stands_for) (sym c.at.ensures ∙ ap (option_map (λ a. a.now)) c.in-Some.is) in
    ap Returned (c.in_ok-given_back-in-Some.ensures.ok ∙ ap (λ o. unwrap_or o undefined) (sym there))

pub returns-in_ok-undefined-in-None : goal.returns-in_ok-undefined-in-None
returns-in_ok-undefined-in-None c =
    let all = c.args.arguments.now in
    let none : slice_get (map stands_for all) c.args.place ≡ None = slice_get-map stands_for all c.args.place
    ∙ ap (option_map stands_for) (sym c.at.ensures ∙ ap (option_map (λ a. a.now)) c.in-None.is) in
    ap Returned (c.in_ok-undefined-in-None.ensures.ok ∙ ap (λ o. unwrap_or o undefined) (sym none))

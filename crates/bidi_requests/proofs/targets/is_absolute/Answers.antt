use Rattle.std.proofs.Common.{◌≡◌, ◌∙◌, ap, arith, codes, length, min, take}
use Rattle.std.proofs.lemmas.List.{take_min}
use Rattle.websocket.specs.Headers.{eq_ignore_case}
use Rattle.bidi_requests.specs.Targets.{is_absolute}
use Rattle.bidi_requests.proofs.targets.is_absolute.Goals as goal

pub returns : goal.returns
unfolding is_absolute
returns c =
    let t = c.args.target.now in
    let count : c.min.result ≡ min 7 (length t) = omega (arith, c.min.ensures) in
    c.is_same.ensures ∙ ap (λ x. eq_ignore_case x (codes "http://")) (c.split_at.ensures.front ∙ ap (λ n. take n t) count ∙ take_min 7 t)

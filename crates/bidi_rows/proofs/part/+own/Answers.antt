use Rattle.std.proofs.Common.{◌∙◌, ℕ, List, map, ap, arith, take_all}
use Rattle.json.specs.Json.{Json}
use Rattle.json.specs.Value.{value_view}
use Rattle.bidi_rows.proofs.PartLemmas.{members-same}
use Rattle.bidi_rows.proofs.part.+own.Goals as goal

pub own_members-returns : goal.own_members-returns
own_members-returns t c =
    let ms = c.args.members.now.items in
    members-same c.loop-member.parts.items ms
    (c.loop-member.invariant ∙ ap (map {B = List ℕ × Json} (λ m. (m.0.now, value_view m.1))) (take_all c.loop-member.member-index ms (omega arith)))

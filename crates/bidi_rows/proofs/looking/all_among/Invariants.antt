use Rattle.std.proofs.Common.{◌≡◌, map, drop}
use Rattle.json.specs.Value.{members_view}
use Rattle.bidi_rows.specs.Reading.{all_among}
use Rattle.bidi_rows.proofs.looking.all_among.Given as goal

abbrev pub invariant-loop-member : goal.invariant-loop-member
invariant-loop-member l =
    all_among (map (λ n. n.now) l.names) (members_view l.members.items) ≡ all_among (map (λ n. n.now) l.names) (members_view (drop l.member-index l.members.items))

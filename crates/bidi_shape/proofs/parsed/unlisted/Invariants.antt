use Rattle.std.proofs.Common.{◌≡◌, map, drop}
use Rattle.json.specs.Value.{members_view}
use Rattle.bidi_tree.specs.Node.{Members, no_members, AreAscending}
use Rattle.bidi_tree.specs.Json.{put_all}
use Rattle.bidi_tree.specs.View.{members_node}
use Rattle.bidi_shape.specs.Fits.{without}
use Rattle.bidi_shape.proofs.parsed.unlisted.Given as goal

abbrev pub invariant-loop-member : goal.invariant-loop-member
invariant-loop-member l =
    (found : Members) × AreAscending found × (members_node l.rest.entries ≡ without (map (λ s. s.now) l.names) found)
    × (put_all (members_view (drop l.member-index l.members.items)) found ≡ put_all (members_view l.members.items) no_members)

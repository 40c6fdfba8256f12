use Rattle.std.proofs.Common.{take}
use Rattle.json.specs.Json.{object}
use Rattle.json.specs.Value.{members_view}
use Rattle.bidi_rows.specs.Index.{IsIndexOf}
use Rattle.bidi_rows.proofs.index.index_of.Given as goal

abbrev pub invariant-loop-member : goal.invariant-loop-member
invariant-loop-member l = IsIndexOf l.index (object (members_view (take l.member-index l.members.items)))

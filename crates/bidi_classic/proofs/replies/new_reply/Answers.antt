use Rattle.std.proofs.Common.{codes, sym}
use Rattle.json.specs.Value.{value_view}
use Rattle.bidi_rows.proofs.NumberLemmas.{object_numbers}
use Rattle.bidi_classic.proofs.replies.new_reply.Goals as goal

pub session_reply-requires : goal.session_reply-requires
session_reply-requires c = object_numbers (codes "result") (value_view c.in-Ok.value) (value_view c.in-Some.found.now) (sym c.in-Some.ensures) c.in-Ok.ensures.writable

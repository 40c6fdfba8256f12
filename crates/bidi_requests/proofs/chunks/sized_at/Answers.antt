use Rattle.bidi_requests.proofs.chunks.sized_at.Goals as goal

pub returns-then-size-eq0 : goal.returns-then-size-eq0
returns-then-size-eq0 c = c.last_at.ensures c.args.room

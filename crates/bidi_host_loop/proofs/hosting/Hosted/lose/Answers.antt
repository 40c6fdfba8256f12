use Rattle.std.proofs.Common.{false}
use Rattle.bidi_host_loop.specs.Runs.{session_end}
use Rattle.bidi_host_loop.proofs.RunLemmas.{ended_first, hears_same, rest_by}
use Rattle.bidi_host_loop.proofs.hosting.Hosted.lose.Goals as goal

pub returns-then-ends_with : goal.returns-then-ends_with
returns-then-ends_with g c =
    ended_first c.args.conn.value c.args.self.now c.hears.new.self c.drops.new.self
    (rest_by c.args.self.now c.ends_with.new.self c.hears.new.self c.ends_with.ensures
    (hears_same false c.args.conn.value session_end _ c.ends_with.new.self c.hears.new.self c.in_ok-end.ensures.ok c.in_ok-hears.ensures))
    c.in_ok-drops.ensures

pub returns : goal.returns
returns g c = rest_by c.args.self.now c.ends_with.new.self c.drops-2.new.self c.ends_with.ensures c.in_ok-drops-2.ensures

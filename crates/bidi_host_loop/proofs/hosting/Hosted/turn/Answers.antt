use Rattle.bidi_host_loop.proofs.RunLemmas.{rests_run}
use Rattle.bidi_host_loop.proofs.hosting.Hosted.turn.Goals as goal

pub returns-clause-goes_on : goal.returns-clause-goes_on
returns-clause-goes_on g c first before so =
    rests_run first before c.end_after_last.new.self c.flush_all.new.self c.flush_all.ensures
    (rests_run first before c.serve_ready.new.self c.end_after_last.new.self c.in_ok-end_after_last.ensures
    (c.in_ok-serve_ready.ensures first before (c.in_ok-read_input.ensures first before
    (rests_run first before c.drop_late-next.new.self c.wait.new.self c.in_ok-wait.ensures
    (rests_run first before c.args.self.now c.drop_late-next.new.self c.drop_late-next.ensures so)))))

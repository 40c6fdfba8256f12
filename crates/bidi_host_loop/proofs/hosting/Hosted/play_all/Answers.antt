use Rattle.bidi_host_loop.proofs.RunLemmas.{opening_played}
use Rattle.bidi_host_loop.proofs.hosting.Hosted.play_all.Goals as goal

pub returns : goal.returns
returns g c = opening_played c.args.self.now c.hold_names.new.self c.play_page.new.self c.in_ok-hold_names.ensures c.in_ok-play_page.ensures

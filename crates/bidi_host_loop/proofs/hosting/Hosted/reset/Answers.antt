use Rattle.std.proofs.Common.{◌++◌, ◌∷◌, [], ap, ◌∙◌}
use Rattle.bidi_host_loop.specs.Deeds.{Restarted}
use Rattle.bidi_host_loop.proofs.RunLemmas.{reset_done}
use Rattle.bidi_host_loop.proofs.hosting.Hosted.reset.Goals as goal

pub returns : goal.returns
returns g c =
    reset_done c.args.self.now _ c.play_all.new.self c.in_ok-close_clients.ensures.0 c.in_ok-reset.ensures.fresh
    (c.in_ok-restart.ensures.notes ∙ ap (λ ds. ds ++ Restarted ∷ []) c.in_ok-close_clients.ensures.2) c.in_ok-play_all.ensures

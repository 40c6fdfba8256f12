use Rattle.std.proofs.Common.{string_bytes}
use Rattle.bidi_host_loop.proofs.RunLemmas.{eased_hears}
use Rattle.bidi_host_loop.proofs.hosting.Hosted.hears_eased.Goals as goal

pub returns : goal.returns
returns g c =
    eased_hears c.args.self.now.manners.is_lenient c.args.conn.value (string_bytes c.args.text) _ c.args.self.now c.eased.new.self c.hears.new.self
    c.in_ok-text.ensures.same c.in_ok-text.ensures.rests c.in_ok-hears.ensures

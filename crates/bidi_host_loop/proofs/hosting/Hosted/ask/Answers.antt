use Rattle.std.proofs.Common.{refl}
use Rattle.bidi_host_loop.proofs.RunLemmas.{call_denied, call_made, rest_by}
use Rattle.bidi_host_loop.proofs.hosting.Hosted.ask.Goals as goal

pub returns-then-not-is_open : goal.returns-then-not-is_open
returns-then-not-is_open g c =
    call_denied c.args.self.now.manners.is_lenient _ c.args.resource.now c.args.self.now c.opens.new.self
    (rest_by c.args.self.now _ c.opens.new.self ((refl, refl), refl, refl) c.in_ok-opens.ensures)

pub returns : goal.returns
returns g c =
    call_made _ c.args.resource.now c.args.self.now c.opens.new.self c.command.new.self
    (rest_by c.args.self.now _ c.opens.new.self ((refl, refl), refl, refl) c.in_ok-opens.ensures) c.in_ok-texts.ensures

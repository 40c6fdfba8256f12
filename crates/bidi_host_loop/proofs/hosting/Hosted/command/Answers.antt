use Rattle.std.proofs.Common.{ap, refl, string_bytes}
use Rattle.bidi_host_loop.proofs.RunLemmas.{commanded, rest_by}
use Rattle.bidi_host_loop.proofs.hosting.Hosted.command.Goals as goal

pub returns : goal.returns
returns g c =
    commanded c.args.self.now.manners.is_lenient c.args.conn.value (string_bytes c.args.command) c.args.self.now c.hears_eased.new.self c.drops.new.self
    (rest_by c.args.self.now _ c.hears_eased.new.self ((refl, refl), refl, ap (λ a. a.deeds) c.keep_texts.ensures.notes) c.in_ok-hears_eased.ensures)
    (rest_by c.hears_eased.new.self _ c.drops.new.self ((refl, refl), refl, ap (λ a. a.deeds) c.kept_texts-texts.ensures.notes) c.in_ok-drops.ensures)

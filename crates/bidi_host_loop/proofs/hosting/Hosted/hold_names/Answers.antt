use Rattle.std.proofs.Common.{codes}
use Rattle.bidi_host_loop.proofs.RunLemmas.{line_done, names_played, no_names_played}
use Rattle.bidi_host_loop.proofs.hosting.Hosted.hold_names.Goals as goal

pub returns-then-not-self : goal.returns-then-not-self
returns-then-not-self g c = no_names_played c.args.self.now.manners.is_lenient c.args.self.now c.if-not-self.true

pub returns-in_ok-deliver-in-Some : goal.returns-in_ok-deliver-in-Some
returns-in_ok-deliver-in-Some g c =
    let text = codes "names *" in
    names_played c.args.self.now.manners.is_lenient c.args.self.now c.deliver.new.self c.if-not-self.false
    (line_done text _ _ c.args.self.now c.deliver.new.self c.page_line.new.self.end c.in-Some.is c.in_ok-taken.ensures.some
    c.in_ok-deliver-in-Some.ensures.0 c.in_ok-deliver-in-Some.ensures.1 c.in_ok-deliver-in-Some.ensures.2)

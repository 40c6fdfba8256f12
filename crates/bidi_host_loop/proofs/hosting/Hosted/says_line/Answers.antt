use Rattle.std.proofs.Common.{refl}
use Rattle.bidi_host_loop.proofs.RunLemmas.{line_done, no_line_said}
use Rattle.bidi_host_loop.proofs.hosting.Hosted.says_line.Goals as goal

pub returns-in_default-clause-none : goal.returns-in_default-clause-none
returns-in_default-clause-none g c =
    no_line_said c.args.text.now _ c.args.self.now _ c.in_default.is c.in_ok-taken.ensures.none (refl, refl) refl

pub returns-clause-some : goal.returns-clause-some
returns-clause-some g c =
    line_done c.args.text.now _ _ c.args.self.now c.deliver.new.self c.page_line.new.self.end c.in-Some.is c.in_ok-taken.ensures.some
    c.in_ok-deliver.ensures.0 c.in_ok-deliver.ensures.1 c.in_ok-deliver.ensures.2

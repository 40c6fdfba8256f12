use Rattle.std.proofs.Common.{codes, sym, ◌∙◌}
use Rattle.std.proofs.lemmas.Slice.Eq.{bytes_eq-Decides}
use Rattle.bidi_host_loop.proofs.RunLemmas.{end_said, reset_said}
use Rattle.bidi_host_loop.proofs.hosting.Hosted.page_says.Goals as goal

pub returns-then-eq : goal.returns-then-eq
returns-then-eq g c =
    reset_said c.args.text.now c.args.self.now c.reset.new.self
    ((bytes_eq-Decides c.args.text.now (codes "reset")).0 (sym c.eq.ensures ∙ c.if-eq.true)) c.in_ok-reset.ensures

pub returns-then-eq-2 : goal.returns-then-eq-2
returns-then-eq-2 g c =
    end_said c.args.text.now c.args.self.now c.begin_end.new.self
    ((bytes_eq-Decides c.args.text.now (codes "end")).0 (sym c.eq-2.ensures ∙ c.if-eq-2.true)) c.in_ok-begin_end.ensures

use Rattle.std.proofs.Common.{refl, sym, ◌∙◌}
use Rattle.bidi_sessions.specs.Step.{Drop}
use Rattle.bidi_script_lines.specs.ScriptLines.{Plain}
use Rattle.bidi_host_loop.specs.Runs.{is_closed, drops}
use Rattle.bidi_host_loop.proofs.RunLemmas.{by_none, takes_done}
use Rattle.bidi_host_loop.proofs.hosting.Hosted.drops.Goals as goal

pub returns-then-not-is_open : goal.returns-then-not-is_open
returns-then-not-is_open g c =
    by_none c.args.self.now c.args.self.now
    (is_closed c.args.self.now.host.end (λ h so. sym (c.is_open.ensures h so) ∙ c.if-not-is_open.true)) (refl, refl) refl

pub returns : goal.returns
returns g c =
    let b = takes_done (Plain (Drop c.args.conn.value)) c.args.self.now c.deliver.new.self c.dropped.new.self.end
    c.in_ok-taken.taken c.in_ok-taken.ensures.taken c.in_ok-deliver.ensures.0 c.in_ok-deliver.ensures.1 c.in_ok-deliver.ensures.2 in
    record {
      keeps = b.keeps;
      more = b.more;
      goes = drops c.args.self.now.host.end c.deliver.new.self.host.end b.more (λ h so. sym (c.is_open.ensures h so) ∙ c.if-not-is_open.false) b.goes;
      adds = b.adds;
    }

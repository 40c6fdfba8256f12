use Rattle.std.proofs.Common.{refl, string_bytes}
use Rattle.bidi_sessions.specs.Step.{Text}
use Rattle.bidi_script_lines.specs.ScriptLines.{Plain}
use Rattle.bidi_host_loop.proofs.RunLemmas.{by_kind, takes_done}
use Rattle.bidi_host_loop.proofs.hosting.Hosted.hears.Goals as goal

pub returns : goal.returns
returns g c =
    let heard = c.in_ok-taken.ensures.taken in
    by_kind (λ e e' m takes. (string_bytes c.args.text, heard.0, (λ _. refl), heard.1, takes)) c.args.self.now c.deliver.new.self
    (takes_done (Plain (Text c.args.conn.value heard.0)) c.args.self.now c.deliver.new.self c.heard.new.self.end
    c.in_ok-taken.taken heard.2 c.in_ok-deliver.ensures.0 c.in_ok-deliver.ensures.1 c.in_ok-deliver.ensures.2)

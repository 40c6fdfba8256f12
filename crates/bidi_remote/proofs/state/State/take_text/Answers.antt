use Rattle.std.proofs.Common.{refl}
use Rattle.bidi_sessions.specs.Step.{Text}
use Rattle.bidi_remote.proofs.TakeLemmas.{text_heard}
use Rattle.bidi_remote.proofs.state.State.take_text.Goals as goal

pub returns-clause-ok : goal.returns-clause-ok
returns-clause-ok c =
    text_heard c.hear.result (Text c.args.conn.value c.args.text.now) c.args.conn.value c.args.text.now c.args.self.now c.hear.new.self refl c.hear.ensures.ok

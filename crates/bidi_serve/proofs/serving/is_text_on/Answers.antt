use Rattle.std.proofs.Common.{sym}
use Rattle.bidi_serve.proofs.ServingLemmas.{not-text}
use Rattle.bidi_serve.proofs.serving.is_text_on.Goals as goal

pub returns-in_default : goal.returns-in_default
returns-in_default c = sym (not-text c.args.conn.value c.args.one.now c.in_default.not-Text)

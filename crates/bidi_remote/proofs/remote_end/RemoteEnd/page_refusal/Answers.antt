use Rattle.bidi_sessions.specs.View.{page_of}
use Rattle.bidi_remote.proofs.RefusalLemmas.{end_refused}
use Rattle.bidi_remote.proofs.remote_end.RemoteEnd.page_refusal.Goals as goal

pub returns : goal.returns
returns c = end_refused c.page_refusal.result (page_of c.args.page.now) c.args.self.now c.page_refusal.ensures

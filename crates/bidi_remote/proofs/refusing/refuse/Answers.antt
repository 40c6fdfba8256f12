use Rattle.bidi_remote.proofs.TakeLemmas.{only_reads}
use Rattle.bidi_remote.proofs.refusing.refuse.Goals as goal

pub returns-clause-reads_back : goal.returns-clause-reads_back
returns-clause-reads_back c = only_reads c.only.result _ c.only.ensures c.in_ok-text.ensures.reads_back

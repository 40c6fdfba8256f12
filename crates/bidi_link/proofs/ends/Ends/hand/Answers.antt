use Rattle.std.proofs.Common.{map, subst}
use Rattle.bidi_remote.specs.Machine.Messages.{AllReadBack}
use Rattle.bidi_sessions.specs.View.{sent_of}
use Rattle.bidi_ledger.specs.Pairing.{history}
use Rattle.bidi_ledger.specs.Link.{link}
use Rattle.bidi_link.proofs.StandLemmas.{stands-handed}
use Rattle.bidi_link.proofs.ends.Ends.hand.Goals as goal

pub returns-clause-ok : goal.returns-clause-ok
returns-clause-ok c =
    let taken = c.in_ok-all.ensures.ok in (
      taken.0,
      taken.1,
      λ past s.
          let t = taken.2 (history past) s.remote in (
            stands-handed c.args.self.now _ past taken.0 (map sent_of c.in_ok-all.all.items) s t.1 t.0 c.in_ok-deliver.ensures.numbers
                (c.in_ok-deliver.ensures.rows (link past) s.rows),
            c.in_ok-all.ensures.answered (history past) taken.0 s.remote taken.1,
            subst AllReadBack t.0 (c.in_ok-all.ensures.reads_back (history past) s.remote),
          ),
    )

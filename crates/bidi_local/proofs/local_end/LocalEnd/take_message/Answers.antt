use Rattle.std.proofs.Common.{◌≤◌}
use Rattle.bidi_local.proofs.MeaningLemmas.{received_holds}
use Rattle.bidi_local.proofs.local_end.LocalEnd.take_message.Goals as goal

pub invariant_of-self : goal.invariant_of-self
invariant_of-self c =
    let end = c.args.self.now in
    record {
      in_range = end.in_range;
      were_sent =
          received_holds (λ w. w.0 ≤ end.sent) end.pending.entries c.receive.new.pending.entries c.receive.result c.receive.ensures.settles
          c.receive.ensures.err end.were_sent;
    }

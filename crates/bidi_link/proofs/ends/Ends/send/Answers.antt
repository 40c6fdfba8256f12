use Rattle.std.proofs.Common.{refl, ap}
use Rattle.bidi_ledger.specs.Steps.{sending_of}
use Rattle.bidi_link.proofs.RowStepLemmas.{send-row, send-none}
use Rattle.bidi_link.proofs.ends.Ends.send.Goals as goal

pub returns-in-Some : goal.returns-in-Some
returns-in-Some c = λ past stands sane count.
    send-row c.args.self.now _ past c.args.number.value c.in-Some.end.now c.send.new.self
    (record {
      found = c.in-Some.ensures.value;
      remote = refl;
      entries = (c.get_mut.follows.holds c.send.new.self).0;
      kept = (c.get_mut.follows.holds c.send.new.self).1;
      distinct = c.in-Some.ensures.unique;
    })
    stands c.send.result (sending_of c.args.command) sane count c.send.ensures

pub returns-in-None : goal.returns-in-None
returns-in-None c =
    λ past stands sane count. send-none c.args.self.now _ past c.args.number.value
    (record { none = c.in-None.ensures.value; remote = refl; entries = ap (λ m. m.entries) c.get_mut.follows.holds-at-none }) stands
    (sending_of c.args.command) sane

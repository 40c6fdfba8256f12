use Rattle.std.proofs.Common.{refl, ap}
use Rattle.bidi_link.proofs.RowStepLemmas.{down-row, down-none}
use Rattle.bidi_link.proofs.ends.Ends.carry_down.Goals as goal

pub returns-in-Some : goal.returns-in-Some
returns-in-Some c = λ past stands sane.
    down-row c.args.self.now _ past c.args.number.value c.in-Some.end.now c.take_down.new.self
    (record {
      found = c.in-Some.ensures.value;
      remote = refl;
      entries = (c.get_mut.follows.holds c.take_down.new.self).0;
      kept = (c.get_mut.follows.holds c.take_down.new.self).1;
      distinct = c.in-Some.ensures.unique;
    })
    stands c.take_down.result sane c.take_down.ensures

pub returns-in-None : goal.returns-in-None
returns-in-None c =
    λ past stands sane. down-none c.args.self.now _ past c.args.number.value
    (record { none = c.in-None.ensures.value; remote = refl; entries = ap (λ m. m.entries) c.get_mut.follows.holds-at-none }) stands sane

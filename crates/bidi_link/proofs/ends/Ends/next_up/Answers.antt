use Rattle.std.proofs.Common.{refl, ap}
use Rattle.bidi_link.proofs.RowStepLemmas.{up-row-none, up-row-some, up-row-nothing}
use Rattle.bidi_link.proofs.ends.Ends.next_up.Goals as goal

pub returns-in-Some-clause-none : goal.returns-in-Some-clause-none
returns-in-Some-clause-none c = λ past stands.
    up-row-none c.args.self.now _ past c.args.number.value c.in-Some.end.now c.next_up.new.self
    (record {
      found = c.in-Some.ensures.value;
      remote = refl;
      entries = (c.get_mut.follows.holds c.next_up.new.self).0;
      kept = (c.get_mut.follows.holds c.next_up.new.self).1;
      distinct = c.in-Some.ensures.unique;
    })
    stands c.next_up.result c.next_up.ensures.none

pub returns-in-Some-clause-some : goal.returns-in-Some-clause-some
returns-in-Some-clause-some c = λ past stands.
    up-row-some c.args.self.now _ past c.args.number.value c.in-Some.end.now c.next_up.new.self
    (record {
      found = c.in-Some.ensures.value;
      remote = refl;
      entries = (c.get_mut.follows.holds c.next_up.new.self).0;
      kept = (c.get_mut.follows.holds c.next_up.new.self).1;
      distinct = c.in-Some.ensures.unique;
    })
    stands c.next_up.result c.next_up.ensures.some

pub returns-in-None-clause-none : goal.returns-in-None-clause-none
returns-in-None-clause-none c = λ past stands.
    up-row-nothing c.args.self.now _ past c.args.number.value
    (record { none = c.in-None.ensures.value; remote = refl; entries = ap (λ m. m.entries) c.get_mut.follows.holds-at-none }) stands

use Rattle.std.proofs.Common.{refl, ap}
use Rattle.bidi_link.proofs.RowStepLemmas.{cut-row, cut-none}
use Rattle.bidi_link.proofs.ends.Ends.end_link.Goals as goal

pub returns-in-Some : goal.returns-in-Some
returns-in-Some c = λ past stands whole.
    cut-row c.args.self.now _ past c.args.number.value c.in-Some.end.now c.cut.new.self
    (record {
      found = c.in-Some.ensures.value;
      remote = refl;
      entries = (c.get_mut.follows.holds c.cut.new.self).0;
      kept = (c.get_mut.follows.holds c.cut.new.self).1;
      distinct = c.in-Some.ensures.unique;
    })
    stands c.cut.result whole c.cut.ensures

pub returns-in-None : goal.returns-in-None
returns-in-None c =
    λ past stands whole. cut-none c.args.self.now (record c.args.self.now { links = c.get_mut.follows.lender-at-none }) past c.args.number.value
    (record { none = c.in-None.ensures.value; remote = refl; entries = ap (λ m. m.entries) c.get_mut.follows.holds-at-none }) stands whole

use Rattle.bidi_link.proofs.RowStepLemmas.{whole-found, whole-none}
use Rattle.bidi_link.proofs.ends.Ends.is_whole.Goals as goal

pub returns-in-Some : goal.returns-in-Some
returns-in-Some c =
    λ past stands. whole-found c.args.self.now past c.args.number.value c.in-Some.end.now c.is_cut.result stands c.in-Some.ensures.value c.is_cut.ensures

pub returns-in-None : goal.returns-in-None
returns-in-None c = λ past stands. whole-none c.args.self.now past c.args.number.value stands c.in-None.ensures.value

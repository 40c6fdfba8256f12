use Rattle.std.proofs.Common.{◌∙◌, nat_eq, refl}
use Rattle.indexmap.proofs.CallerLemmas.{insert_entry-new}
use Rattle.bidi_link.proofs.StandLemmas.{not-there, stands-linked}
use Rattle.bidi_link.proofs.ends.Ends.add.Goals as goal

pub returns-in-Ok : goal.returns-in-Ok
returns-in-Ok c = record {
  rows = λ past s none nothing.
      let ends = c.args.self.now in
      let l = c.args.number.value in
      stands-linked ends _ past l c.new.result s refl
      (c.in-Ok.ensures.entries ∙ insert_entry-new nat_eq ends.links l c.new.result (not-there ends past l s none)) nothing c.new.ensures;
}

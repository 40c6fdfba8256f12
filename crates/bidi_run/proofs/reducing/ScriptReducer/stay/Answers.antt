use Rattle.std.proofs.Common.{refl}
use Rattle.bidi_run.proofs.ScriptReduceLemmas.{on_ok, stay_more}
use Rattle.bidi_run.proofs.reducing.ScriptReducer.stay.Goals as goal

pub returns : goal.returns
returns c first lines text p =
    let (l, can, says, test) = c.requires in
    on_ok c.keep_line.result (λ kept. stay_more first c.args.self.now _ lines c.args.line.now text l p can says test refl refl refl kept) c.keep_line.ensures

use Rattle.std.proofs.Common.{refl}
use Rattle.std.specs.Box.{with_value}
use Rattle.bidi_why.specs.declared.one_side.OneSide.{OneSide}
use Rattle.bidi_why.proofs.TellingLemmas.{explained_as}
use Rattle.bidi_why.proofs.one_side.OneSideExplainer.explain.Goals as goal

pub returns : goal.returns
returns c first lines text told is p counted at =
    let old = c.args.self.now in
    let now : OneSide = record { form = old.form; side = old.side; profile_only = old.profile_only; scratch = with_value old.scratch c.explain.new.scratch } in
    explained_as first old now c.args.number c.args.line lines is text told c.explain.result p counted refl refl refl c.explain.ensures at

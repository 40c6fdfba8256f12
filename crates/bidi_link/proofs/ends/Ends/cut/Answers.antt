use Rattle.std.proofs.Common.{◌∙◌, Ok, sym, subst}
use Rattle.bidi_link.specs.Stands.{Both}
use Rattle.bidi_link.proofs.StepLemmas.{cuts-not, cut-done}
use Rattle.bidi_link.proofs.ends.Ends.cut.Goals as goal

pub returns-then-not-is_whole-clause-ok : goal.returns-then-not-is_whole-clause-ok
returns-then-not-is_whole-clause-ok c = λ past stands sane.
    subst (Both c.args.self.now) (sym (cuts-not past c.args.number.value (sym (c.is_whole.ensures past stands) ∙ c.if-not-is_whole.true))) (stands, sane)

pub returns-clause-ok : goal.returns-clause-ok
returns-clause-ok c = λ past stands sane.
    cut-done {E = Unit {0}} (Ok tt) c.drop_connection.new.self c.end_link.new.self past c.args.number.value
    (sym (c.is_whole.ensures past stands) ∙ c.if-not-is_whole.false) (c.in_ok-drop_connection.ensures.ok past stands sane) c.in_ok-end_link.ensures

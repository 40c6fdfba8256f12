use Rattle.std.proofs.Common.{refl, Some}
use Rattle.bidi_names.specs.Asked.{Ends}
use Rattle.bidi_scripted.specs.View.{script_of}
use Rattle.bidi_scripted.proofs.KeptLemmas.{takes-succeeded}
use Rattle.bidi_scripted.proofs.OnlyLemmas.{only-named}
use Rattle.bidi_scripted.proofs.scripted_end.ScriptedEnd.cancel.Goals as goal

pub returns-clause-takes : goal.returns-clause-takes
returns-clause-takes c = λ h ids s are.
    takes-succeeded c.args.conn.value h c.args.session (Some (Ends c.args.id.value ids)) c.args.self.now.end (script_of c.args.self.now.script)
    (script_of c.cancel_named.new.self) c.in_ok-taken.taken c.args.id.value c.in_ok-taken.ensures.answers (c.args.numbers.now, are, c.cancel_named.ensures)

pub returns-clause-rest : goal.returns-clause-rest
returns-clause-rest c = only-named (script_of c.args.self.now.script) _ _ _ refl c.cancel_named.ensures

use Rattle.std.proofs.Common.{◌∙◌, Some, string_bytes, sym, arith}
use Rattle.std.specs.Prelude.{true, false}
use Rattle.bidi_remote.specs.Machine.Outcome.{deeds}
use Rattle.bidi_sessions.specs.SubscriptionView.{scope_of}
use Rattle.bidi_names.specs.Asked.{Subscribes}
use Rattle.bidi_names.specs.View.{wanted_of}
use Rattle.bidi_scripted.specs.View.{script_of}
use Rattle.bidi_scripted.proofs.KeptLemmas.{takes-as, subscribing-alone, subscribing-heard, none-of}
use Rattle.bidi_scripted.proofs.scripted_end.ScriptedEnd.subscribe_room.Goals as goal

pub returns-then-is_empty-clause-takes : goal.returns-then-is_empty-clause-takes
returns-then-is_empty-clause-takes c = λ h s is room.
    let self = c.args.self.now in
    let new = c.make_alone.new.self in
    let script = script_of self.script in
    let w = wanted_of c.args.wanted in
    let others = c.args.wanted.others in
    let none = none-of string_bytes others.items _ true (omega arith) (sym c.is_empty.ensures ∙ c.if-is_empty.true) in
    takes-as c.args.conn.value h c.args.session (Some (Subscribes w)) self.end script c.make_alone.result new.end (script_of new.script) _ _
    (subscribing-alone (deeds h) script c.args.session c.args.text.now w (scope_of c.args.scope) room none) (c.make_alone.ensures.takes h s)

pub returns-clause-takes : goal.returns-clause-takes
returns-clause-takes c = λ h s is room.
    let self = c.args.self.now in
    let new = c.subscribe_to.new.self in
    let script = script_of self.script in
    let w = wanted_of c.args.wanted in
    let others = c.args.wanted.others in
    let some = none-of string_bytes others.items _ false (omega arith) (sym c.is_empty.ensures ∙ c.if-is_empty.false) in
    takes-as c.args.conn.value h c.args.session (Some (Subscribes w)) self.end script c.subscribe_to.result new.end (script_of new.script) _ _
    (subscribing-heard (deeds h) script c.args.session c.args.text.now w (scope_of c.args.scope) room some) (c.subscribe_to.ensures.takes h s is)

use Rattle.std.proofs.Common.{◌∙◌, Some, map, string_bytes, refl, sym, arith}
use Rattle.std.specs.List.{list_all}
use Rattle.std.specs.Prelude.{true, false}
use Rattle.bidi_params.specs.declared.error_code.ErrorCode.TheVariants.{InvalidArgument}
use Rattle.bidi_remote.specs.Machine.Outcome.{deeds}
use Rattle.bidi_names.specs.Asked.{Unsubscribes}
use Rattle.bidi_names.specs.Subscriptions.{holds_globally, named_of}
use Rattle.bidi_names.specs.View.{texts_of, wanted_of}
use Rattle.bidi_scripted.specs.View.{script_of}
use Rattle.bidi_scripted.proofs.FateLemmas.{anyhow, anyway}
use Rattle.bidi_scripted.proofs.KeptLemmas.{takes-as, takes-refused, unsubscribing-refused, unsubscribing-alone, unsubscribing-heard, none-of}
use Rattle.bidi_scripted.proofs.scripted_end.ScriptedEnd.unsubscribe.Goals as goal

pub returns-then-not-are_global-clause-takes : goal.returns-then-not-are_global-clause-takes
returns-then-not-are_global-clause-takes c = λ h s.
    let self = c.args.self.now in
    let script = script_of self.script in
    let w = wanted_of c.args.wanted in
    let same = c.are_global.ensures
    ∙ (λ i. list_all (holds_globally (map named_of (c.deref.ensures.value i)) c.args.session) (texts_of (c.deref-2.ensures.value i))) in
    takes-as c.args.conn.value h c.args.session (Some (Unsubscribes w)) self.end script c.refuse_with.result self.end script _ _
    (unsubscribing-refused (deeds h) script c.args.session c.args.text.now w (sym same ∙ c.if-not-are_global.true))
    (takes-refused c.args.conn.value h c.args.session (Some (Unsubscribes w)) self.end script c.refuse_with.result w.id InvalidArgument c.refuse_with.ensures.answers)

pub returns-then-not-are_global-clause-rest : goal.returns-then-not-are_global-clause-rest
returns-then-not-are_global-clause-rest c = anyhow c.refuse_with.result refl

pub returns-then-not-are_global-clause-err : goal.returns-then-not-are_global-clause-err
returns-then-not-are_global-clause-err c = anyway c.refuse_with.result (refl, λ h s. s)

pub returns-then-is_empty-clause-takes : goal.returns-then-is_empty-clause-takes
returns-then-is_empty-clause-takes c = λ h s.
    let self = c.args.self.now in
    let new = c.dismiss.new.self in
    let script = script_of self.script in
    let w = wanted_of c.args.wanted in
    let same = c.are_global.ensures
    ∙ (λ i. list_all (holds_globally (map named_of (c.deref.ensures.value i)) c.args.session) (texts_of (c.deref-2.ensures.value i))) in
    let others = c.args.wanted.others in
    let none = none-of string_bytes others.items _ true (omega arith) (sym c.is_empty.ensures ∙ c.if-is_empty.true) in
    takes-as c.args.conn.value h c.args.session (Some (Unsubscribes w)) self.end script c.dismiss.result new.end (script_of new.script) _ _
    (unsubscribing-alone (deeds h) script c.args.session c.args.text.now w (sym same ∙ c.if-not-are_global.false) none) (c.dismiss.ensures.takes h s)

pub returns-clause-takes : goal.returns-clause-takes
returns-clause-takes c = λ h s.
    let self = c.args.self.now in
    let new = c.dismiss_by.new.self in
    let script = script_of self.script in
    let w = wanted_of c.args.wanted in
    let same = c.are_global.ensures
    ∙ (λ i. list_all (holds_globally (map named_of (c.deref.ensures.value i)) c.args.session) (texts_of (c.deref-2.ensures.value i))) in
    let others = c.args.wanted.others in
    let some = none-of string_bytes others.items _ false (omega arith) (sym c.is_empty.ensures ∙ c.if-is_empty.false) in
    takes-as c.args.conn.value h c.args.session (Some (Unsubscribes w)) self.end script c.dismiss_by.result new.end (script_of new.script) _ _
    (unsubscribing-heard (deeds h) script c.args.session c.args.text.now w (sym same ∙ c.if-not-are_global.false) some) (c.dismiss_by.ensures.takes h s)

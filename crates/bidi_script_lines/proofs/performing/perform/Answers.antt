use Rattle.std.proofs.Common.{◌∙◌, sym, ap}
use Rattle.bidi_script_lines.specs.ScriptLines.{Answer, Hold, ReleaseWith, Unanswer, Emit, On, Names, Refuse}
use Rattle.bidi_script_lines.specs.View.{said_by}
use Rattle.bidi_script_lines.proofs.PerformLemmas.{brings-as}
use Rattle.bidi_script_lines.proofs.performing.perform.Goals as goal

pub returns-in-Answer-clause-brings : goal.returns-in-Answer-clause-brings
returns-in-Answer-clause-brings c = λ h s.
    brings-as (Answer c.as_str.result.now) _ h c.args.end.now c.answer.new.end c.answer.result (ap Answer c.as_str.ensures.value ∙ sym (ap said_by c.in-Answer.is)) (c.answer.ensures.brings h)

pub returns-in-Hold-clause-brings : goal.returns-in-Hold-clause-brings
returns-in-Hold-clause-brings c = λ h s.
    brings-as (Hold c.as_str-in-Hold.result.now) _ h c.args.end.now c.hold.new.end c.hold.result (ap Hold c.as_str-in-Hold.ensures.value ∙ sym (ap said_by c.in-Hold.is)) (c.hold.ensures.brings h)

pub returns-in-Unanswer-clause-brings : goal.returns-in-Unanswer-clause-brings
returns-in-Unanswer-clause-brings c = λ h s.
    brings-as (Unanswer c.as_str-in-Unanswer.result.now) _ h c.args.end.now c.unanswer.new.end c.unanswer.result (ap Unanswer c.as_str-in-Unanswer.ensures.value ∙ sym (ap said_by c.in-Unanswer.is)) (c.unanswer.ensures.brings h)

pub returns-in-ReleaseWith-clause-brings : goal.returns-in-ReleaseWith-clause-brings
returns-in-ReleaseWith-clause-brings c = λ h s.
    brings-as (ReleaseWith c.in-ReleaseWith.number.value c.as_str-in-ReleaseWith.result.now) _ h c.args.end.now c.release_with.new.end c.release_with.result (ap (ReleaseWith c.in-ReleaseWith.number.value) c.as_str-in-ReleaseWith.ensures.value ∙ sym (ap said_by c.in-ReleaseWith.is)) (c.release_with.ensures.brings h s)

pub returns-in-Emit-clause-brings : goal.returns-in-Emit-clause-brings
returns-in-Emit-clause-brings c = λ h s.
    brings-as (Emit c.as_str-in-Emit.result.now) _ h c.args.end.now c.args.end.now c.emit.result (ap Emit c.as_str-in-Emit.ensures.value ∙ sym (ap said_by c.in-Emit.is)) (c.emit.ensures.brings h s)

pub returns-in-On-clause-brings : goal.returns-in-On-clause-brings
returns-in-On-clause-brings c = λ h s.
    brings-as (On c.as_str-in-On.result.now c.as_str-in-On-2.result.now) _ h c.args.end.now c.follow.new.end c.follow.result ((λ i. On (c.as_str-in-On.ensures.value i) (c.as_str-in-On-2.ensures.value i)) ∙ sym (ap said_by c.in-On.is)) (c.follow.ensures.brings h)

pub returns-in-Names-clause-brings : goal.returns-in-Names-clause-brings
returns-in-Names-clause-brings c = λ h s.
    brings-as (Names c.as_str-in-Names.result.now) _ h c.args.end.now c.know.new.end c.know.result (ap Names c.as_str-in-Names.ensures.value ∙ sym (ap said_by c.in-Names.is)) (c.know.ensures.brings h)

pub returns-in-Refuse-clause-brings : goal.returns-in-Refuse-clause-brings
returns-in-Refuse-clause-brings c = λ h s.
    brings-as (Refuse c.in-Refuse.number.value c.in-Refuse.code.value) _ h c.args.end.now c.args.end.now c.refuse.result (sym (ap said_by c.in-Refuse.is)) (c.refuse.ensures.brings h c.args.end.now)

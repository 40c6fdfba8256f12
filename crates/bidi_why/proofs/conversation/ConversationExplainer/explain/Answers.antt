use Rattle.std.proofs.Common.{None, [], option_map, refl, subst}
use Rattle.bidi_remarks.specs.Remark.{remark_of}
use Rattle.bidi_why.specs.Conversing.{HearsLine}
use Rattle.bidi_why.specs.Explainers.{standing_of}
use Rattle.bidi_why.proofs.ConversationLemmas.{conversed_if, conversed_more}
use Rattle.bidi_why.proofs.conversation.ConversationExplainer.explain.Goals as goal

pub returns-in-Some : goal.returns-in-Some
returns-in-Some c first lines text told is p counted at =
    let heard = subst (λ o. HearsLine c.args.number (standing_of c.args.self.now) is (option_map remark_of o) (standing_of c.hear_line.new.self)) c.in-Some.is
    (c.in_ok-remark.ensures.heard is at) in
    conversed_if first c.args.self.now c.hear_line.new.self c.args.number lines is text told (remark_of c.in-Some.remark) c.told_if.result p counted
    c.in_ok-remark.ensures.form c.in_ok-remark.ensures.only heard c.told_if.ensures.text c.told_if.ensures.entries

pub returns-in-None : goal.returns-in-None
returns-in-None c first lines text told is p counted at =
    let heard = subst (λ o. HearsLine c.args.number (standing_of c.args.self.now) is (option_map remark_of o) (standing_of c.hear_line.new.self)) c.in-None.is
    (c.in_ok-remark.ensures.heard is at) in
    conversed_more first c.args.self.now c.hear_line.new.self c.args.number lines is text [] told [] None p counted c.in_ok-remark.ensures.form
    c.in_ok-remark.ensures.only heard refl refl

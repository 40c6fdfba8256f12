use Rattle.std.proofs.Common.{refl}
use Rattle.bidi_cddl.proofs.RuleLemmas.{rule_added}
use Rattle.bidi_cddl.specs.declared.written.Rule.{Rule}
use Rattle.bidi_cddl.specs.declared.written.Written.{Written}
use Rattle.bidi_cddl.proofs.rules.add_rule.Goals as goal

pub returns : goal.returns
returns c =
    let old = c.args.written.now in
    let d = c.args.definition.now in
    let r : Rule = record { name = d.name; body = d.body; at = d.at } in
    let new : Written = record { nodes = old.nodes; places = old.places; rules = c.push.new.self } in
    rule_added old new d r c.requires refl c.in_ok-push.ensures.items refl

use Rattle.std.proofs.Common.{◌≡◌, ap, refl, set}
use Rattle.std.specs.Vec.{with_item}
use Rattle.bidi_cddl.proofs.RuleLemmas.{rule_changed}
use Rattle.bidi_cddl.specs.declared.written.Rule.{Rule}
use Rattle.bidi_cddl.specs.declared.written.Written.{Written}
use Rattle.bidi_cddl.proofs.rules.add_to_rule.Goals as goal

pub returns : goal.returns
returns c =
    let old = c.args.written.now in
    let mid = c.joined.new.written in
    let j = c.in_ok-body.ensures in
    let i = c.args.found.place in
    let r = c.args.found.rule in
    let e = c.in_ok-body.body in
    let q : Rule = record { name = r.name; body = e; at = r.at } in
    let new : Written = record { nodes = mid.nodes; places = mid.places; rules = with_item mid.rules i q } in
    let changed : new.rules.items ≡ set old.rules.items i q = ap (λ v. set v.items i q) j.1.1.1 in
    rule_changed old new c.args.definition.now i r q e j.0 c.requires.0 c.requires.1 j.1.0 j.1.1.0 changed refl

use Rattle.std.proofs.Common.{◌≡◌, ◌+◌, ◌-◌, arith, drop, map, subst, sym}
use Rattle.bidi_cddl.specs.Definition.{DefinitionsRead, definition_of}
use Rattle.bidi_cddl.specs.Steps.{tokens_of}
use Rattle.bidi_cddl.proofs.ReadLemmas.{holds, no_more, one_before}
use Rattle.bidi_cddl.proofs.definition_steps.are_definitions.Goals as goal

pub loop-left-init : goal.loop-left-init
loop-left-init c = record { read = λ nodes all. no_more nodes c.args.definitions.now c.args.tokens.now; within = omega arith }

pub loop-left-preserved : goal.loop-left-preserved
loop-left-preserved c =
    let ts = tokens_of c.args.tokens.now in
    let d = c.in-Some.definition in
    let at : c.loop-left.left - 1 + 1 ≡ c.loop-left.left = omega arith in
    record {
      read = λ nodes all. one_before nodes c.args.definitions.now (c.loop-left.left - 1) c.loop-left.left d ts c.loop-left.to at (sym c.in-Some.ensures)
          (c.is_definition.ensures (holds c.is_definition.result c.if-not-is_definition.false) nodes all) (c.loop-left.invariant.read nodes all);
      within = omega arith;
    }

pub returns : goal.returns
returns c = λ right nodes all.
    let defs = c.args.definitions.now in
    let ts = tokens_of c.args.tokens.now in
    let none : c.loop-left.left ≡ 0 = omega arith in
    let start : c.loop-left.to ≡ 0 = omega arith in
    subst (λ k. DefinitionsRead nodes (map definition_of defs) (drop k ts)) start
    (subst (λ k. DefinitionsRead nodes (map definition_of (drop k defs)) (drop c.loop-left.to ts)) none (c.loop-left.invariant.read nodes all))

use Rattle.std.proofs.Common.{None, Some, option_map}
use Rattle.bidi_tree.specs.Outline.{outline_node}
use Rattle.bidi_rules.specs.Names.{name_of}
use Rattle.bidi_remarks.specs.Trouble.{HasFaultInRest, misfit_of}
use Rattle.bidi_remarks.proofs.RestLemmas.{told_beyond, told_first, told_rest}
use Rattle.bidi_remarks.proofs.misfit.first_fault.Goals as goal

pub returns-then-not-first : goal.returns-then-not-first
returns-then-not-first c = λ r blamed e.
    told_first (name_of c.args.name) (option_map (λ n. n.value) c.args.id) (option_map (λ s. s.now) c.args.method) (outline_node c.args.tree.now) r (misfit_of c.args.first) c.if-not-first.true blamed e

pub returns-in-Some : goal.returns-in-Some
returns-in-Some c = λ r blamed e.
    let rest : HasFaultInRest (name_of c.args.name) (option_map (λ n. n.value) c.args.id) (option_map (λ s. s.now) c.args.method) (outline_node c.args.tree.now) (Some (misfit_of c.in-Some.fault)) = rw c.in-Some.is at c.in_ok-found.ensures in
    told_rest (name_of c.args.name) (option_map (λ n. n.value) c.args.id) (option_map (λ s. s.now) c.args.method) (outline_node c.args.tree.now) r (misfit_of c.args.first) (misfit_of c.in-Some.fault) c.if-not-first.false rest blamed e

pub returns-in-None : goal.returns-in-None
returns-in-None c = λ r blamed e.
    let rest : HasFaultInRest (name_of c.args.name) (option_map (λ n. n.value) c.args.id) (option_map (λ s. s.now) c.args.method) (outline_node c.args.tree.now) None = rw c.in-None.is at c.in_ok-found.ensures in
    told_beyond (name_of c.args.name) (option_map (λ n. n.value) c.args.id) (option_map (λ s. s.now) c.args.method) (outline_node c.args.tree.now) r (misfit_of c.args.first) c.if-not-first.false rest blamed e

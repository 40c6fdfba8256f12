use Rattle.bidi_tree.specs.Outline.{outline_node}
use Rattle.bidi_shape.specs.Term.{rule}
use Rattle.bidi_blame.specs.Blames.{Blames}
use Rattle.bidi_rules.specs.Names.{name_of}
use Rattle.bidi_blame.specs.View.{draft_of}
use Rattle.bidi_blame.proofs.ExclusionLemmas.{excludes}
use Rattle.bidi_blame.proofs.blaming.blame.Goals as goal

pub returns-clause-excludes : goal.returns-clause-excludes
returns-clause-excludes c =
    let b : Blames (outline_node c.args.tree.now) (rule (name_of c.args.name)) (draft_of c.fits_rule.new.draft) = rw c.if-branch.false at c.in_ok-fits_rule.ensures in
    λ f. excludes b f

use Rattle.std.proofs.Common.{sym, subst}
use Rattle.bidi_tree.specs.Node.{IsWritable}
use Rattle.bidi_tree.specs.View.{node}
use Rattle.bidi_lenient.proofs.WritableLemmas.{writable-eased}
use Rattle.bidi_lenient.proofs.easing.text_of.Goals as goal

pub write-requires : goal.write-requires
write-requires c = subst IsWritable (sym c.in_ok-eased.ensures) (writable-eased c.args.method (node c.args.command.now) c.requires)

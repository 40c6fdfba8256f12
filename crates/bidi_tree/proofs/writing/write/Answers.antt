use Rattle.bidi_tree.proofs.RoundTrip.{tree_of-compact_text}
use Rattle.bidi_tree.proofs.writing.write.Goals as goal

pub returns-clause-law : goal.returns-clause-law
returns-clause-law c = tree_of-compact_text

pub returns-in_err-outline-clause-law : goal.returns-in_err-outline-clause-law
returns-in_err-outline-clause-law c = tree_of-compact_text

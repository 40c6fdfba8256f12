use Rattle.std.proofs.Common.{length}
use Rattle.bidi_grammar.proofs.draft.+is_same_place.Given as goal

abbrev pub decreases-is_same_place : goal.decreases-is_same_place
decreases-is_same_place l = length l.steps.now

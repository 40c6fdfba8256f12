-- What is left to do: the brackets that may be opened, then the parts of what is read.
use Rattle.std.proofs.Common.{◌+◌, ◌*◌}
use Rattle.bidi_cddl.proofs.parser.Parser.+parse.Given as goal

abbrev pub decreases-between : goal.decreases-between
decreases-between l = 16 * l.depth

abbrev pub decreases-parenthesized : goal.decreases-parenthesized
decreases-parenthesized l = 16 * l.depth

abbrev pub decreases-bracketed : goal.decreases-bracketed
decreases-bracketed l = 16 * l.depth + 1

abbrev pub decreases-type2 : goal.decreases-type2
decreases-type2 l = 16 * l.depth + 2

abbrev pub decreases-type1 : goal.decreases-type1
decreases-type1 l = 16 * l.depth + 3

abbrev pub decreases-a_type : goal.decreases-a_type
decreases-a_type l = 16 * l.depth + 4

abbrev pub decreases-bare : goal.decreases-bare
decreases-bare l = 16 * l.depth + 5

abbrev pub decreases-entry : goal.decreases-entry
decreases-entry l = 16 * l.depth + 6

abbrev pub decreases-alternative : goal.decreases-alternative
decreases-alternative l = 16 * l.depth + 7

abbrev pub decreases-group : goal.decreases-group
decreases-group l = 16 * l.depth + 8

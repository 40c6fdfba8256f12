-- What was found stands before the tokens of the bytes that are left.
use Rattle.std.proofs.Common.{◌≡◌, drop, map}
use Rattle.bidi_cddl.specs.Token.{placed_of}
use Rattle.bidi_cddl.specs.Tokens.{placed_tokens, tokens_from}
use Rattle.bidi_cddl.proofs.TokenLemmas.{behind}
use Rattle.bidi_cddl.proofs.tokens.tokens.Given as goal

abbrev pub invariant-loop-at : goal.invariant-loop-at
invariant-loop-at l = behind (map placed_of l.found.items) (tokens_from l.at l.left (drop l.at l.text)) ≡ placed_tokens l.text

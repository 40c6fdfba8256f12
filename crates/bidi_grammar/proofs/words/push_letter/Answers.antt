use Rattle.std.proofs.Common.{rules}
use Rattle.bidi_grammar.proofs.WordLemmas.{escaped-encode_utf8}
use Rattle.bidi_grammar.proofs.words.push_letter.Goals as goal

pub returns-else-letter-eq47 : goal.returns-else-letter-eq47
returns-else-letter-eq47 c = rw (escaped-encode_utf8 c.args.letter c.if-letter-eq126.false c.if-letter-eq47.false) (search rules)

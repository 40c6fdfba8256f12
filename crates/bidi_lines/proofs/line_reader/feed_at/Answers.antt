use Rattle.bidi_lines.proofs.FeedLemmas.{feed_found}
use Rattle.bidi_lines.proofs.line_reader.feed_at.Goals as goal

pub returns : goal.returns
returns c = feed_found c.args.bytes.now c.memchr.result c.memchr.ensures

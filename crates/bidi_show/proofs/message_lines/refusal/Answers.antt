use Rattle.bidi_show.proofs.MessageLineLemmas.{verdict_refused}
use Rattle.bidi_show.proofs.message_lines.refusal.Goals as goal

pub returns-in_ok-verdict-in-Local : goal.returns-in_ok-verdict-in-Local
returns-in_ok-verdict-in-Local c =
    verdict_refused c.args.side c.args.line.now _ c.verdict_refusal.result c.in-Local.is c.in_ok-verdict-in-Local.ensures.verdict c.verdict_refusal.ensures

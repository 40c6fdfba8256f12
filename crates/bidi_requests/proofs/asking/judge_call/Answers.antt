use Rattle.std.proofs.Common.{subst}
use Rattle.bidi_requests.specs.Bodies.{IsChunkedAs}
use Rattle.bidi_requests.proofs.AskingLemmas.{chunks-asked, framing-asked, part-asked}
use Rattle.bidi_requests.proofs.asking.judge_call.Goals as goal

pub returns-in-Part : goal.returns-in-Part
returns-in-Part c =
    part-asked c.args.bytes.now c.args.spans.now c.args.request.now c.requires.head.0 c.requires.head.1 c.requires.short c.requires.call c.split_at.result.1.now c.split_at.ensures.back
    c.in-Chunked.ensures (subst (IsChunkedAs c.split_at.result.1.now) c.in-Part.is c.in_ok-read_chunked-in-Chunked.ensures)

pub returns-in-Refused-2 : goal.returns-in-Refused-2
returns-in-Refused-2 c =
    chunks-asked c.args.bytes.now c.args.spans.now c.args.request.now c.requires.head.0 c.requires.head.1 c.requires.short c.requires.call c.split_at.result.1.now c.split_at.ensures.back
    c.in-Chunked.ensures c.in-Refused-2.answer (subst (IsChunkedAs c.split_at.result.1.now) c.in-Refused-2.is c.in_ok-read_chunked-in-Chunked.ensures)

pub returns-in-Refused : goal.returns-in-Refused
returns-in-Refused c =
    framing-asked c.args.bytes.now c.args.spans.now c.args.request.now c.requires.head.0 c.requires.head.1 c.requires.short c.requires.call c.in-Refused.answer c.in-Refused.ensures

use Rattle.std.proofs.Common.{subst}
use Rattle.bidi_requests.specs.Requests.{IsRefusedBy}
use Rattle.bidi_requests.proofs.AskingLemmas.{begins, refused-asked, spanned-head}
use Rattle.bidi_requests.proofs.asking.judge_request.Goals as goal

pub returns-in-Other : goal.returns-in-Other
returns-in-Other c =
    let h = c.requires.head.0 in
    let at = c.requires.head.1 in
    refused-asked c.args.bytes.now h c.in-Other.answer (begins c.args.bytes.now c.args.spans.now c.args.request.now h at c.requires.short)
    (subst (λ r. IsRefusedBy r c.in-Other.answer) (spanned-head c.args.bytes.now c.args.spans.now c.args.request.now h at) c.in-Other.ensures)

use Rattle.std.proofs.Common.{subst}
use Rattle.bidi_requests.specs.Requests.{AreValues, codings, lengths, spanned_request}
use Rattle.bidi_requests.proofs.AskingLemmas.{sized-framed}
use Rattle.bidi_requests.proofs.calling.framing_of.Goals as goal

pub returns-in-None-One : goal.returns-in-None-One
returns-in-None-One c =
    let r = spanned_request c.args.bytes.now c.args.spans.now c.args.request.now in
    sized-framed r c.in-None-One.length.now c.sized.result (subst (AreValues (codings r)) c.in-None-One.is-0 c.values_of-codings.ensures)
    (subst (AreValues (lengths r)) c.in-None-One.is-1 c.values_of-lengths.ensures) c.sized.ensures

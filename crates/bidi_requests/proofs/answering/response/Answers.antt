use Rattle.bidi_requests.proofs.answering.response.Goals as goal

pub returns : goal.returns
returns c = c.format.ensures.ok

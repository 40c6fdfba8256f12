use Rattle.std.proofs.Common.{◌∙◌, sym, ap}
use Rattle.std.specs.Prelude.{◌==◌, find}
use Rattle.bidi_sessions.specs.Attachment.{opened_for}
use Rattle.bidi_sessions.proofs.ConnectionLemmas.{attachment_found, found-row}
use Rattle.bidi_sessions.proofs.connections.Connections.attachment_of.Goals as goal

pub returns-in-None : goal.returns-in-None
returns-in-None c =
    let n = c.args.number.value in
    ap attachment_found (sym c.in-None.is ∙ (c.find.ensures ∙ ap (find (λ x. x.number.value == n)) c.deref.ensures.value))
    ∙ found-row n c.args.self.now.«open».items

pub returns-in-None-session : goal.returns-in-None-session
returns-in-None-session c =
    let n = c.args.number.value in
    ap opened_for (sym c.in-None-session.is)
    ∙ (ap attachment_found (sym c.in-Some.is ∙ (c.find.ensures ∙ ap (find (λ x. x.number.value == n)) c.deref.ensures.value))
    ∙ found-row n c.args.self.now.«open».items)

pub returns-in-Some-session : goal.returns-in-Some-session
returns-in-Some-session c =
    let n = c.args.number.value in
    ap opened_for (sym c.in-Some-session.is)
    ∙ (ap attachment_found (sym c.in-Some.is ∙ (c.find.ensures ∙ ap (find (λ x. x.number.value == n)) c.deref.ensures.value))
    ∙ found-row n c.args.self.now.«open».items)

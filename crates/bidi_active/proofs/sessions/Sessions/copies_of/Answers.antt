use Rattle.std.proofs.Common.{◌∙◌, sym, length, map}
use Rattle.std.proofs.lemmas.List.{length-map}
use Rattle.bidi_active.specs.SessionView.{session_row_of}
use Rattle.bidi_active.proofs.CopyLemmas.{copies-written}
use Rattle.bidi_active.proofs.sessions.Sessions.copies_of.Goals as goal

pub returns : goal.returns
returns c =
    let active = c.args.self.now.active in
    copies-written c.from_elem.result c.in_ok-clone.field-0 c.args.entry.now _ (length (map session_row_of active.items))
    c.from_elem.ensures.items c.from_elem.ensures.len c.in_ok-clone.ensures.cases
    (c.len.ensures ∙ (active.ok.0 ∙ sym (length-map active.items session_row_of)))

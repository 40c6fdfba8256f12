use Rattle.bidi_handles.proofs.id.is_id.Goals as goal

pub returns : goal.returns
returns c = rw (← c.id_of.ensures, ← c.hyphenated.ensures, ← c.encode_lower-id.ensures.text) c.eq.ensures

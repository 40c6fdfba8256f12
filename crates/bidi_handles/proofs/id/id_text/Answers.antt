use Rattle.bidi_handles.proofs.id.id_text.Goals as goal

pub returns : goal.returns
returns c = rw (← c.id_of.ensures, ← c.hyphenated.ensures, ← c.encode_lower-text.ensures.text) c.from_str.ensures.ok

use Rattle.std.proofs.Common.{◌∙◌, sym, string_bytes}
use Rattle.std.specs.Prelude.{bytes_eq}
use Rattle.bidi_sessions.proofs.ListLemmas.{any-map}
use Rattle.bidi_names.proofs.names.is_one.Goals as goal

pub returns : goal.returns
returns c = c.is_same_as_one.ensures ∙ sym (any-map string_bytes (bytes_eq c.args.text.now) c.args.texts.now)

use Rattle.std.proofs.Common.{◌∙◌, sym, string_bytes}
use Rattle.bidi_sessions.proofs.ListLemmas.{any-map}
use Rattle.bidi_names.specs.Names.{makes_known}
use Rattle.bidi_names.proofs.names.is_known_by.Goals as goal

pub returns : goal.returns
returns c = c.is_made_known.ensures ∙ sym (any-map string_bytes (λ by. makes_known by c.args.name.now) c.args.known.now)

use Rattle.std.proofs.Common.{◌∙◌, sym, string_bytes}
use Rattle.bidi_sessions.proofs.ListLemmas.{any-map}
use Rattle.bidi_names.specs.Names.{is_or_in}
use Rattle.bidi_names.proofs.subscriptions.has_name.Goals as goal

pub returns : goal.returns
returns c = c.is_of_one.ensures ∙ sym (any-map string_bytes (is_or_in c.args.name.now) c.args.names.now)

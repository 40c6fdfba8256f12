use Rattle.std.proofs.Common.{◌∙◌, ◌&&◌, sym}
use Rattle.std.specs.Prelude.{◌==◌, bytes_eq}
use Rattle.std.specs.List.{list_any}
use Rattle.bidi_sessions.specs.Scope.{is_global}
use Rattle.bidi_sessions.proofs.ListLemmas.{any-map}
use Rattle.bidi_names.specs.Subscriptions.{Named, named_of}
use Rattle.bidi_names.proofs.subscriptions.is_global.Goals as goal

pub returns : goal.returns
returns c =
    c.has_global.ensures
    ∙ sym (any-map named_of (λ (n : Named). (n.session == c.args.session) && (is_global n.scope && list_any (bytes_eq c.args.name.now) n.names))
    c.args.subscriptions.now)

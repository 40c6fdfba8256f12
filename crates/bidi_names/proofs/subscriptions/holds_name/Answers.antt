use Rattle.std.proofs.Common.{◌∙◌, ◌&&◌, sym}
use Rattle.std.specs.Prelude.{◌==◌}
use Rattle.bidi_sessions.proofs.ListLemmas.{any-map}
use Rattle.bidi_names.specs.Subscriptions.{Named, named_of, has_name, is_within}
use Rattle.bidi_names.proofs.subscriptions.holds_name.Goals as goal

pub returns : goal.returns
returns c =
    c.is_reached.ensures
    ∙ sym (any-map named_of (λ (n : Named). (n.session == c.args.session) && (has_name n c.args.name.now && is_within n.scope c.args.top))
    c.args.subscriptions.now)

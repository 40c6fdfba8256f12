use Rattle.std.proofs.Common.{◌∙◌, ap, rules}
use Rattle.std.specs.Prelude.{◌==◌, not, map}
use Rattle.std.proofs.lemmas.Fn.{filter_same}
use Rattle.bidi_scripted.specs.View.{held_of}
use Rattle.bidi_sessions.proofs.ListLemmas.{map-filter}
use Rattle.bidi_scripted.proofs.script.release.Goals as goal

pub returns : goal.returns
returns c =
    ap (map held_of) (filter_same _ _ _ (λ x b f' k. search rules) _ _ c.retain.ensures.filtered)
    ∙ map-filter held_of (λ h. not (h.number == c.args.number)) c.args.held.now.items

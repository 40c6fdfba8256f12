use Rattle.std.proofs.Common.{◌∙◌, option_map, sym, ap}
use Rattle.std.specs.Prelude.{◌==◌, find}
use Rattle.bidi_scripted.specs.View.{held_of}
use Rattle.bidi_sessions.proofs.ListLemmas.{find-seen, map-now}
use Rattle.bidi_scripted.proofs.script.Script.held.Goals as goal

pub returns : goal.returns
returns c =
    map-now held_of (λ h. h.now) c.held.result
    ∙ (ap (option_map held_of) (c.held.ensures ∙ ap (find (λ h. h.number == c.args.number)) c.deref.ensures.value)
    ∙ sym (find-seen held_of (λ h. h.number == c.args.number) c.args.self.now.held.items))

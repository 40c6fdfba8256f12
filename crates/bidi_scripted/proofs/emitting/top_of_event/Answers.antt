use Rattle.std.proofs.Common.{◌≡◌, Option, String, Global, string_bytes, sym, subst}
use Rattle.std.specs.Prelude.{IfOk, option_map, option_and_then}
use Rattle.bidi_remote.specs.Machine.History.{acts}
use Rattle.bidi_remote.specs.Machine.Asking.{top_named}
use Rattle.bidi_remote.specs.Machine.Outcome.{deeds}
use Rattle.bidi_scripted.proofs.emitting.top_of_event.Goals as goal

pub returns-in-Some-clause-top : goal.returns-in-Some-clause-top
returns-in-Some-clause-top c = λ h s.
    let past = acts (deeds h) in
    subst (λ (o : Option (String Global)). IfOk c.top_at.result (λ top. top ≡ option_and_then (top_named past) (option_map string_bytes o))) (sym c.in-Some.is)
    (subst (λ bs. IfOk c.top_at.result (λ top. top ≡ top_named past bs)) c.as_str.ensures.value (c.top_at.ensures.ok h s))

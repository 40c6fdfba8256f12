use Rattle.std.proofs.Common.{◌∙◌, ◌++◌, map, flat_map, ap₂}
use Rattle.std.specs.Prelude.{filter}
use Rattle.bidi_rows.specs.View.{event_of}
use Rattle.bidi_remote.specs.Machine.Connections.{connections_of}
use Rattle.bidi_remote.specs.Machine.Outcome.{deeds}
use Rattle.bidi_remote.specs.Machine.Sent.{Text}
use Rattle.bidi_sessions.specs.View.{sent_of}
use Rattle.bidi_names.specs.Subscriptions.{named_of}
use Rattle.bidi_names.specs.Names.{event_named}
use Rattle.bidi_scripted.specs.Sending.{reaches}
use Rattle.bidi_scripted.proofs.emitting.push_event.Goals as goal

pub returns-clause-sends : goal.returns-clause-sends
returns-clause-sends c = λ h s.
    let e = event_of c.args.event.now in
    c.in_ok-push_reached.ensures h s
    ∙ ap₂ (λ top ss. map sent_of c.args.sent.now.items ++ flat_map (λ n. map (λ k. Text k e.text) (connections_of (deeds h) n))
    (filter (reaches (deeds h) (map named_of c.args.named.now) e.method (event_named e.method) top) ss))
    (c.in_ok-top.ensures.top h s) (c.deref.ensures.value ∙ c.in_ok-sessions.ensures h s)

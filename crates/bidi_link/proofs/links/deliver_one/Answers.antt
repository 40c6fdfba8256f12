use Rattle.std.proofs.Common.{◌∙◌, sym, ap}
use Rattle.bidi_remote.specs.Machine.Sent.{Text}
use Rattle.bidi_sessions.specs.View.{sent_of, text_of}
use Rattle.bidi_link.proofs.TableLemmas.{delivered-some, delivered-none}
use Rattle.bidi_link.proofs.links.deliver_one.Goals as goal

pub returns-in_ok-into_string-in-Some-clause-rows : goal.returns-in_ok-into_string-in-Some-clause-rows
returns-in_ok-into_string-in-Some-clause-rows c =
    delivered-some c.push_down.result c.in-Text.conn.value _ (sent_of c.args.sent) c.push_down.new.self
    c.in-Some.link.now c.args.links.now.entries (c.get_mut.follows.lender c.push_down.new.self).entries
    (ap sent_of c.in-Text.is ∙ ap (Text c.in-Text.conn.value) (sym c.in_ok-into_string-in-Some.ensures))
    c.in-Some.ensures.value (c.get_mut.follows.holds c.push_down.new.self).0 c.in-Some.ensures.unique c.push_down.ensures

pub returns-in-None-clause-rows : goal.returns-in-None-clause-rows
returns-in-None-clause-rows c =
    delivered-none c.in-Text.conn.value (text_of c.in-Text.text) (sent_of c.args.sent) c.args.links.now.entries
    c.get_mut.follows.lender-at-none.entries (ap sent_of c.in-Text.is) c.in-None.ensures.value (ap (λ m. m.entries) c.get_mut.follows.holds-at-none)

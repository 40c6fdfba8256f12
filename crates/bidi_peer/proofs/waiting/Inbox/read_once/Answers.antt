use Rattle.std.proofs.Common.{rules, ◌∙◌, ap, take}
use Rattle.std.proofs.lemmas.List.{places, with_items_is}
use Rattle.std.specs.Prelude.{slice_range}
use Rattle.bidi_peer.proofs.WaitingLemmas.{kept-front}
use Rattle.bidi_peer.proofs.waiting.Inbox.read_once.Goals as goal

pub returns-clause-same : goal.returns-clause-same
returns-clause-same g c =
    let i = c.args.self.now in
    let front = c.read_behind.ensures.front ∙ ap (take i.end) c.as_mut_slice.ensures.value in
    ap (λ l. slice_range l i.start i.end) (with_items_is i.bytes c.read_behind.new.bytes (search (rules, places)))
    ∙ kept-front i.bytes.items c.read_behind.new.bytes i.start i.end i.ordered front

pub returns-clause-ok : goal.returns-clause-ok
returns-clause-ok g c = rw (with_items_is c.args.self.now.bytes c.read_behind.new.bytes (search (rules, places))) c.read_behind.ensures.ok

use Rattle.bidi_messages.proofs.EntryLemmas.{source-text, lone-text, on-same}
use Rattle.bidi_messages.proofs.straight_entry.push_source.Goals as goal

pub returns-in-Some : goal.returns-in-Some
returns-in-Some c =
    on-same c.push_members.result _ _ _ _ (source-text c.args.source.now c.in-Some.context c.deref.result.now c.deref-in-Some.result.now c.in-Some.is
    c.deref.ensures c.deref-in-Some.ensures c.requires.context c.requires.realm) c.push_members.ensures

pub returns-in-None : goal.returns-in-None
returns-in-None c =
    on-same c.push_realm.result _ _ _ _ (lone-text c.args.source.now c.deref-in-None.result.now c.in-None.is c.deref-in-None.ensures c.requires.realm)
    c.push_realm.ensures

use Rattle.bidi_messages.proofs.StraightLemmas.{realm-text, realm-sound}
use Rattle.bidi_messages.proofs.straight.append_realm.Goals as goal

pub returns-clause-text : goal.returns-clause-text
returns-clause-text c =
    realm-text c.args.info.now _ _ _ _ _ _ _ _ c.deref.result.now c.deref-2.result.now c.deref-3.result.now c.requires.alone c.requires.context
    c.requires.origin c.requires.realm c.in_ok-push_str.ensures.bytes c.in_ok-push_str-2.ensures.bytes c.in_ok-push_str-3.ensures.bytes
    c.in_ok-push_str-4.ensures.bytes c.in_ok-push_str-5.ensures.bytes c.in_ok-push_str-6.ensures.bytes c.in_ok-push_str-7.ensures.bytes
    c.deref.ensures c.deref-2.ensures c.deref-3.ensures

pub returns-clause-sound : goal.returns-clause-sound
returns-clause-sound c = realm-sound c.args.info.now c.requires.alone

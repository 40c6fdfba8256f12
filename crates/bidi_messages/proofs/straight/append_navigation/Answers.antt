use Rattle.bidi_messages.proofs.StraightLemmas.{navigation-text, navigation-sound}
use Rattle.bidi_messages.proofs.straight.append_navigation.Goals as goal

pub returns-clause-text : goal.returns-clause-text
returns-clause-text c =
    navigation-text c.args.info.now _ _ _ _ _ _ _ _ _ _ c.deref.result.now c.format.result.now c.deref-2.result.now c.requires.alone c.requires.context
    c.requires.url c.in_ok-push_str.ensures.bytes c.in_ok-push_str-2.ensures.bytes c.in_ok-push_str-3.ensures.bytes c.in_ok-push_nullable.ensures
    c.in_ok-push_str-4.ensures.bytes c.in_ok-push_str-5.ensures.bytes c.in_ok-push_str-6.ensures.bytes c.in_ok-push_str-7.ensures.bytes
    c.in_ok-push_str-8.ensures.bytes c.deref.ensures c.format.ensures.text c.deref-2.ensures

pub returns-clause-sound : goal.returns-clause-sound
returns-clause-sound c = navigation-sound c.args.info.now c.requires.alone

use Rattle.bidi_messages.proofs.StraightLemmas.{navigated-text, navigated-sound}
use Rattle.bidi_messages.proofs.straight.append_navigated.Goals as goal

pub returns-clause-text : goal.returns-clause-text
returns-clause-text c =
    navigated-text c.args.navigated.now _ _ _ _ _ _ c.deref.result.now c.requires.alone c.requires.url c.in_ok-push_str.ensures.bytes
    c.in_ok-push_nullable.ensures c.in_ok-push_str-2.ensures.bytes c.in_ok-push_str-3.ensures.bytes c.in_ok-push_str-4.ensures.bytes c.deref.ensures

pub returns-clause-sound : goal.returns-clause-sound
returns-clause-sound c = navigated-sound c.args.navigated.now c.requires.alone

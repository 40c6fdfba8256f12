use Rattle.std.proofs.Common.{refl}
use Rattle.bidi_messages.proofs.EntryLemmas.{entry-text, entry-sound, args-writable}
use Rattle.bidi_messages.proofs.straight_entry.append_console.Goals as goal

pub append_args-requires : goal.append_args-requires
append_args-requires c = args-writable c.args.entry.now _ c.requires.alone refl c.requires.writable

pub returns-clause-text : goal.returns-clause-text
returns-clause-text c =
    entry-text c.args.entry.now _ _ _ _ _ _ _ _ _ _ _ _ _ _ c.name.result.now c.deref.result.now c.format.result.now _ c.requires.alone c.requires.method
    c.in_ok-push_str.ensures.bytes c.in_ok-text.ensures.text c.in_ok-push_str-2.ensures.bytes c.in_ok-push_str-3.ensures.bytes c.in_ok-push_str-4.ensures.bytes
    c.in_ok-push_str-5.ensures.bytes c.in_ok-push_str-6.ensures.bytes c.in_ok-push_source.ensures c.in_ok-push_str-7.ensures.bytes
    c.in_ok-push_nullable.ensures c.in_ok-push_str-8.ensures.bytes c.in_ok-push_str-9.ensures.bytes c.in_ok-push_str-10.ensures.bytes
    refl c.name.ensures c.deref.ensures c.format.ensures.text

pub returns-clause-sound : goal.returns-clause-sound
returns-clause-sound c = entry-sound c.args.entry.now _ c.requires.alone refl c.in_ok-text.ensures.sound

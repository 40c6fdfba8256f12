use Rattle.std.proofs.Common.{◌≡◌, ◌++◌, string_bytes, IfOk, refl, sym, subst}
use Rattle.std.specs.Prelude.{OnOk}
use Rattle.bidi_tree.specs.Node.{IsSound, IsWritable}
use Rattle.bidi_tree.specs.Text.{compact_text}
use Rattle.bidi_tree.proofs.OutlineLemmas.{IsSound-outline_node}
use Rattle.bidi_messages.specs.Payloads.{event_params}
use Rattle.bidi_messages.proofs.StraightLemmas.{if-ok, params-of-navigation, gone-is, one-text}
use Rattle.bidi_messages.proofs.straight.append_params.Goals as goal

pub returns-in-NavigationStarted-clause-text : goal.returns-in-NavigationStarted-clause-text
returns-in-NavigationStarted-clause-text c =
    subst (λ t. IfOk c.append_navigation.result (λ s. string_bytes s ≡ string_bytes c.args.text ++ compact_text t))
    (sym (params-of-navigation c.args.event.now c.in-NavigationStarted.info c.in-NavigationStarted.is)) c.append_navigation.ensures.text

pub returns-in-NavigationStarted-clause-sound : goal.returns-in-NavigationStarted-clause-sound
returns-in-NavigationStarted-clause-sound c =
    subst (λ t. OnOk c.append_navigation.result (IsSound t))
    (sym (params-of-navigation c.args.event.now c.in-NavigationStarted.info c.in-NavigationStarted.is)) c.append_navigation.ensures.sound

pub returns-in-RealmCreated-clause-text : goal.returns-in-RealmCreated-clause-text
returns-in-RealmCreated-clause-text c = rw c.in-RealmCreated.is c.append_realm.ensures.text

pub returns-in-RealmCreated-clause-sound : goal.returns-in-RealmCreated-clause-sound
returns-in-RealmCreated-clause-sound c = rw c.in-RealmCreated.is c.append_realm.ensures.sound

pub returns-in-RealmDestroyed-clause-text : goal.returns-in-RealmDestroyed-clause-text
returns-in-RealmDestroyed-clause-text c =
    rw c.in-RealmDestroyed.is (one-text c.append_one.result (string_bytes c.args.text) _ _ _ _ (gone-is c.in-RealmDestroyed.params (c.if-is_plain.ensures refl).0) c.deref.ensures
    (c.if-is_plain.ensures refl).1 c.append_one.ensures)

pub returns-in-RealmDestroyed-clause-sound : goal.returns-in-RealmDestroyed-clause-sound
returns-in-RealmDestroyed-clause-sound c = rw c.in-RealmDestroyed.is (if-ok c.append_one.result (gone-is c.in-RealmDestroyed.params (c.if-is_plain.ensures refl).0).sound)

pub append_outline-requires : goal.append_outline-requires
append_outline-requires c = subst IsWritable (sym c.in_ok-outline-in_default.ensures) c.requires

pub returns-in_ok-outline-in_default-clause-sound : goal.returns-in_ok-outline-in_default-clause-sound
returns-in_ok-outline-in_default-clause-sound c =
    if-ok c.append_outline.result (subst IsSound c.in_ok-outline-in_default.ensures (IsSound-outline_node c.in_ok-outline-in_default.outline))

pub append_entry-requires : goal.append_entry-requires
append_entry-requires c = subst (λ d. IsWritable (event_params d)) c.in-EntryAdded.is c.requires

pub returns-in-EntryAdded-clause-text : goal.returns-in-EntryAdded-clause-text
returns-in-EntryAdded-clause-text c = rw c.in-EntryAdded.is c.append_entry.ensures.text

pub returns-in-EntryAdded-clause-sound : goal.returns-in-EntryAdded-clause-sound
returns-in-EntryAdded-clause-sound c = rw c.in-EntryAdded.is c.append_entry.ensures.sound

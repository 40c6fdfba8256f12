use Rattle.std.proofs.Common.{◌∙◌, sym, ap}
use Rattle.bidi_contexts.specs.Occurrences.{is_among}
use Rattle.bidi_sessions.specs.SubscriptionView.{scope_of, row_of}
use Rattle.bidi_sessions.proofs.IndexLemmas.{room-below, room-within, row-below, row-within}
use Rattle.bidi_sessions.proofs.event_index.EventIndex.add.Goals as goal

pub put_pairs-requires : goal.put_pairs-requires
put_pairs-requires c =
    let has = sym (ap (λ es. is_among es c.args.self.now.event) c.deref.ensures.value) ∙ (sym c.is_among.ensures ∙ c.if-not-is_among.false) in
    room-below c.args.subscription.now.events.items (scope_of c.args.subscription.now.scope) c.args.self.now c.in-Below.field-0.items c.args.named.now
    (ap scope_of c.in-Below.is) c.requires.order has c.requires.room

pub returns-in-Below : goal.returns-in-Below
returns-in-Below c =
    let has = sym (ap (λ es. is_among es c.args.self.now.event) c.deref.ensures.value) ∙ (sym c.is_among.ensures ∙ c.if-not-is_among.false) in
    row-below (row_of c.args.subscription.now) c.args.self.now.event c.args.self.now.global.items c.args.self.now.below.items
    c.put_pairs.new.pairs.items c.args.self.now.within.items c.in-Below.field-0.items c.args.named.now has (ap scope_of c.in-Below.is) c.requires.order
    c.put_pairs.ensures.added

pub put_pairs-requires-in-Within : goal.put_pairs-requires-in-Within
put_pairs-requires-in-Within c =
    let has = sym (ap (λ es. is_among es c.args.self.now.event) c.deref.ensures.value) ∙ (sym c.is_among.ensures ∙ c.if-not-is_among.false) in
    room-within c.args.subscription.now.events.items (scope_of c.args.subscription.now.scope) c.args.self.now c.in-Within.field-0.items c.args.named.now
    (ap scope_of c.in-Within.is) c.requires.order has c.requires.room

pub returns-in-Within : goal.returns-in-Within
returns-in-Within c =
    let has = sym (ap (λ es. is_among es c.args.self.now.event) c.deref.ensures.value) ∙ (sym c.is_among.ensures ∙ c.if-not-is_among.false) in
    row-within (row_of c.args.subscription.now) c.args.self.now.event c.args.self.now.global.items c.args.self.now.within.items
    c.put_pairs-in-Within.new.pairs.items c.args.self.now.below.items c.in-Within.field-0.items c.args.named.now has (ap scope_of c.in-Within.is) c.requires.order
    c.put_pairs-in-Within.ensures.added

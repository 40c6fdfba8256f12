use Rattle.std.proofs.Common.{◌≡◌, ◌∙◌, sym, ap, subst, refl, map, string_bytes}
use Rattle.bidi_local.specs.Received.{Means}
use Rattle.bidi_local.specs.View.{waiting_in}
use Rattle.bidi_link.specs.Rows.{Agrees}
use Rattle.bidi_link.proofs.LinkLemmas.{none_taken, one_taken, uncut}
use Rattle.bidi_link.proofs.LinkTakeLemmas.{taken, with_down-none}
use Rattle.bidi_link.proofs.link_end.LinkEnd.take_down.Goals as goal

pub returns-in_ok-received-in-Some : goal.returns-in_ok-received-in-Some
returns-in_ok-received-in-Some c = λ l v a sound.
    let end = c.args.self.now in
    let s = string_bytes c.in-Some.text in
    let left = c.pop_front.new.self.items in
    let old = one_taken c.pop_front.result end.down.items left c.in-Some.text c.pop_front.ensures.items c.in-Some.is in
    let whole = uncut v.is_cut c.in-Some.text left (λ u. sym old ∙ (a.empty u).down) in
    taken end _ l v s (map string_bytes left) c.in_ok-received-in-Some.received c.note.result a sound whole
    (record { number = refl; up = refl; down = refl; is_cut = refl; unsent = refl })
    (record {
      answer = c.note.ensures.answer;
      refusal = c.note.ensures.refusal;
      event = c.note.ensures.event;
      well = c.note.ensures.well c.in_ok-received-in-Some.ensures.well;
    })
    (sym (a.carries whole).down ∙ ap (map string_bytes) old)
    (λ m means. c.in_ok-received-in-Some.ensures.no_other m (subst (λ x. Means (waiting_in end.local) x m) (sym c.as_str.ensures.value) means))
    c.in_ok-received-in-Some.ensures.settles

pub returns-in-None : goal.returns-in-None
returns-in-None c = λ l v a sound.
    let end = c.args.self.now in
    let empty = none_taken c.pop_front.result end.down.items c.pop_front.new.self.items c.pop_front.ensures.items c.pop_front.ensures.rest c.in-None.is in
    let still : map string_bytes end.down.items ≡ map string_bytes c.pop_front.new.self.items = ap (map string_bytes) (empty.0 ∙ sym empty.1) in
    subst (Agrees _ l) (sym (with_down-none v (λ u. sym (a.carries u).down ∙ ap (map string_bytes) empty.0)))
    (record {
      number = a.number;
      results_well = a.results_well;
      events_well = a.events_well;
      entries = a.entries;
      events = a.events;
      not_sent = a.not_sent;
      is_cut = a.is_cut;
      within = a.within;
      carries = λ u. record { local = (a.carries u).local; up = (a.carries u).up; down = sym still ∙ (a.carries u).down };
      empty = λ u. record { up = (a.empty u).up; down = empty.1 };
    })

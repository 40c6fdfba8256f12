use Rattle.std.proofs.Common.{refl, ◌≡◌, ◌∙◌, sym, subst, ap, map, string_bytes, drop, suc, true≢false}
use Rattle.bidi_link.specs.Rows.{AreUpward, with_up}
use Rattle.bidi_link.proofs.LinkLemmas.{if_none, if_some, none_taken, one_taken, next_up-none, next_up-some, uncut, entries-same}
use Rattle.bidi_link.proofs.link_end.LinkEnd.next_up.Goals as goal

pub returns-clause-none : goal.returns-clause-none
returns-clause-none c = λ l v a. if_none c.pop_front.result (λ is.
    let empty = none_taken c.pop_front.result c.args.self.now.up.items c.pop_front.new.self.items c.pop_front.ensures.items c.pop_front.ensures.rest is in
    let still : map string_bytes c.args.self.now.up.items ≡ map string_bytes c.pop_front.new.self.items = ap (map string_bytes) (empty.0 ∙ sym empty.1) in (
      next_up-none v (map string_bytes c.args.self.now.up.items) (λ u. (a.carries u).up) (ap (map string_bytes) empty.0),
      record {
        number = a.number;
        results_well = a.results_well;
        events_well = a.events_well;
        entries = a.entries;
        events = a.events;
        not_sent = a.not_sent;
        is_cut = a.is_cut;
        within = a.within;
        carries =
            λ u. record {
              local = (a.carries u).local;
              up = subst (AreUpward (suc v.ups) (drop v.ups v.commands)) still (a.carries u).up;
              down = (a.carries u).down;
            };
        empty = λ u. record { up = empty.1; down = (a.empty u).down };
      },
    ))

pub returns-clause-some : goal.returns-clause-some
returns-clause-some c = λ l v a. if_some c.pop_front.result (λ s is.
    let old = one_taken c.pop_front.result c.args.self.now.up.items c.pop_front.new.self.items s c.pop_front.ensures.items is in
    let whole = uncut v.is_cut s c.pop_front.new.self.items (λ u. sym old ∙ (a.empty u).up) in
    let p = next_up-some v (string_bytes s) (map string_bytes c.pop_front.new.self.items) whole
    (subst (λ ss. AreUpward (suc v.ups) (drop v.ups v.commands) (map string_bytes ss)) old (a.carries whole).up) in (
      p.0,
      p.1,
      p.2,
      record {
        number = a.number;
        results_well = a.results_well;
        events_well = a.events_well;
        entries = a.entries ∙ entries-same 1 v (with_up v) v.commands (λ id. refl);
        events = a.events;
        not_sent = a.not_sent;
        is_cut = a.is_cut;
        within = a.within;
        carries = λ u. record { local = (a.carries u).local; up = p.3; down = (a.carries u).down };
        empty = λ u. absurd (true≢false (sym u ∙ whole));
      },
    ))

use Rattle.std.proofs.Common.{◌≡◌, ◌∙◌, ◌++◌, ◌∷◌, [], sym, ap, map, string_bytes, true, false, true≢false, arith}
use Rattle.std.proofs.lemmas.List.{map-append, length-append}
use Rattle.bidi_link.specs.Rows.{with_texts}
use Rattle.bidi_link.proofs.LinkLemmas.{entries-same, fate-texts, events-texts, drop-append}
use Rattle.bidi_link.proofs.link_end.LinkEnd.push_down.Goals as goal

pub returns-in_ok-push_back : goal.returns-in_ok-push_back
returns-in_ok-push_back c = λ l v a.
    let s = string_bytes c.args.text in
    let whole : v.is_cut ≡ false = sym a.is_cut ∙ c.if-not-self.true in
    record {
      number = a.number;
      results_well = a.results_well;
      events_well = a.events_well;
      not_sent = a.not_sent;
      is_cut = a.is_cut;
      entries = a.entries ∙ entries-same 1 v (with_texts v (s ∷ [])) v.commands (λ id. fate-texts v (s ∷ []) id a.within);
      events = a.events ∙ events-texts v (s ∷ []) a.within;
      within = simp length-append (omega (arith, a.within));
      carries = λ u. record {
        local = (a.carries u).local;
        up = (a.carries u).up;
        down =
            ap (map string_bytes) c.in_ok-push_back.ensures.items ∙ map-append string_bytes c.args.self.now.down.items (c.args.text ∷ [])
            ∙ ap (λ ss. ss ++ s ∷ []) (a.carries u).down ∙ sym (drop-append v.downs v.texts (s ∷ []) a.within);
      };
      empty = λ u. absurd (true≢false (sym u ∙ whole));
    }

pub returns-else-not-self : goal.returns-else-not-self
returns-else-not-self c = λ l v a.
    let s = string_bytes c.args.text in
    let is_cut : v.is_cut ≡ true = sym a.is_cut ∙ c.if-not-self.false in
    record {
      number = a.number;
      results_well = a.results_well;
      events_well = a.events_well;
      not_sent = a.not_sent;
      is_cut = a.is_cut;
      entries = a.entries ∙ entries-same 1 v (with_texts v (s ∷ [])) v.commands (λ id. fate-texts v (s ∷ []) id a.within);
      events = a.events ∙ events-texts v (s ∷ []) a.within;
      within = simp length-append (omega (arith, a.within));
      carries = λ u. absurd (true≢false (sym is_cut ∙ u));
      empty = a.empty;
    }

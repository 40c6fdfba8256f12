use Rattle.std.proofs.Common.{◌≡◌, ◌∙◌, ◌∷◌, [], false, sym, subst, ap, map, string_bytes, refl}
use Rattle.std.proofs.lemmas.List.{map-append}
use Rattle.bidi_ledger.specs.declared.ledger.Fate.TheVariants as in_hand
use Rattle.bidi_link.specs.Rows.{Agrees}
use Rattle.bidi_ledger.specs.Steps.{sending_of}
use Rattle.bidi_link.proofs.LinkLemmas.{both_ok, one_ok}
use Rattle.bidi_link.proofs.LinkSendLemmas.{refused_for, may_send-none, may_send-fault, sent_on-true, sent_on-false, sends, counts, counted_on}
use Rattle.bidi_link.proofs.link_end.LinkEnd.send.Goals as goal

pub returns-in-Ok : goal.returns-in-Ok
returns-in-Ok c = λ l v a sound short.
    let end = c.args.self.now in
    let d = c.args.«data» in
    let whole : v.is_cut ≡ false = sym a.is_cut ∙ c.if-self.false in
    let local = (a.carries whole).local in
    let may = may_send-none v end.commands.items d end.local.sent end.local.pending.entries a.entries local.sent local.waiting c.in-Ok.ensures.refusal in
    both_ok c.push_up.result c.push_up.ensures.commands c.push_up.ensures.up (λ commands up.
    subst (Agrees _ l) (sym (sent_on-true v (sending_of d) whole may))
    (sends end _ l v d (record { id = c.in-Ok.id; method = c.method-method.result; fate = in_hand.Waiting }) (string_bytes c.in-Ok.text) a sound whole
    (record { number = refl; down = refl; is_cut = refl; events = refl }) refl commands
    (ap (map string_bytes) up ∙ map-append string_bytes end.up.items (c.in-Ok.text ∷ []))
    c.in-Ok.ensures.ok.0 c.method-method.ensures refl tt c.in-Ok.ensures.ok.1 c.in-Ok.ensures.accepted c.in-Ok.ensures.waits))

pub returns-in-Err : goal.returns-in-Err
returns-in-Err c = λ l v a sound short.
    let end = c.args.self.now in
    let d = c.args.«data» in
    let whole : v.is_cut ≡ false = sym a.is_cut ∙ c.if-self.false in
    let local = (a.carries whole).local in
    one_ok c.count.result c.count.ensures (λ counted.
    let fault = refused_for c.in-Err.fault _ counted.0 c.in-Err.ensures.refusal in
    let may = may_send-fault v end.commands.items d end.local.sent end.local.pending.entries c.in-Err.fault a.entries local.sent local.waiting fault in
    subst (Agrees _ l) (sym (sent_on-false v (sending_of d) whole may))
    (counts end _ l v a whole (record { number = refl; down = refl; is_cut = refl; events = refl }) refl refl
    (counted_on end.unsent v.not_sent _ a.not_sent short counted.1) c.in-Err.ensures.err))

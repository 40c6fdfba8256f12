use Rattle.std.proofs.Common.{◌≡◌, ◌+◌, ◌∷◌, true, false, map, get_or, drop, bytes_eq, refl, sym, ap, ◌∙◌, arith}
use Rattle.std.proofs.lemmas.List.{at_drop_more}
use Rattle.std.specs.List.{list_any}
use Rattle.json.specs.Value.{value_view, members_view}
use Rattle.json.specs.Json as json
use Rattle.bidi_tree.specs.Node.{no_members, put}
use Rattle.bidi_tree.specs.Json.{parsed, put_all}
use Rattle.bidi_tree.proofs.SoundLemmas.{AreAscending-put}
use Rattle.bidi_shape.specs.Fits.{without}
use Rattle.bidi_shape.specs.MapLaws.{without-put}
use Rattle.bidi_shape.proofs.GatherLemmas.{one_left}
use Rattle.bidi_shape.proofs.parsed.all_listed.Goals as goal

pub loop-member-init : goal.loop-member-init
loop-member-init c = (no_members, tt, refl, refl)

pub loop-member-preserved : goal.loop-member-preserved
loop-member-preserved c =
    let inv = c.loop-member.invariant in
    let found = inv.0 in
    let xs = c.args.members.now.items in
    let i = c.loop-member.member-index in
    let e = c.member-item.result in
    let ks = map (λ s. s.now) c.args.names.now in
    let at : e ≡ get_or xs i e = c.member-item.is ∙ ap (λ ys. get_or ys i e) c.deref-member-items.ensures.value in
    let step : members_view (drop i xs) ≡ json.member e.0.now (value_view e.1) (members_view (drop (i + 1) xs)) =
    at_drop_more members_view xs i e (omega arith) ∙ ap (λ y. members_view (y ∷ drop (i + 1) xs)) (sym at) in
    let listed : list_any (bytes_eq e.0.now) ks ≡ true = sym c.is_listed.ensures ∙ c.if-not-is_listed.false in (
      put e.0.now (parsed e.1) found,
      AreAscending-put e.0.now (parsed e.1) found inv.1,
      without-put ks e.0.now (parsed e.1) found listed ∙ inv.2,
      sym (ap (λ js. put_all js found) step) ∙ inv.3,
    )

pub returns-then-not-is_listed-clause-no_fit : goal.returns-then-not-is_listed-clause-no_fit
returns-then-not-is_listed-clause-no_fit c = λ none.
    let inv = c.loop-member.invariant in
    let found = inv.0 in
    let xs = c.args.members.now.items in
    let i = c.loop-member.member-index in
    let e = c.member-item.result in
    let ks = map (λ s. s.now) c.args.names.now in
    let at : e ≡ get_or xs i e = c.member-item.is ∙ ap (λ ys. get_or ys i e) c.deref-member-items.ensures.value in
    let step : members_view (drop i xs) ≡ json.member e.0.now (value_view e.1) (members_view (drop (i + 1) xs)) =
    at_drop_more members_view xs i e (omega arith) ∙ ap (λ y. members_view (y ∷ drop (i + 1) xs)) (sym at) in
    let unlisted : list_any (bytes_eq e.0.now) ks ≡ false = sym c.is_listed.ensures ∙ c.if-not-is_listed.true in
    one_left ks e.0.now (parsed e.1) (members_view (drop (i + 1) xs)) found unlisted (ap (without ks) (sym (ap (λ js. put_all js found) step) ∙ inv.3) ∙ none)

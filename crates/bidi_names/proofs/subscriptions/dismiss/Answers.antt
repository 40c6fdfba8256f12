use Rattle.std.proofs.Common.{◌≡◌, ◌∙◌, length, map, string_bytes, ap, arith, rules}
use Rattle.std.specs.Prelude.{filter}
use Rattle.std.specs.Vec.{with_items}
use Rattle.std.proofs.lemmas.Fn.{filter_same}
use Rattle.std.proofs.lemmas.List.{length-map, with_items_is}
use Rattle.bidi_sessions.proofs.ListLemmas.{map-filter}
use Rattle.bidi_names.specs.Subscriptions.{stripped, has_any, named_of}
use Rattle.bidi_names.proofs.subscriptions.dismiss.Goals as goal

pub returns : goal.returns
returns c =
    let change = stripped c.args.session (map string_bytes c.args.names.now) (map string_bytes c.args.modules.now) in
    let after = c.strip.new.subscriptions in
    let all = c.strip.ensures in
    let items : (with_items c.args.subscriptions.now after).items ≡ after =
    let e = ap length all in let la = length-map after named_of in let lb = length-map (map named_of c.deref_mut.result.now) change in
    let lc = length-map c.deref_mut.result.now named_of in
    let d = c.deref_mut.ensures.len in
    with_items_is c.args.subscriptions.now after (omega (arith, e, la, lb, lc, d)) in
    let kept = filter_same _ (λ n. has_any (named_of n)) _ (λ x b f' k. search rules) _ _ c.retain.ensures.filtered in
    ap (map named_of) kept
    ∙ (map-filter named_of has_any (with_items c.args.subscriptions.now after).items
    ∙ ap (filter has_any) (ap (map named_of) items ∙ (all ∙ ap (λ ns. map change (map named_of ns)) c.deref_mut.ensures.value)))

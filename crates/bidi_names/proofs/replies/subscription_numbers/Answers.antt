use Rattle.std.proofs.Common.{◌∙◌, ◌||◌, ◌∷◌, ◌+◌, ℕ, Bool, List, map, drop, string_bytes, sym, ap}
use Rattle.std.specs.Prelude.{bytes_eq}
use Rattle.std.specs.List.{list_any}
use Rattle.bidi_handles.specs.Ids.{id_text}
use Rattle.bidi_handles.specs.declared.id.IdKind.TheVariants.{Subscription}
use Rattle.bidi_sessions.specs.Scope.{is_listed}
use Rattle.bidi_sessions.proofs.ListLemmas.{from-item}
use Rattle.bidi_names.proofs.ReplyLemmas.{found-next}
use Rattle.bidi_names.proofs.replies.subscription_numbers.Goals as goal

pub loop-id-preserved : goal.loop-id-preserved
loop-id-preserved c = λ n less.
    let name = id_text Subscription c.args.session in
    let i = c.loop-id.id-index in
    let all = c.args.ids.now in
    let x = c.id-item.result in
    let numbers = c.loop-id.numbers.items in
    let id = c.as_str.result.now in
    let rest = map string_bytes (drop (i + 1) all) in
    let any : List (List ℕ) → Bool = λ ids. is_listed numbers n || list_any (λ k. bytes_eq k (name n)) ids in
    ap (λ ns. is_listed ns n || list_any (λ k. bytes_eq k (name n)) rest) c.in_ok-push_found.ensures
    ∙ found-next name id numbers n rest c.id_number-found.result (list_any (λ k. bytes_eq k (name n)) (map string_bytes all)) c.id_number-found.ensures.some c.id_number-found.ensures.every less
    (ap (λ y. any (y ∷ rest)) c.as_str.ensures.value
    ∙ (ap (λ left. any (map string_bytes left)) (sym (from-item all i x c.loop-id-test.true c.id-item.is)) ∙ c.loop-id.invariant n less))

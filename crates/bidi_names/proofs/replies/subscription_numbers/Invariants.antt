use Rattle.std.proofs.Common.{◌≡◌, ◌<◌, ◌^◌, ◌||◌, ℕ, map, drop, string_bytes}
use Rattle.std.specs.Prelude.{bytes_eq}
use Rattle.std.specs.List.{list_any}
use Rattle.bidi_handles.specs.Ids.{id_text}
use Rattle.bidi_handles.specs.declared.id.IdKind.TheVariants.{Subscription}
use Rattle.bidi_sessions.specs.Scope.{is_listed}
use Rattle.bidi_names.proofs.replies.subscription_numbers.Given as goal

-- what is left is added to what was found
abbrev pub invariant-loop-id : goal.invariant-loop-id
invariant-loop-id l =
    (n : ℕ) → n < 2 ^ 48 → (is_listed l.numbers.items n || list_any (λ id. bytes_eq id (id_text Subscription l.session n)) (map string_bytes (drop l.id-index l.ids)))
    ≡ list_any (λ id. bytes_eq id (id_text Subscription l.session n)) (map string_bytes l.ids)

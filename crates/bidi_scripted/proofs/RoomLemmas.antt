-- Whether so many bytes more can be kept: by what rows, held commands and followers have, in the code and in the script.
use Rattle.std.proofs.Common.{◌≡◌, ◌<◌, ◌≤◌, ◌+◌, ◌-◌, ℕ, true, false, Option, Some, None, arith}
use Rattle.std.specs.Prelude.{MatchOption, is_some, nat_le}
use Rattle.std.proofs.lemmas.Bool.Decides.{nat_tests}
pub use Rattle.bidi_names.proofs.SumLemmas.{total_next}

fits : (bytes most rows rows' held held' more more' left left' left'' : ℕ) → bytes ≤ most → left + rows ≡ most - bytes → left' + held ≡ left → left'' + more ≡ left'
    → rows ≡ rows' → held ≡ held' → more ≡ more' → bytes + (rows' + (held' + more')) ≤ most
fits bytes most rows rows' held held' more more' left left' left'' few a b d e f g = omega (arith, few, a, b, d, e, f, g)

over : (bytes most rows rows' held held' more more' left left' : ℕ) → bytes ≤ most → left + rows ≡ most - bytes → left' + held ≡ left → left' < more
    → rows ≡ rows' → held ≡ held' → more ≡ more' → most < bytes + (rows' + (held' + more'))
over bytes most rows rows' held held' more more' left left' few a b d e f g = omega (arith, few, a, b, d, e, f, g)

is-le : (a b : ℕ) → a ≤ b → true ≡ nat_le a b
is-le a b le = grind (arith, nat_tests, le)

no-le : (a b : ℕ) → b < a → false ≡ nat_le a b
no-le a b less = grind (arith, nat_tests, less)

pub room-some : (bytes most rows rows' held held' more more' left left' : ℕ) (o : Option ℕ) → bytes ≤ most → left + rows ≡ most - bytes → left' + held ≡ left
    → MatchOption o (left' < more) (λ n. n + more ≡ left') → rows ≡ rows' → held ≡ held' → more ≡ more'
    → is_some o ≡ nat_le (bytes + (rows' + (held' + more'))) most
room-some bytes most rows rows' held held' more more' left left' (Some n) few a b d e f g = is-le _ most (fits bytes most rows rows' held held' more more' left left' n few a b d e f g)
room-some bytes most rows rows' held held' more more' left left' None few a b d e f g = no-le _ most (over bytes most rows rows' held held' more more' left left' few a b d e f g)

pub room-none : (bytes most rows rows' held held' more left : ℕ) → bytes ≤ most → left + rows ≡ most - bytes → left < held → rows ≡ rows' → held ≡ held'
    → false ≡ nat_le (bytes + (rows' + (held' + more))) most
room-none bytes most rows rows' held held' more left few a b e f = no-le _ most (omega (arith, few, a, b, e, f))

pub room-rows : (bytes most rows rows' held more : ℕ) → bytes ≤ most → most - bytes < rows → rows ≡ rows' → false ≡ nat_le (bytes + (rows' + (held + more))) most
room-rows bytes most rows rows' held more few a e = no-le _ most (omega (arith, few, a, e))

-- Subscriptions to names that lose some of them, and how many names there are.
use Rattle.std.proofs.Common.{◌≡◌, ◌∙◌, ◌<◌, ◌+◌, ℕ, true, false, not, List, [], ◌∷◌, map, refl, sym, ap, arith}
use Rattle.std.proofs.lemmas.Bool.Decides.{nat_tests}
use Rattle.std.specs.Prelude.{◌==◌, ◌&&◌, nat_lt, nat_le}
use Rattle.bidi_sessions.specs.Scope.{is_global}
use Rattle.bidi_names.specs.declared.subscriptions.NamedSubscription.{NamedSubscription}
use Rattle.bidi_names.specs.Sums.{total}
use Rattle.bidi_names.specs.Subscriptions.{Named, named_of, without, stripped, names_in, is_too_many}

pub stripped-global : (s : ℕ) (names modules : List (List ℕ)) (n : Named) → ((n.session == s) && is_global n.scope) ≡ true
    → without names modules n ≡ stripped s names modules n
stripped-global s names modules n global = rw global refl

pub stripped-other : (s : ℕ) (names modules : List (List ℕ)) (n : Named) → ((n.session == s) && is_global n.scope) ≡ false → stripped s names modules n ≡ n
stripped-other s names modules n other = rw other refl

-- ---- how many names a session has

all-in : (s : ℕ) (xs : List NamedSubscription) → map (names_in s) (map named_of xs) ≡ map (λ n. names_in s (named_of n)) xs
all-in s [] = refl
all-in s (x ∷ xs) = ap (λ ns. names_in s (named_of x) ∷ ns) (all-in s xs)

room : (left sum more : ℕ) → left + sum ≡ 1024 → nat_le more left ≡ not (nat_lt 1024 (sum + more))
room left sum more is = grind (arith, nat_tests, is)

pub room-left : (s : ℕ) (xs : List NamedSubscription) (left more : ℕ) → left + total (map (λ n. names_in s (named_of n)) xs) ≡ 1024
    → nat_le more left ≡ not (is_too_many s (map named_of xs) more)
room-left s xs left more is =
    room left (total (map (λ n. names_in s (named_of n)) xs)) more is ∙ ap (λ ns. not (nat_lt 1024 (total ns + more))) (sym (all-in s xs))

none-left : (sum more : ℕ) → 1024 < sum → false ≡ not (nat_lt 1024 (sum + more))
none-left sum more is = grind (arith, nat_tests, is)

pub no-room : (s : ℕ) (xs : List NamedSubscription) (more : ℕ) → 1024 < total (map (λ n. names_in s (named_of n)) xs)
    → false ≡ not (is_too_many s (map named_of xs) more)
no-room s xs more is =
    none-left (total (map (λ n. names_in s (named_of n)) xs)) more is ∙ ap (λ ns. not (nat_lt 1024 (total ns + more))) (sym (all-in s xs))

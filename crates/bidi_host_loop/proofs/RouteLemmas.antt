-- Numbers stay at the places by which they were admitted.
use Rattle.std.proofs.Common.{◌≡◌, ◌∙◌, ℕ, arith, Bool, true, false, true≢false, List, [], ◌∷◌, ◌++◌, Option, Some, None, refl, sym, ap}
use Rattle.std.specs.Prelude.{◌==◌, ◌&&◌, cond, filter, not, if◌then◌else◌}
use Rattle.std.specs.List.{list_all}
use Rattle.std.proofs.lemmas.Bool.Decides.{nat_tests}
use Rattle.bidi_host_loop.specs.Clients.{admission, admitted_at, are_routed, is_routed, is_same_place, left_by, left_without, or_else}
use Rattle.bidi_host_loop.specs.Deeds.{Admitted, Deed}
use Rattle.bidi_host_loop.specs.declared.peers.Peers.{Peers}
use Rattle.bidi_host_loop.specs.declared.peers.Route.{Route}
use Rattle.bidi_host_loop.specs.declared.slot.Role.{Role}
use Rattle.bidi_host_loop.specs.declared.slot.Role.TheVariants as role

-- both parts of a conjunction
both_left : (a b : Bool) → (a && b) ≡ true → a ≡ true
both_left true b e = refl
both_left false b e = e

both_right : (a b : Bool) → (a && b) ≡ true → b ≡ true
both_right true b e = e
both_right false b e = absurd (true≢false (sym e))

-- nothing came before
or_else-None : (o : Option ℕ) → or_else o None ≡ o
or_else-None None = refl
or_else-None (Some place) = refl

-- the last deed decides, if it admits the number
admitted_at-append : (conn : ℕ) (ds : List Deed) (d : Deed) → admitted_at conn (ds ++ d ∷ []) ≡ or_else (admission conn d) (admitted_at conn ds)
admitted_at-append conn [] d = sym (or_else-None (admission conn d))
admitted_at-append conn (e ∷ ds) d = ap (λ (o : Option ℕ). or_else o (admission conn e)) (admitted_at-append conn ds d) ∙ assoc (admission conn d)
  where
    assoc : (o : Option ℕ) → or_else (or_else o (admitted_at conn ds)) (admission conn e) ≡ or_else o (or_else (admitted_at conn ds) (admission conn e))
    assoc None = refl
    assoc (Some place) = refl

-- a deed that admits nobody changes nothing
is_routed-append : (ds : List Deed) (d : Deed) (r : Route) → admission r.conn d ≡ None → is_routed (ds ++ d ∷ []) r ≡ is_routed ds r
is_routed-append ds d r none =
    ap (λ (o : Option ℕ). is_same_place o r.place) (admitted_at-append r.conn ds d ∙ ap (λ (o : Option ℕ). or_else o (admitted_at r.conn ds)) none)

are_routed-append : (routes : List Route) (ds : List Deed) (d : Deed) → ((conn : ℕ) → admission conn d ≡ None) → are_routed routes (ds ++ d ∷ []) ≡ are_routed routes ds
are_routed-append [] ds d none = refl
are_routed-append (r ∷ routes) ds d none = λ i. is_routed-append ds d r (none r.conn) i && are_routed-append routes ds d none i

-- No number has another place than before, and none is new.
abbrev pub Forgets : Peers → Peers → Type 0
Forgets old new = (p : Route → Bool) → list_all p old.routes.items ≡ true → list_all p new.routes.items ≡ true

-- numbers are forgotten, or stay as they are
pub routed_kept : (old new : Peers) (ds es : List Deed) → Forgets old new → es ≡ ds → are_routed old.routes.items ds ≡ true → are_routed new.routes.items es ≡ true
routed_kept old new ds es forgets same routed = ap (are_routed new.routes.items) same ∙ forgets (is_routed ds) routed

-- and a deed that admits nobody is noted
pub routed_noted : (old new : Peers) (ds es : List Deed) (d : Deed) → es ≡ ds ++ d ∷ [] → Forgets old new → ((conn : ℕ) → admission conn d ≡ None)
    → are_routed old.routes.items ds ≡ true → are_routed new.routes.items es ≡ true
routed_noted old new ds es d same forgets none routed =
    ap (are_routed new.routes.items) same ∙ are_routed-append new.routes.items ds d none ∙ forgets (is_routed ds) routed

-- or only that
pub routed_still : (peers : Peers) (ds es : List Deed) (d : Deed) → es ≡ ds ++ d ∷ [] → ((conn : ℕ) → admission conn d ≡ None)
    → are_routed peers.routes.items ds ≡ true → are_routed peers.routes.items es ≡ true
routed_still peers ds es d same none routed = routed_noted peers peers ds es d same (λ p all. all) none routed

-- all of some are all of those that are left
pub all_left : (p q : Route → Bool) (routes : List Route) → list_all p routes ≡ true → list_all p (filter q routes) ≡ true
all_left p q [] all = refl
all_left p q (r ∷ routes) all = pick (q r) (both_left (p r) (list_all p routes) all) (all_left p q routes (both_right (p r) (list_all p routes) all))
  where
    pick : (b : Bool) → p r ≡ true → list_all p (filter q routes) ≡ true → list_all p (cond b (r ∷ filter q routes) (filter q routes)) ≡ true
    pick true here rest = λ i. here i && rest i
    pick false here rest = rest

-- nothing is forgotten where nothing changes
pub forgets_none : (old new : Peers) → new.routes ≡ old.routes → Forgets old new
forgets_none old new same p all = ap (λ routes. list_all p routes.items) same ∙ all

-- a number is forgotten
pub forgets_one : (old new : Peers) (conn : ℕ) → new.routes.items ≡ left_without conn old.routes.items → Forgets old new
forgets_one old new conn left p all = ap (list_all p) left ∙ all_left p (λ r. not (r.conn == conn)) old.routes.items all

-- or the one of a role
pub forgets_by : (old new : Peers) (r : Role) → new.routes.items ≡ left_by r old.routes.items → Forgets old new
forgets_by old new (role.Client c) left p all = forgets_one old new c.value left p all
forgets_by old new role.Arriving left p all = ap (list_all p) left ∙ all
forgets_by old new role.Page left p all = ap (list_all p) left ∙ all
forgets_by old new role.Leaving left p all = ap (list_all p) left ∙ all

-- or all are
pub forgets_all : (old new : Peers) → new.routes.items ≡ [] → Forgets old new
forgets_all old new none p all = ap (list_all p) none

-- ---- a number is admitted

-- a number is itself
same_number : (n : ℕ) → (n == n) ≡ true
same_number n = grind (arith, nat_tests)

-- the others stay where they were
pub others_routed : (ds : List Deed) (place conn : ℕ) (routes : List Route) → are_routed routes ds ≡ true
    → are_routed (filter (λ r. not (r.conn == conn)) routes) (ds ++ Admitted place conn ∷ []) ≡ true
others_routed ds place conn [] routed = refl
others_routed ds place conn (r ∷ routes) routed =
    pick (r.conn == conn) refl (both_left (is_routed ds r) (are_routed routes ds) routed)
    (others_routed ds place conn routes (both_right (is_routed ds r) (are_routed routes ds) routed))
  where
    more : List Deed
    more = ds ++ Admitted place conn ∷ []

    left : List Route
    left = filter (λ (x : Route). not (x.conn == conn)) routes

    pick : (b : Bool) → (r.conn == conn) ≡ b → is_routed ds r ≡ true → are_routed left more ≡ true → are_routed (cond (not b) (r ∷ left) left) more ≡ true
    pick true same here rest = rest
    pick false apart here rest =
        let none : admission r.conn (Admitted place conn) ≡ None = ap (λ (b : Bool). if b then Some place else None) apart in
        λ i. (is_routed-append ds (Admitted place conn) r none ∙ here) i && rest i

-- and the number is at its place
pub admitted : (ds : List Deed) (place conn : ℕ) (routes left : List Route) (r : Route) → r.conn ≡ conn → r.place ≡ place
    → left ≡ filter (λ (x : Route). not (x.conn == conn)) routes → are_routed routes ds ≡ true
    → are_routed (r ∷ left) (ds ++ Admitted place conn ∷ []) ≡ true
admitted ds place conn routes left r is_conn is_place is routed =
    let more = ds ++ Admitted place conn ∷ [] in
    let here : admission r.conn (Admitted place conn) ≡ Some place =
    ap (λ (n : ℕ). if n == conn then Some place else None) is_conn ∙ ap (λ (b : Bool). if b then Some place else None) (same_number conn) in
    let last : admitted_at r.conn more ≡ Some place =
    admitted_at-append r.conn ds (Admitted place conn) ∙ ap (λ (o : Option ℕ). or_else o (admitted_at r.conn ds)) here in
    let routed_here : is_routed more r ≡ true = (λ i. is_same_place (last i) (is_place i)) ∙ same_number place in
    let others : are_routed left more ≡ true = ap (λ (l : List Route). are_routed l more) is ∙ others_routed ds place conn routes routed in
    λ i. routed_here i && others i

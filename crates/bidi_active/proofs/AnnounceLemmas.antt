-- What a new subscription enables nowhere: an event that it does not name, or that a global one held has.
use Rattle.std.proofs.Common.{◌≡◌, ◌∙◌, ℕ, Bool, true, false, true≢false, not, ◌&&◌, ◌||◌, List, [], ◌∷◌, ◌++◌, map, refl, sym, ap, ap₂, arith}
use Rattle.std.specs.Prelude.{filter}
use Rattle.std.proofs.lemmas.Bool.Decides.{nat_tests}
use Rattle.std.proofs.lemmas.List.Elements.{filter-append}
use Rattle.bidi_methods.specs.declared.event_data.EventName.{EventName}
use Rattle.bidi_methods.specs.declared.event_data.EventName.TheVariants.{ContextCreated, RealmCreated}
use Rattle.bidi_contexts.specs.declared.occurrence.Top.{Top}
use Rattle.bidi_contexts.specs.Acts.{Act}
use Rattle.bidi_contexts.specs.Contexts.{is_alive, tree_order}
use Rattle.bidi_contexts.specs.Occurrences.{Occurrence, top_at, context_created, realm_created, tree_events}
use Rattle.bidi_contexts.specs.Occurrences.{is_among}
use Rattle.bidi_sessions.specs.Scope.{Scope, All, Below, Within, is_global, covers}
use Rattle.bidi_sessions.specs.SubscriptionRows.{SubscriptionRow, any_covers, any_global, may_be_new}
use Rattle.bidi_active.specs.News.{is_new}
use Rattle.bidi_sessions.proofs.ListLemmas.{map-filter, filter-none}

-- what a global subscription holds for it covers everywhere
everywhere : (scope : Scope) (has : Bool) (top : Top) → (is_global scope && has) ≡ true → (has && covers scope top) ≡ true
everywhere All has top held = grind (arith, nat_tests, held)
everywhere (Below tops) has top held = absurd (true≢false (sym held))
everywhere (Within users) has top held = absurd (true≢false (sym held))

any_global-covers : (rows : List SubscriptionRow) (e : EventName) (top : Top) → any_global rows e ≡ true → any_covers rows e top ≡ true
any_global-covers [] e top held = held
any_global-covers (r ∷ rows) e top held =
    first_or (is_global r.scope && is_among r.events e) (any_global rows e) (is_among r.events e && covers r.scope top) (any_covers rows e top)
    (everywhere r.scope (is_among r.events e) top) (any_global-covers rows e top) held
  where
    first_or : (a b c d : Bool) → (a ≡ true → c ≡ true) → (b ≡ true → d ≡ true) → (a || b) ≡ true → (c || d) ≡ true
    first_or a b c d f g h = grind (arith, nat_tests, f, g, h)

-- an event that can be new nowhere
pub never-new : (past : List Act) (held : List SubscriptionRow) (es : List EventName) (scope : Scope) (e : EventName) (top : Top)
    → may_be_new held es e ≡ false → is_new past held es scope e top ≡ false
never-new past held es scope e top never =
    by (is_alive past top.number) (any_covers held e top) (any_global held e) (is_among es e) (covers scope top) (any_global-covers held e top) never
  where
    by : (live was globally named within : Bool) → (globally ≡ true → was ≡ true) → (named && not globally) ≡ false
        → (live && (not was && (named && within))) ≡ false
    by live was globally named within covered never = grind (arith, nat_tests, covered, never)

-- ---- the events that tell what exists

neither : (a b : Bool) → (a || b) ≡ false → (a ≡ false) × (b ≡ false)
neither false false none = (refl, refl)
neither false true none = absurd (true≢false none)
neither true b none = absurd (true≢false none)

none-of-contexts : (p : Occurrence → Bool) (f : ℕ → Occurrence) (cs : List ℕ) → ((c : ℕ) → p (f c) ≡ false) → filter p (map f cs) ≡ []
none-of-contexts p f cs fails = sym (map-filter f p cs) ∙ ap (map f) (filter-none (λ c. p (f c)) cs fails)

-- each is the coming of a context or of a realm, and where neither can be new none is
pub nothing-told : (past : List Act) (held : List SubscriptionRow) (es : List EventName) (scope : Scope)
    → (may_be_new held es ContextCreated || may_be_new held es RealmCreated) ≡ false
    → filter (λ o. is_new past held es scope o.event o.top) (tree_events past) ≡ []
nothing-told past held es scope never =
    let new = λ (o : Occurrence). is_new past held es scope o.event o.top in
    let all = tree_order past in
    let both = neither (may_be_new held es ContextCreated) (may_be_new held es RealmCreated) never in
    filter-append new (map (context_created past) all) (map (realm_created past) all)
    ∙ ap₂ (λ xs ys. xs ++ ys) (none-of-contexts new (context_created past) all (λ c. never-new past held es scope ContextCreated (top_at past c) both.0))
    (none-of-contexts new (realm_created past) all (λ c. never-new past held es scope RealmCreated (top_at past c) both.1))

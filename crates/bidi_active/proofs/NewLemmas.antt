-- Whether an event is newly enabled, by the three questions that decide it.
use Rattle.std.proofs.Common.{◌≡◌, ◌∙◌, Bool, true, false, not, ◌&&◌, List, refl, sym, ap₂}
use Rattle.bidi_methods.specs.declared.event_data.EventName.{EventName}
use Rattle.bidi_contexts.specs.Acts.{Act}
use Rattle.bidi_contexts.specs.Contexts.{is_alive}
use Rattle.bidi_contexts.specs.declared.occurrence.Top.{Top}
use Rattle.bidi_contexts.specs.Occurrences.{is_among}
use Rattle.bidi_sessions.specs.Scope.{Scope, covers}
use Rattle.bidi_sessions.specs.SubscriptionRows.{SubscriptionRow, any_covers}
use Rattle.bidi_active.specs.News.{is_new}

-- whether an event is new, by the three answers
pub is-new : (past : List Act) (held : List SubscriptionRow) (es : List EventName) (scope : Scope) (e : EventName) (top : Top) (live was is : Bool)
    → live ≡ is_alive past top.number → was ≡ any_covers held e top → is ≡ (is_among es e && covers scope top)
    → (live && (not was && is)) ≡ is_new past held es scope e top
is-new past held es scope e top live was is lives covered covers = ap₂ (λ a b. a && b) lives (ap₂ (λ a b. not a && b) covered covers)

-- the first answer decides, where the others let it
pub live-decides : (live was is : Bool) → not was ≡ true → is ≡ true → live ≡ (live && (not was && is))
live-decides true was is not_was covered = rw (not_was, covered) refl
live-decides false was is not_was covered = refl

-- and where they do not
pub not_covered : (live was is : Bool) → is ≡ false → false ≡ (live && (not was && is))
not_covered true false is not_is = sym not_is
not_covered true true is not_is = refl
not_covered false was is not_is = refl

pub not_new : (live was is : Bool) → not was ≡ false → false ≡ (live && (not was && is))
not_new true was is covered = rw covered refl
not_new false was is covered = refl

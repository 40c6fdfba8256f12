use Rattle.std.proofs.Common.{◌≡◌, ◌∙◌, ◌<◌, ℕ, List, [], ◌∷◌, ◌++◌, map, All, true≢false, sym, ap, subst}
use Rattle.std.specs.List.Sorted.{IsStrictlyIncreasing}
use Rattle.std.proofs.lemmas.List.{map-append}
use Rattle.bidi_handles.specs.declared.handle.Handle.{Handle}
use Rattle.bidi_handles.proofs.SearchLemmas.{all-seen, all-below}
use Rattle.bidi_handles.proofs.handles.Handles.hold.Goals as goal

-- the number of a handle
abbrev number : Handle → ℕ
number h = h.number

pub returns-else-may_come-clause-added : goal.returns-else-may_come-clause-added
returns-else-may_come-clause-added c = λ below.
    let all = subst (λ (hs : List Handle). All (λ h. h.number < c.args.handle.number) hs) (sym c.deref.ensures.value)
    (all-seen (λ held. held.0 < c.args.handle.number) c.args.self.now.items.items below) in
    absurd (true≢false (sym (c.may_come.ensures.above all) ∙ c.if-may_come.false))

pub returns-then-may_come-clause-kept : goal.returns-then-may_come-clause-kept
returns-then-may_come-clause-kept c = λ none.
    let may = c.may_come.ensures.may c.if-may_come.true
    (subst (λ (hs : List Handle). IsStrictlyIncreasing (map number hs)) (sym c.deref.ensures.value) c.args.self.now.ascend) in
    absurd (none (all-below c.args.self.now.items.items c.args.handle.number
    (subst (λ (hs : List Handle). IsStrictlyIncreasing (map number hs ++ c.args.handle.number ∷ [])) c.deref.ensures.value may)))

pub invariant_of-self : goal.invariant_of-self
invariant_of-self c =
    let n = c.args.handle.number in
    let may = c.may_come.ensures.may c.if-may_come.true
    (subst (λ (hs : List Handle). IsStrictlyIncreasing (map number hs)) (sym c.deref.ensures.value) c.args.self.now.ascend) in
    let more : map number c.push_reserved.new.self.items ≡ map number c.deref.result.now ++ n ∷ [] =
    ap (map number) c.push_reserved.ensures.items
    ∙ (map-append number c.args.self.now.items.items (c.args.handle ∷ []) ∙ ap (λ hs. map number hs ++ n ∷ []) (sym c.deref.ensures.value)) in
    record { ascend = subst IsStrictlyIncreasing (sym more) may }

use Rattle.std.proofs.Common.{◌≡◌, ◌∙◌, ◌≤◌, ◌<◌, ℕ, List, All, Some, map, sym, ap, subst, arith}
use Rattle.std.specs.List.{position}
use Rattle.std.specs.Prelude.{◌==◌, get_or}
use Rattle.std.proofs.lemmas.List.Elements.{All-weaker}
use Rattle.bidi_handles.specs.declared.id.IdKind.TheVariants as kind
use Rattle.bidi_contexts.specs.declared.context.Context.{Context}
use Rattle.bidi_contexts.specs.Acts.{Act, next_number}
use Rattle.bidi_contexts.specs.Realms.{realm_of, handles_of}
use Rattle.bidi_contexts.specs.ContextRows.{ContextRow, row_of, rows, held_in}
use Rattle.bidi_handles.specs.Handles.{HasSpare}
use Rattle.bidi_handles.specs.ValuesInHand.{handle_seen}
use Rattle.bidi_contexts.proofs.HandleLemmas.{handles-below}
use Rattle.bidi_contexts.proofs.MoveLemmas.{at-place, changed-at, changed-none}
use Rattle.bidi_handles.proofs.ListLemmas.{no_value}
use Rattle.bidi_contexts.proofs.contexts.Contexts.hold.Goals as goal

-- in the row of its context all numbers are below that of the next handle
below-next : (past : List Act) (items : List Context) (number i : ℕ) (c : Context) (n : ℕ)
    → map row_of items ≡ rows past → position (λ (x : Context). x.number == number) items ≡ Some i → c ≡ get_or items i c
    → next_number past kind.Handle ≤ n → All (λ held. held.0 < n) (row_of c).handles
below-next past items number i c n table at is next =
    subst (λ (r : ContextRow). All (λ held. held.0 < n) r.handles) (sym (ap row_of is ∙ at-place row_of past items number i c table at))
    (All-weaker (λ held. held.0 < next_number past kind.Handle) (λ held. held.0 < n) (λ held below. omega arith)
    (handles_of past (realm_of past number)) (handles-below past (realm_of past number)))

pub hold-requires : goal.hold-requires
hold-requires c =
    let at = ap (position (λ (x : Context). x.number == c.args.number)) (sym c.deref.ensures.value) ∙ (sym c.place_of.ensures ∙ c.in-Some.is) in
    subst (λ (x : Context). HasSpare x.details.value.handles) (sym c.index_mut.ensures.value) (c.requires c.in-Some.place c.index_mut.result.now at)

pub returns-in-Some : goal.returns-in-Some
returns-in-Some c = λ past table next.
    let items = c.args.self.now.live.items in
    let number = c.args.number in
    let at = ap (position (λ (x : Context). x.number == number)) (sym c.deref.ensures.value) ∙ (sym c.place_of.ensures ∙ c.in-Some.is) in
    let below = below-next past items number c.in-Some.place c.index_mut.result.now c.args.handle.number table.rows at c.index_mut.ensures.value next in
    changed-at row_of (held_in (handle_seen c.args.handle)) number items c.in-Some.place c.hold.new.self c.index_mut.result.now at
    (c.hold.ensures below ∙ ap (λ x. held_in (handle_seen c.args.handle) (row_of x)) c.index_mut.ensures.value)

pub returns-in_default : goal.returns-in_default
returns-in_default c = λ past table next.
    let items = c.args.self.now.live.items in
    let number = c.args.number in
    let at = ap (position (λ (x : Context). x.number == number)) (sym c.deref.ensures.value)
    ∙ (sym c.place_of.ensures ∙ no_value c.place_of.result c.in_default.not-Some) in
    changed-none row_of (held_in (handle_seen c.args.handle)) number items at

use Rattle.std.proofs.Common.{◌≡◌, ◌∙◌, ◌<◌, ◌+◌, ◌++◌, ◌∷◌, [], length, map, set, refl, sym, ap, ap₂, subst, arith}
use Rattle.std.specs.Prelude.{MatchOption, option_to_list, vec_len}
use Rattle.std.proofs.lemmas.List.{map-set, length-map, length-append}
use Rattle.std.proofs.Math.ListN.{get_or-map}
use Rattle.bidi_active.specs.SessionView.{session_row_of}
use Rattle.bidi_active.specs.SessionRows.{logged}
use Rattle.bidi_sessions.proofs.BeginLemmas.{over-all, over-next}
use Rattle.bidi_active.proofs.CopyLemmas.{AreCopies, are-copies, count-copies, last-copy}
use Rattle.bidi_sessions.proofs.ListLemmas.{no_value}
use Rattle.bidi_active.proofs.sessions.log.Goals.{in-Some, in_default}
use Rattle.bidi_active.proofs.sessions.log.Goals as goal

pub loop-session-init : goal.loop-session-init
loop-session-init c = λ w same.
    let n = length c.args.sessions.now in
    let count = count-copies w n c.args.copies.items same in
    (are-copies w n c.args.copies.items same, omega (arith, count), refl)

pub loop-session-preserved : goal.loop-session-preserved
loop-session-preserved c = λ w same.
    let i = c.loop-session.session-index in
    let items = c.loop-session.sessions in
    let x = c.session-item.result in
    let rows = map session_row_of c.args.sessions.now in
    let copies = c.loop-session.copies in
    let left = c.pop.new.self.items in
    let inv = c.loop-session.invariant w same in
    let count = inv.1 in
    let more = c.loop-session-test.true in
    let long = length-map c.args.sessions.now session_row_of in
    let less : i < length rows = omega (arith, more, long) in
    let at = get_or-map session_row_of items i x ∙ ap session_row_of (sym c.session-item.is) in
    elim c.match-pop.branch [
      | in-Some v ↦
          let e = v.in-Some.entry in
          let parts = c.pop.ensures.items ∙ ap (λ o. left ++ option_to_list o) v.in-Some.is in
          let all = ap length parts ∙ length-append left (e ∷ []) in
          let split = last-copy w left e (subst (AreCopies w) parts inv.0) in (
            split.1,
            omega (arith, count, all),
            ap (map session_row_of) v.sessions-is ∙ (map-set session_row_of items i _
                ∙ (ap (set (map session_row_of items) i) (v.log.ensures ∙ ap₂ (λ z y. logged z (session_row_of y)) split.0 (sym c.session-item.is))
                ∙ sym (over-next (logged w) i rows (map session_row_of items) (session_row_of x) less inv.2 at))),
          )
      | in_default v ↦
          let none = subst (λ o. MatchOption o ((vec_len copies ≡ 0) × (vec_len c.pop.new.self ≡ 0)) (λ y. vec_len c.pop.new.self + 1 ≡ vec_len copies))
          (no_value c.pop.result v.in_default.not-Some) c.pop.ensures.cases in
          let empty = none.0 in
          let ok = copies.ok.0 in
          absurd (omega (arith, count, more, empty, ok))
    ]

pub returns : goal.returns
returns c = λ w same.
    let long = length-map c.args.sessions.now session_row_of in
    let all = c.loop-session-test.false in
    (c.loop-session.invariant w same).2 ∙ over-all (logged w) c.loop-session.session-index (map session_row_of c.args.sessions.now) (omega (arith, all, long))

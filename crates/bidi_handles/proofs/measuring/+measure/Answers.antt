use Rattle.std.proofs.Common.{◌≡◌, ◌∙◌, ◌+◌, ℕ, List, ◌∷◌, drop, Option, Some, None, Result, Ok, Err, rules, sym, ap, subst, arith}
use Rattle.bidi_tree.specs.Node.{Node, Members, member}
use Rattle.bidi_tree.specs.Outline.{outline_node, named_outlines}
use Rattle.bidi_tree.proofs.OutlineLemmas.{nth}
use Rattle.bidi_params.specs.declared.error_code.ErrorCode.{ErrorCode}
use Rattle.bidi_handles.specs.declared.size.Size.{Size}
use Rattle.bidi_handles.specs.Checks.{◌>>=◌}
use Rattle.bidi_handles.specs.Measured.{in_realm, seen, seen_members, sized}
use Rattle.bidi_handles.specs.Values.{Held, resolved, resolved_members}
use Rattle.bidi_handles.proofs.measuring.+measure.Invariants.{with_members}
use Rattle.bidi_handles.proofs.measuring.+measure.Goals as goal

-- if a member does not resolve, the object does not either
stops : (held : Option Held) (s : Size) (c : ℕ) (k : List ℕ) (t : Node) (ms : Members) (e : ErrorCode)
    → sized (seen held t) ≡ Err e → with_members s c (seen_members held (member k t ms)) ≡ Err e
stops None s c k t ms e is = absurd (cc)
stops (Some held) s c k t ms e is = stopped (resolved held t) is
  where
    stopped : (r : Result Node ErrorCode) → sized r ≡ Err e
        → with_members s c (r >>= (λ u. resolved_members held ms >>= (λ us. Ok (member k u us)))) ≡ Err e
    stopped (Ok u) is = absurd (cc)
    stopped (Err f) is = is

pub measured_members-returns-in_err-measured : goal.measured_members-returns-in_err-measured
measured_members-returns-in_err-measured t c =
    let held = in_realm c.args.realm in
    let ms = c.args.members.now.entries.items in
    let i = c.loop-member.member-index in
    let m = c.member-item.result in
    let code = c.in_err-measured.field-0.0 in
    let here : drop i ms ≡ m ∷ drop (i + 1) ms = subst (λ xs. drop i xs ≡ m ∷ drop (i + 1) xs) c.as_slice-member-items.ensures
    (nth c.as_slice-member-items.result.now i m (omega (arith, c.loop-member-test.true, c.loop-member.auto.member-index-end)) c.member-item.is) in
    let err : c.from_residual.result ≡ Err code = search rules in
    err
    ∙ (sym (stops held c.loop-member.size c.loop-member.comma m.0.now (outline_node m.1) (named_outlines (drop (i + 1) ms)) code
    (sym c.measured.ensures ∙ c.in_err-measured.was))
    ∙ (ap (λ xs. with_members c.loop-member.size c.loop-member.comma (seen_members held (named_outlines xs))) (sym here)
    ∙ c.loop-member.invariant))

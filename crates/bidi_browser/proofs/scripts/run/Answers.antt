use Rattle.std.proofs.Common.{◌≡◌, ◌∙◌, true, false, ap, rules}
use Rattle.std.specs.Prelude.{◌&&◌, option_map}
use Rattle.std.proofs.lemmas.Bool.Decides.{nat_tests}
use Rattle.bidi_contexts.specs.ContextRows.{ContextRow}
use Rattle.bidi_contexts.specs.Realms.{value_of}
use Rattle.bidi_browser.specs.TableInHand.{ending_seen}
use Rattle.bidi_handles.specs.Values.{takes_handle}
use Rattle.bidi_browser.proofs.ScriptLemmas.{ran-unheld, ran-held}
use Rattle.bidi_browser.proofs.scripts.run.Goals.{then-not-owned-via-then-not-owned, then-not-owned-via-else-not-owned+then-not-takes_handle}
use Rattle.bidi_browser.proofs.scripts.run.Goals as goal

pub returns-then-not-owned-clause-ran : goal.returns-then-not-owned-clause-ran
returns-then-not-owned-clause-ran c = λ past k stands ids alive is.
    let value = value_of (ending_seen c.args.ending) in
    let held : (c.args.owned && takes_handle value) ≡ false = elim c.then-not-owned.branch [
      | then-not-owned-via-then-not-owned w ↦ let no = w.if-not-owned.true in grind (rules, nat_tests, no)
      | then-not-owned-via-else-not-owned+then-not-takes_handle w ↦ let no = w.if-not-takes_handle.true in
          let same = w.takes_handle.ensures in
          let of = ap takes_handle w.value_of.ensures in
          grind (rules, nat_tests, no, same, of)
    ] in
    ran-unheld past k c.args.owned (option_map (λ d. d.value) c.args.depth) (ending_seen c.args.ending) c.realm.result _ held (c.realm.ensures.realm ∙ ap (λ (r : ContextRow). r.realm) is) c.in_ok-result.ensures.tree

pub returns-clause-ran : goal.returns-clause-ran
returns-clause-ran c = λ past k stands ids alive is.
    let value = value_of (ending_seen c.args.ending) in
    let held : (c.args.owned && takes_handle value) ≡ true =
    let a = c.if-not-owned.false in
    let b = c.if-not-takes_handle.false in
    let same = c.takes_handle.ensures in
    let of = ap takes_handle c.value_of.ensures in
    grind (rules, nat_tests, a, b, same, of) in
    let next = c.in_ok-number.ensures.next past k stands ids is in
    ran-held past k c.args.owned (option_map (λ d. d.value) c.args.depth) (ending_seen c.args.ending) c.realm-2.result _ c.in_ok-number.number _ c.number.result
    held next.0 next.1 alive (c.realm-2.ensures.realm ∙ ap (λ (r : ContextRow). r.realm) is) (c.number.ensures.number ∙ ap (λ (r : ContextRow). r.number) is) c.in_ok-result-2.ensures.tree
    (ap (λ t. (c.in_ok-number.number, t)) c.into_value.ensures)

use Rattle.std.proofs.Common.{◌≡◌, ◌∙◌, true, string_bytes, ap, subst, arith}
use Rattle.std.specs.Prelude.{IfSome, option_map}
use Rattle.bidi_tree.specs.Node.{levels}
use Rattle.bidi_values.specs.RemoteView.{remote_tree}
use Rattle.bidi_values.proofs.WellLemmas.{remote-well}
use Rattle.bidi_handles.specs.Values.{takes_handle}
use Rattle.bidi_handles.specs.ValuesInHand.{held_tree}
use Rattle.bidi_handles.proofs.ShowingLemmas.{cut-takes, cut_to-levels, with_member-levels}
use Rattle.bidi_handles.proofs.showing.shown.Goals as goal

pub copy-requires : goal.copy-requires
copy-requires c = remote-well c.args.held.now.value c.args.held.now.few

pub with_handle-requires : goal.with_handle-requires
with_handle-requires c =
    let takes = subst (λ handle. IfSome handle (λ n. takes_handle (held_tree c.args.held.now) ≡ true)) c.in-Some.is c.requires.takes in
    ap takes_handle c.cut_to-copy.ensures
    ∙ (cut-takes (option_map (λ d. d.value) c.args.depth) (remote_tree c.in_ok-copy.field-0) ∙ (ap takes_handle c.in_ok-copy.ensures.tree ∙ takes))

pub returns-in_ok-id-in-Some-clause-well : goal.returns-in_ok-id-in-Some-clause-well
returns-in_ok-id-in-Some-clause-well c =
    let few = with_member-levels "handle" (string_bytes c.in_ok-id-in-Some.id) (remote_tree c.cut_to-copy.result) in
    let shown = ap levels c.with_handle.ensures in
    let less = cut_to-levels (option_map (λ d. d.value) c.args.depth) (remote_tree c.in_ok-copy.field-0) in
    let cut = ap levels c.cut_to-copy.ensures in
    let copied = ap levels c.in_ok-copy.ensures.tree in
    let cap = c.args.held.now.few in
    remote-well c.with_handle.result (omega (arith, few, shown, less, cut, copied, cap))

pub returns-in_ok-id-in-Some-clause-few : goal.returns-in_ok-id-in-Some-clause-few
returns-in_ok-id-in-Some-clause-few c =
    let few = with_member-levels "handle" (string_bytes c.in_ok-id-in-Some.id) (remote_tree c.cut_to-copy.result) in
    let shown = ap levels c.with_handle.ensures in
    let less = cut_to-levels (option_map (λ d. d.value) c.args.depth) (remote_tree c.in_ok-copy.field-0) in
    let cut = ap levels c.cut_to-copy.ensures in
    let copied = ap levels c.in_ok-copy.ensures.tree in
    omega (arith, few, shown, less, cut, copied)

pub returns-in-None-clause-well : goal.returns-in-None-clause-well
returns-in-None-clause-well c =
    let less = cut_to-levels (option_map (λ d. d.value) c.args.depth) (remote_tree c.in_ok-copy.field-0) in
    let cut = ap levels c.cut_to-copy.ensures in
    let copied = ap levels c.in_ok-copy.ensures.tree in
    let cap = c.args.held.now.few in
    remote-well c.cut_to-copy.result (omega (arith, less, cut, copied, cap))

pub returns-in-None-clause-few : goal.returns-in-None-clause-few
returns-in-None-clause-few c =
    let less = cut_to-levels (option_map (λ d. d.value) c.args.depth) (remote_tree c.in_ok-copy.field-0) in
    let cut = ap levels c.cut_to-copy.ensures in
    let copied = ap levels c.in_ok-copy.ensures.tree in
    omega (arith, less, cut, copied)

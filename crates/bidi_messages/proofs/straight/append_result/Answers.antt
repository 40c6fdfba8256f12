use Rattle.std.proofs.Common.{◌≡◌, ◌++◌, string_bytes, IfOk, refl, sym, subst}
use Rattle.std.specs.Prelude.{OnOk}
use Rattle.bidi_tree.specs.Node.{IsSound, IsWritable}
use Rattle.bidi_tree.specs.Text.{compact_text}
use Rattle.bidi_tree.proofs.OutlineLemmas.{IsSound-outline_node}
use Rattle.bidi_messages.proofs.StraightLemmas.{if-ok, result-of-navigation, result-of-nothing, subscribed-is, made-is, user-is, one-text}
use Rattle.bidi_messages.proofs.straight.append_result.Goals as goal

pub returns-in-SessionEnd-clause-text : goal.returns-in-SessionEnd-clause-text
returns-in-SessionEnd-clause-text c =
    subst (λ t. IfOk c.append.result (λ s. string_bytes s ≡ string_bytes c.args.text ++ compact_text t))
    (sym (result-of-nothing c.args.result_data.now c.in-SessionEnd.result (c.if-is_empty.ensures refl) c.in-SessionEnd.is)) c.append.ensures

pub returns-in-SessionEnd-clause-sound : goal.returns-in-SessionEnd-clause-sound
returns-in-SessionEnd-clause-sound c =
    if-ok c.append.result (subst IsSound (sym (result-of-nothing c.args.result_data.now c.in-SessionEnd.result (c.if-is_empty.ensures refl) c.in-SessionEnd.is)) (tt, tt))

pub returns-in-SessionSubscribe-clause-text : goal.returns-in-SessionSubscribe-clause-text
returns-in-SessionSubscribe-clause-text c =
    rw c.in-SessionSubscribe.is (one-text c.append_one.result (string_bytes c.args.text) _ _ _ _ (subscribed-is c.in-SessionSubscribe.result (c.if-is_plain.ensures refl).0) c.deref.ensures
    (c.if-is_plain.ensures refl).1 c.append_one.ensures)

pub returns-in-SessionSubscribe-clause-sound : goal.returns-in-SessionSubscribe-clause-sound
returns-in-SessionSubscribe-clause-sound c = rw c.in-SessionSubscribe.is (if-ok c.append_one.result (subscribed-is c.in-SessionSubscribe.result (c.if-is_plain.ensures refl).0).sound)

pub returns-in-BrowsingContextCreate-clause-text : goal.returns-in-BrowsingContextCreate-clause-text
returns-in-BrowsingContextCreate-clause-text c =
    rw c.in-BrowsingContextCreate.is (one-text c.append_one-in-BrowsingContextCreate.result (string_bytes c.args.text) _ _ _ _ (made-is c.in-BrowsingContextCreate.result (c.if-is_plain-2.ensures refl).0) c.deref-in-BrowsingContextCreate.ensures
    (c.if-is_plain-2.ensures refl).1 c.append_one-in-BrowsingContextCreate.ensures)

pub returns-in-BrowsingContextCreate-clause-sound : goal.returns-in-BrowsingContextCreate-clause-sound
returns-in-BrowsingContextCreate-clause-sound c = rw c.in-BrowsingContextCreate.is (if-ok c.append_one-in-BrowsingContextCreate.result (made-is c.in-BrowsingContextCreate.result (c.if-is_plain-2.ensures refl).0).sound)

pub returns-in-BrowserCreateUserContext-clause-text : goal.returns-in-BrowserCreateUserContext-clause-text
returns-in-BrowserCreateUserContext-clause-text c =
    rw c.in-BrowserCreateUserContext.is (one-text c.append_one-in-BrowserCreateUserContext.result (string_bytes c.args.text) _ _ _ _ (user-is c.in-BrowserCreateUserContext.result (c.if-is_plain-3.ensures refl).0) c.deref-in-BrowserCreateUserContext.ensures
    (c.if-is_plain-3.ensures refl).1 c.append_one-in-BrowserCreateUserContext.ensures)

pub returns-in-BrowserCreateUserContext-clause-sound : goal.returns-in-BrowserCreateUserContext-clause-sound
returns-in-BrowserCreateUserContext-clause-sound c = rw c.in-BrowserCreateUserContext.is (if-ok c.append_one-in-BrowserCreateUserContext.result (user-is c.in-BrowserCreateUserContext.result (c.if-is_plain-3.ensures refl).0).sound)

pub returns-in-BrowsingContextNavigate-clause-text : goal.returns-in-BrowsingContextNavigate-clause-text
returns-in-BrowsingContextNavigate-clause-text c =
    subst (λ t. IfOk c.append_navigated.result (λ s. string_bytes s ≡ string_bytes c.args.text ++ compact_text t))
    (sym (result-of-navigation c.args.result_data.now c.in-BrowsingContextNavigate.result c.in-BrowsingContextNavigate.is)) c.append_navigated.ensures.text

pub returns-in-BrowsingContextNavigate-clause-sound : goal.returns-in-BrowsingContextNavigate-clause-sound
returns-in-BrowsingContextNavigate-clause-sound c =
    subst (λ t. OnOk c.append_navigated.result (IsSound t))
    (sym (result-of-navigation c.args.result_data.now c.in-BrowsingContextNavigate.result c.in-BrowsingContextNavigate.is)) c.append_navigated.ensures.sound

pub append_outline-requires : goal.append_outline-requires
append_outline-requires c = subst IsWritable (sym c.in_ok-outline-in_default.ensures) c.requires

pub returns-in_ok-outline-in_default-clause-sound : goal.returns-in_ok-outline-in_default-clause-sound
returns-in_ok-outline-in_default-clause-sound c =
    if-ok c.append_outline.result (subst IsSound c.in_ok-outline-in_default.ensures (IsSound-outline_node c.in_ok-outline-in_default.outline))

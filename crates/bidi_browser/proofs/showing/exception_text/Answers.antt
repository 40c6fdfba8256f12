use Rattle.std.proofs.Common.{◌∙◌}
use Rattle.bidi_tree.specs.Node.{text}
use Rattle.bidi_browser.proofs.ResultLemmas.{exception-text}
use Rattle.bidi_browser.proofs.showing.exception_text.Goals as goal

pub returns : goal.returns
returns c = λ t is.
    exception-text _ _ _ _ _ _ c.deref.result.now c.args.value.now (text c.args.realm.now) t c.in_ok-text.ensures.bytes c.in_ok-push_str.ensures.bytes
    c.in_ok-push_str-2.ensures.bytes c.in_ok-push_str-3.ensures.bytes c.in_ok-push_str-4.ensures.bytes c.in_ok-push_str-5.ensures.bytes
    (c.deref.ensures ∙ c.in_ok-realm.ensures) is

use Rattle.std.proofs.Common.{◌∙◌, ap, refl, subst}
use Rattle.bidi_requests.specs.Requests.{IsMethod}
use Rattle.bidi_requests.specs.Targets.{resource_of}
use Rattle.bidi_requests.proofs.AskingLemmas.{called-asked}
use Rattle.bidi_requests.proofs.asking.called.Goals as goal

pub returns : goal.returns
returns c =
    called-asked c.args.bytes.now c.args.spans.now c.args.request.now c.requires.head.0 c.requires.head.1 c.requires.short c.requires.call _ c.args.body.items c.args.count
    (subst (λ m. IsMethod m c.method_of.result) c.of.ensures c.method_of.ensures) (c.in_ok-resource_text.ensures ∙ ap resource_of c.of-2.ensures) refl c.requires.few
    (c.requires.has c.requires.head.0 c.requires.head.1)

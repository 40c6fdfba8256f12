use Rattle.std.proofs.Common.{◌∙◌, sym}
use Rattle.std.proofs.lemmas.List.{at_drop_all}
use Rattle.bidi_requests.specs.Extensions.{ends_well}
use Rattle.bidi_requests.proofs.ExtensionLemmas.{extended}
use Rattle.bidi_requests.proofs.extensions.is_extended.Goals as goal

pub returns : goal.returns
returns c =
    λ l is parts.
    let ends = extended l is c.args.line.now parts in
    let told = c.may_end.ensures ∙ sym (at_drop_all (ends_well c.loop-byte.place) c.args.line.now c.loop-byte.byte-index c.loop-byte-test.false) ∙ sym c.loop-byte.invariant in
    (λ yes. ends.0 (sym told ∙ yes), λ ext. told ∙ ends.1 ext)

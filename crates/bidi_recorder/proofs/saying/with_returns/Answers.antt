use Rattle.std.proofs.Common.{List, ℕ, encode_utf8_all, sym, ap, ◌∙◌, map-id}
use Rattle.std.proofs.lemmas.Iterator.{YieldsList-from_chars}
use Rattle.std.proofs.lemmas.Iterator.Consumers.{YieldsList-end}
use Rattle.std.proofs.lemmas.Str.{encodes-chars}
use Rattle.bidi_recorder.specs.OneLine.{with_returns}
use Rattle.bidi_recorder.proofs.FeedLemmas.{encodes_same}
use Rattle.bidi_recorder.proofs.saying.with_returns.Goals as goal

pub returns : goal.returns
returns c =
    let end = YieldsList-end (YieldsList-from_chars c.args.text.now c.utf8.text cc) c.loop-letter.yielded _ c.loop-letter.yielded_by _ _ c.in-None.is c.next.ensures.steps in
    let all = sym (map-id c.loop-letter.yielded) ∙ end.0 in
    c.loop-letter.invariant ∙ encodes_same c.loop-letter.yielded ∙ ap (λ (cs : List ℕ). with_returns (encode_utf8_all cs)) all ∙ ap with_returns (encodes-chars c.args.text.now c.utf8.text)

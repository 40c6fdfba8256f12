use Rattle.std.proofs.Common.{◌++◌, List, ℕ, encode_utf8_all, string_bytes, sym, ap, ◌∙◌, map-id}
use Rattle.std.proofs.lemmas.Iterator.{YieldsList-from_chars}
use Rattle.std.proofs.lemmas.Iterator.Consumers.{YieldsList-end}
use Rattle.std.proofs.lemmas.Str.{encodes-chars}
use Rattle.bidi_grammar.specs.Words.{escaped}
use Rattle.bidi_grammar.proofs.WordLemmas.{escaped-encode_utf8_all}
use Rattle.bidi_grammar.proofs.words.push_name.Goals as goal

pub returns : goal.returns
returns c =
    let end = YieldsList-end (YieldsList-from_chars c.args.name.now c.utf8.name cc) c.loop-letter.yielded _ c.loop-letter.yielded_by _ _ c.in-None.is c.next.ensures.steps in
    let all = sym (map-id c.loop-letter.yielded) ∙ end.0 in
    let bytes = escaped-encode_utf8_all c.loop-letter.yielded ∙ ap (λ (cs : List ℕ). escaped (encode_utf8_all cs)) all ∙ ap escaped (encodes-chars c.args.name.now c.utf8.name) in
    c.loop-letter.invariant ∙ ap (λ (t : List ℕ). string_bytes c.args.text.now ++ t) bytes

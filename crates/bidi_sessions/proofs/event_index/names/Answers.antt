use Rattle.std.proofs.Common.{◌∙◌, rules}
use Rattle.std.proofs.lemmas.List.Sorted.{answers_always}
use Rattle.bidi_sessions.proofs.IndexLemmas.{found-any}
use Rattle.bidi_sessions.proofs.event_index.names.Goals as goal

pub returns : goal.returns
returns c = λ up.
    let search_by = c.binary_search_by_key.ensures in
    c.is_ok.ensures.value ∙ found-any c.args.pairs.now up c.args.number c.binary_search_by_key.result search_by.bound
    (search_by.position (λ p. p.0) (answers_always _ _ _ (λ f a r g called. search rules)))

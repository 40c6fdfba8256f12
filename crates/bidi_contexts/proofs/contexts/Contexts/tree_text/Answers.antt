use Rattle.bidi_contexts.proofs.InfoTextLemmas.{text-same}
use Rattle.bidi_contexts.proofs.contexts.Contexts.tree_text.Goals as goal

pub returns : goal.returns
returns c =
    text-same c.tree_text.result _ _ c.tree_text.ensures
    (λ infos told. λ past k table row. told past k row (λ deep. c.shown_below.ensures past k table row deep))

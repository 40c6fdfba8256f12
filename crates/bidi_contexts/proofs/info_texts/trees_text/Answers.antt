use Rattle.std.proofs.Common.{◌∙◌, ◌++◌, ap}
use Rattle.std.specs.Prelude.{flat_map}
use Rattle.bidi_tree.specs.Data.{tokens_of}
use Rattle.bidi_contexts.proofs.InfoTextLemmas.{told-text}
use Rattle.bidi_contexts.proofs.info_texts.trees_text.Goals as goal

pub ended-requires : goal.ended-requires
ended-requires c = c.in_ok-write_tops.ensures.before ∙ c.in_ok-out.ensures.before

pub returns : goal.returns
returns c =
    let is = c.in_ok-write_tops.ensures in
    told-text c.ended.result is.infos _
    (c.ended.ensures is.infos is.well (is.tokens ∙ ap (λ s. s ++ flat_map tokens_of is.infos) c.in_ok-out.ensures.tokens)) is.well is.told

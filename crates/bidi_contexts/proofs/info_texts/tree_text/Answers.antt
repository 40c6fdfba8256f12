use Rattle.std.proofs.Common.{◌∙◌, ◌++◌, ap, arith}
use Rattle.std.specs.Prelude.{flat_map}
use Rattle.bidi_tree.specs.Data.{tokens_of}
use Rattle.bidi_contexts.proofs.InfoTextLemmas.{told-text}
use Rattle.bidi_contexts.proofs.info_texts.tree_text.Goals as goal

pub ended-requires : goal.ended-requires
ended-requires c = c.in_ok-write_info.ensures.before ∙ c.in_ok-out.ensures.before

pub returns : goal.returns
returns c =
    let is = c.in_ok-write_info.ensures in
    told-text c.ended.result is.infos _
    (c.ended.ensures is.infos is.well (is.tokens ∙ ap (λ s. s ++ flat_map tokens_of is.infos) c.in_ok-out.ensures.tokens)) is.well
    (λ past k row below. is.told past k row below (omega arith))

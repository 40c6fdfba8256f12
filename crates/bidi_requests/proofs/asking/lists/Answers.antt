use Rattle.std.proofs.Common.{rules}
use Rattle.std.specs.Prelude.{◌==◌}
use Rattle.std.proofs.lemmas.Iterator.Search.{any_from_yields_List}
use Rattle.std.proofs.lemmas.Iterator.Splits.{YieldsList-from_slice_split}
use Rattle.bidi_requests.specs.Requests.{is_word, lists}
use Rattle.bidi_requests.proofs.asking.lists.Goals as goal

pub returns : goal.returns
unfolding lists
returns c =
    any_from_yields_List (is_word c.args.word.now) _ _ _ c.any.ensures.ran
    (YieldsList-from_slice_split _ (λ b. b == 44) c.args.value.now (search rules) (search rules) (search rules) (λ x b q k. search rules)) (λ x b q k. search rules)

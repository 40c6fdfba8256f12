use Rattle.std.proofs.Common.{◌∙◌, ap}
use Rattle.std.specs.Prelude.{codes}
use Rattle.std.proofs.lemmas.Str.Pattern.{ends_text}
use Rattle.bidi_names.specs.Replies.{ends_in}
use Rattle.bidi_names.proofs.replies.is_success.Goals as goal

pub returns-in-Some : goal.returns-in-Some
returns-in-Some c =
    ends_text c.ends_with.result (codes ",\"type\":\"success\"}") c.in-Some.text.now c.ends_with.ensures.cases ∙ ap (ends_in (codes ",\"type\":\"success\"}")) c.in-Some.ensures

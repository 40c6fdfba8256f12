use Rattle.std.proofs.Common.{◌∙◌, sym, ap}
use Rattle.std.specs.Result.{result_ok}
use Rattle.std.proofs.lemmas.Option.{same_Some}
use Rattle.bidi_contexts.proofs.UrlFacts.{about_blank_is_the_url_of_its_text}
use Rattle.bidi_contexts.proofs.urls.about_blank.Goals as goal

pub returns-in-Ok : goal.returns-in-Ok
returns-in-Ok c = same_Some _ _ (sym (ap result_ok c.in-Ok.ensures) ∙ about_blank_is_the_url_of_its_text)

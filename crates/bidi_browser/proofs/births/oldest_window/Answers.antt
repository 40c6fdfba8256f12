use Rattle.std.proofs.Common.{◌∙◌, Some, None, sym, ap}
use Rattle.std.specs.Prelude.{option_map}
use Rattle.bidi_contexts.specs.ContextRows.{row_of}
use Rattle.bidi_browser.proofs.PlanLemmas.{window-stands}
use Rattle.bidi_browser.proofs.births.oldest_window.Goals as goal

pub returns-in-Some-clause-window : goal.returns-in-Some-clause-window
returns-in-Some-clause-window c = λ past table.
    window-stands past c.oldest.result (Some c.window.result)
    (ap Some c.window.ensures.window ∙ sym (ap (option_map (λ x. (row_of x.now).window)) c.in-Some.is)) (c.oldest.ensures past table)

pub returns-in-None-clause-window : goal.returns-in-None-clause-window
returns-in-None-clause-window c =
    λ past table. window-stands past c.oldest.result None (sym (ap (option_map (λ x. (row_of x.now).window)) c.in-None.is)) (c.oldest.ensures past table)

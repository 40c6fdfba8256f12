use Rattle.std.proofs.Common.{◌∙◌, Some, map, string_bytes, sym, ap}
use Rattle.std.specs.Prelude.{option_map}
use Rattle.bidi_browser.specs.TableInHand.{row_seen}
use Rattle.bidi_handles.specs.Resolves.{stands_for}
use Rattle.bidi_browser.proofs.CallLemmas.{gives-ending}
use Rattle.bidi_browser.proofs.scripts.ending_of.Goals as goal

pub returns-in-Some-GivesBack : goal.returns-in-Some-GivesBack
returns-in-Some-GivesBack c = λ past stands.
    gives-ending c.returned.result past (string_bytes c.args.script.now) (map stands_for c.args.arguments.now) _
    (sym (c.get.ensures past stands.table) ∙ (ap (option_map (λ row. row_seen row.now)) c.in-Some-GivesBack.is
    ∙ ap (λ row. Some (row_seen row)) c.in-Some-GivesBack.field-0-is)) c.returned.ensures

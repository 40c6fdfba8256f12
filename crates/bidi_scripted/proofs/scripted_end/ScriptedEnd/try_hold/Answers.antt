use Rattle.std.proofs.Common.{refl}
use Rattle.bidi_scripted.proofs.FateLemmas.{anyway}
use Rattle.bidi_scripted.proofs.scripted_end.ScriptedEnd.try_hold.Goals as goal

pub returns-then-not-has_room_for_command-clause-err : goal.returns-then-not-has_room_for_command-clause-err
returns-then-not-has_room_for_command-clause-err c = anyway c.refuse.result refl

use Rattle.std.proofs.Common.{◌≡◌, ◌++◌, map, take}
use Rattle.bidi_contexts.specs.ContextRows.{row_of, realm_created_in}
use Rattle.bidi_contexts.specs.View.{AreWell}
use Rattle.bidi_contexts.specs.View.{seen}
use Rattle.bidi_contexts.proofs.telling.push_realms.Given as goal

abbrev pub invariant-loop-context : goal.invariant-loop-context
invariant-loop-context l = record {
  told : seen l.all.items ≡ seen l.initial.all.items ++ map realm_created_in (map row_of (take l.context-index l.contexts));
  well : AreWell l.initial.all.items → AreWell l.all.items;
}

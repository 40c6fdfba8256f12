use Rattle.std.proofs.Common.{◌≡◌, map, take}
use Rattle.std.specs.List.{AllByRecursion}
use Rattle.bidi_scripts.specs.contracts.realms.RealmInfoShape.TheImpl.{ghosts}
use Rattle.bidi_contexts.specs.ContextRows.{row_of, realm_info_in}
use Rattle.bidi_browser.proofs.looking.realm_infos.Given as goal

abbrev pub invariant-loop-context : goal.invariant-loop-context
invariant-loop-context l = record {
  tree : map ghosts.shape.tree_of l.all.items ≡ map (λ c. realm_info_in (row_of c)) (take l.context-index l.contexts);
  well : AllByRecursion (λ r. ghosts.shape.well r) l.all.items;
}

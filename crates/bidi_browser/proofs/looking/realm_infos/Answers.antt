use Rattle.bidi_scripts.specs.contracts.realms.RealmInfoShape.TheImpl.{ghosts}
use Rattle.bidi_contexts.specs.ContextRows.{row_of, realm_info_in}
use Rattle.bidi_contexts.proofs.PushLemmas.{seen-more, AllByRecursion-more}
use Rattle.bidi_browser.proofs.looking.realm_infos.Goals as goal

pub loop-context-preserved : goal.loop-context-preserved
loop-context-preserved c =
    let held = c.loop-context in
    let one = c.in_ok-own_realm in record {
      tree =
          seen-more ghosts.shape.tree_of (λ x. realm_info_in (row_of x)) c.args.contexts.now held.context-index c.context-item.result
          held.all.items c.push.new.self.items one.field-0
          c.loop-context-test.true c.context-item.is held.invariant.tree c.in_ok-push.ensures.items one.ensures.tree;
      well =
          AllByRecursion-more (λ r. ghosts.shape.well r) held.all.items c.push.new.self.items one.field-0 c.in_ok-push.ensures.items
          held.invariant.well one.ensures.well;
    }

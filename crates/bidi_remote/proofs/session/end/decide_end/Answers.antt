use Rattle.std.proofs.Common.{[], ◌∷◌, refl, ap}
use Rattle.bidi_browser.specs.Occurs.{Replies}
use Rattle.bidi_browser.specs.declared.command_result.CommandResult.TheVariants.{Data}
use Rattle.bidi_remote.specs.declared.turn.Change.TheVariants as change
use Rattle.bidi_remote.specs.Machine.Commands.{End}
use Rattle.bidi_remote.proofs.DecideLemmas.{replied-decides}
use Rattle.bidi_remote.proofs.session.end.decide_end.Goals as goal

pub returns-clause-ok : goal.returns-clause-ok
returns-clause-ok c = λ past.
    replied-decides c.replied.result past c.args.asker End _ (change.End c.args.session) (Data c.end_result.result) tt
    c.replied.ensures.change c.replied.ensures.before c.replied.ensures.reply c.replied.ensures.after refl
    (ap (λ t. Replies t ∷ []) c.end_result.ensures.tree) c.replied.ensures.announced refl

use Rattle.std.proofs.Common.{◌≡◌, ◌∙◌, [], ◌∷◌, refl, sym, ap, arith}
use Rattle.bidi_tree.specs.Node.{text, no_members}
use Rattle.bidi_handles.specs.declared.id.IdKind.TheVariants.{Session}
use Rattle.bidi_handles.specs.Ids.{id_of}
use Rattle.bidi_handles.specs.Maps.{◌being◌and◌, mapped}
use Rattle.bidi_browser.specs.Occurs.{Replies}
use Rattle.bidi_browser.specs.declared.command_result.CommandResult.TheVariants.{Data}
use Rattle.bidi_params.specs.contracts.session.capabilities.NewParametersShape.TheImpl.{ghosts}
use Rattle.bidi_remote.specs.declared.turn.Change.TheVariants.{Begin}
use Rattle.bidi_sessions.specs.Capabilities.{capabilities, request_of}
use Rattle.bidi_remote.specs.Machine.Commands.{New}
use Rattle.bidi_remote.specs.Machine.Sessions.{next_session}
use Rattle.bidi_remote.proofs.DecideLemmas.{replied-decides, is_ready-rows, new-began}
use Rattle.bidi_remote.proofs.session.new.decide_new.Goals as goal

pub returns-clause-ok : goal.returns-clause-ok
returns-clause-ok c = λ past a few.
    let conn = c.args.asker.conn in
    let request = request_of (ghosts.shape.tree_of c.args.params.now) in
    let made = a.made in
    let next : c.next.result ≡ next_session past = let n = c.next.ensures (omega (arith, made, few)) in omega (arith, n, made) in
    replied-decides c.replied.result past c.args.asker (New request) _ (Begin conn c.in_ok-missed.missed) (Data c.in_ok-new_result.field-0) c.in_ok-missed.ensures
    c.replied.ensures.change c.replied.ensures.before c.replied.ensures.reply c.replied.ensures.after
    (new-began past conn.value request c.match_capabilities.result c.match_capabilities.ensures c.in_default.not-Err
    (sym c.if-not-is_ready.false ∙ is_ready-rows c.args.state.now past c.is_ready.result a c.is_ready.ensures))
    (ap (λ t. Replies t ∷ []) (c.in_ok-new_result.ensures.tree
    ∙ ap (λ n. mapped ("capabilities" being capabilities and "sessionId" being text (id_of Session n) and no_members)) next))
    c.replied.ensures.announced refl

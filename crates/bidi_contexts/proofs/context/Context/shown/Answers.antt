use Rattle.std.proofs.Common.{◌∙◌, None, ap, rules}
use Rattle.bidi_params.specs.InfoView.{OwnMembers}
use Rattle.bidi_params.specs.declared.browsing_context.info.Info.{the_lemmas}
use Rattle.bidi_handles.specs.Ids.{id_of}
use Rattle.bidi_handles.specs.declared.id.IdKind.TheVariants.{Window}
use Rattle.bidi_contexts.specs.Places.{present}
use Rattle.bidi_contexts.specs.Urls.{url_text}
use Rattle.bidi_contexts.specs.Users.{user_id}
use Rattle.bidi_contexts.specs.ContextRows.{row_of}
use Rattle.bidi_contexts.proofs.InfoLemmas.{info-told, info-within, beside-told, beside-well}
use Rattle.bidi_contexts.proofs.context.Context.shown.Goals as goal

-- what stands beside the children
abbrev beside : goal.After-empty → OwnMembers
beside c =
    (c.in_ok-id_text.field-0, (c.in_ok-id_text-2.field-0, (None, (c.in_ok-from_str.field-0, (c.in_ok-user_text.field-0, (c.args.parent, c.empty.result))))))

pub returns-clause-tree : goal.returns-clause-tree
returns-clause-tree c =
    info-told _ (beside c) c.args.children _ (search (rules, the_lemmas))
    (λ x. beside-told c.in_ok-id_text.field-0 c.in_ok-id_text-2.field-0 c.in_ok-from_str.field-0 c.in_ok-user_text.field-0 c.args.parent
    c.empty.result (row_of c.args.self.now) x
    (c.in_ok-id_text.ensures ∙ ap (id_of Window) c.window.ensures.window) c.in_ok-id_text-2.ensures
    (c.in_ok-from_str.ensures.ok ∙ (c.as_str.ensures.value ∙ (ap url_text c.present.ensures ∙ ap (λ e. url_text (present e)) c.history.ensures)))
    (c.in_ok-user_text.ensures ∙ ap user_id c.user.ensures.user) c.empty.ensures)

pub returns-clause-well : goal.returns-clause-well
returns-clause-well c = λ n within few.
    info-within n _ (beside c) c.args.children c.args.parent (row_of c.args.self.now) (search (rules, the_lemmas))
    (beside-well c.in_ok-id_text.field-0 c.in_ok-id_text-2.field-0 c.in_ok-from_str.field-0 c.in_ok-user_text.field-0 c.args.parent
    c.empty.result c.empty.ensures)
    (returns-clause-tree c) within few

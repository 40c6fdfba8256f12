use Rattle.std.proofs.Common.{◌∙◌, ◌++◌, ◌∷◌, [], codes, ap}
use Rattle.json.specs.Token.{key, string}
use Rattle.bidi_handles.specs.Ids.{id_of}
use Rattle.bidi_handles.specs.declared.id.IdKind.TheVariants.{Window}
use Rattle.bidi_contexts.specs.Urls.{url_text}
use Rattle.bidi_contexts.specs.Users.{user_id}
use Rattle.bidi_contexts.specs.Places.{present}
use Rattle.bidi_contexts.specs.ContextRows.{row_of}
use Rattle.bidi_contexts.specs.InfosWritten.{parent_at}
use Rattle.bidi_contexts.proofs.InfoTextLemmas.{on-ok, own-written}
use Rattle.bidi_contexts.proofs.info_texts.write_own.Goals as goal

pub returns-clause-tokens : goal.returns-clause-tokens
returns-clause-tokens c = λ ts children at.
    on-ok c.end_object.result c.end_object.ensures.ok
    (own-written (parent_at c.args.is_root (row_of c.args.context.now)) (row_of c.args.context.now) children ts _ _ _ _ _ _ _ _ at
    (c.in_ok-write_id.ensures.tokens
    ∙ ap (λ n. c.args.out.now.tokens ++ (key (codes "clientWindow") ∷ string (id_of Window n) ∷ [])) c.window.ensures.window)
    c.in_ok-write_id-2.ensures.tokens c.in_ok-write_null.ensures.tokens c.in_ok-write_parent.ensures.tokens
    (c.in_ok-write_text.ensures.tokens ∙ ap (λ s. c.write_parent.new.out.tokens ++ (key (codes "url") ∷ string s ∷ []))
    (c.as_str.ensures.value ∙ (ap url_text c.present.ensures ∙ ap (λ e. url_text (present e)) c.history.ensures)))
    (c.in_ok-write_text-2.ensures.tokens ∙ ap (λ s. c.write_text.new.out.tokens ++ (key (codes "userContext") ∷ string s ∷ []))
    (c.deref.ensures ∙ (c.in_ok-user_text.ensures ∙ ap user_id c.user.ensures.user))))

use Rattle.std.proofs.Common.{◌∙◌, ap, codes, refl, sym}
use Rattle.json.specs.Value.{value_view}
use Rattle.bidi_rows.proofs.NumberLemmas.{object_numbers}
use Rattle.bidi_rows.specs.Rows.{compact}
use Rattle.bidi_classic.specs.Replies.{with_url}
use Rattle.bidi_classic.proofs.ReplyLemmas.{session-joins}
use Rattle.bidi_classic.proofs.replies.session_reply.Goals as goal

pub with_url-requires : goal.with_url-requires
with_url-requires c =
    object_numbers (codes "capabilities") (value_view c.args.found.now) (value_view c.in-Some-object_at.capabilities.now) (sym c.in-Some-object_at.ensures) c.requires

pub returns : goal.returns
returns c =
    let id = c.in-Some.id.now in
    let capabilities = value_view c.in-Some-object_at.capabilities.now in
    let first = c.in_ok-capabilities.ensures ∙ ap (λ u. compact (with_url u capabilities)) (c.as_str.ensures.value ∙ c.in_ok-url.ensures.ok) in (
      id,
      sym c.in-Some.ensures,
      (capabilities, sym c.in-Some-object_at.ensures, refl, session-joins c.args.port id capabilities _ _ _ c.in_ok-json.ensures.ok first c.in_ok-id.ensures),
    )

use Rattle.std.proofs.Common.{◌≡◌, ◌∙◌, ℕ, [], Global, Vec, ap, sym}
use Rattle.json.proofs.Trees.{view-Object}
use Rattle.json.specs.Value.{members_view, value_view}
use Rattle.bidi_rows.specs.Rows.{compact}
use Rattle.bidi_classic.specs.Replies.{with_url}
use Rattle.bidi_classic.proofs.ReplyLemmas.{address-text}
use Rattle.bidi_classic.proofs.capabilities.with_url.Goals as goal

pub returns : goal.returns
returns c =
    let members = members_view c.in-Object.members.items in
    let front : c.write_others.new.out.before ≡ [] =
    c.in_ok-write_others.ensures.before ∙ c.string.ensures.room.0 ∙ c.key.ensures.room.0 ∙ c.begin_object.ensures.room.0 ∙ c.new-out.ensures.before ∙ c.new.ensures.items in
    let view = ap value_view c.in-Object.is ∙ view-Object c.in-Object.members in
    let text = address-text c.args.url.now members _ c.new-out.result.tokens c.begin_object.new.self.tokens c.key.new.self.tokens c.string.new.self.tokens c.write_others.new.out.tokens front
    c.new-out.ensures.tokens c.in_ok-begin_object.ensures.ok c.in_ok-key.ensures.ok c.in_ok-string.ensures.ok c.in_ok-write_others.ensures.ok in
    ap (λ (v : Vec ℕ Global). v.items) c.from_utf8_unchecked.ensures.value ∙ c.into_inner.ensures.items ∙ text ∙ ap (λ v. compact (with_url c.args.url.now v)) (sym view)

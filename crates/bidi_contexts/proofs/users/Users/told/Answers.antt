use Rattle.std.proofs.Common.{◌∙◌, ◌++◌, ◌∷◌, ap, string_bytes}
use Rattle.std.specs.Prelude.{flat_map}
use Rattle.bidi_tree.specs.Text.{compact_text}
use Rattle.bidi_contexts.specs.Users.{user_info}
use Rattle.bidi_contexts.specs.declared.users.User.{User}
use Rattle.bidi_contexts.proofs.UserTextLemmas.{told-all}
use Rattle.bidi_contexts.proofs.users.Users.told.Goals as goal

pub returns : goal.returns
returns c =
    told-all (λ (u : User). u.number) c.args.self.now.live.items _ _ _ _ c.in_ok-text.ensures.bytes c.in_ok-push_str.ensures.bytes
    (c.in_ok-push_told.ensures ∙ ap (λ us. string_bytes c.push_str.new.self ++ flat_map (λ u. 44 ∷ compact_text (user_info u.number)) us) c.deref.ensures.value)
    c.in_ok-push_str-2.ensures.bytes

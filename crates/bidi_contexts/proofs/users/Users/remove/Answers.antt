use Rattle.std.proofs.Common.{◌∙◌, ℕ, map, filter, ap, sym, rules}
use Rattle.std.specs.Prelude.{◌==◌, not}
use Rattle.std.proofs.lemmas.Fn.{filter_same}
use Rattle.bidi_handles.proofs.ListLemmas.{filter-map}
use Rattle.bidi_contexts.specs.declared.users.User.{User}
use Rattle.bidi_contexts.proofs.UserLemmas.{others-removed}
use Rattle.bidi_contexts.proofs.users.Users.remove.Goals as goal

pub returns : goal.returns
returns c = λ past users.
    let other = λ (n : ℕ). not (n == c.args.number) in record {
      live =
          ap (map (λ (u : User). u.number))
          (filter_same _ (λ (u : User). other u.number) _ (λ x b f' k. search rules) _ _ c.retain.ensures.filtered)
          ∙ (sym (filter-map (λ (u : User). u.number) other c.args.self.now.live.items)
          ∙ (ap (filter other) users.live ∙ sym (others-removed past c.args.number)));
      next = users.next;
    }

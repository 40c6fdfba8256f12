use Rattle.std.proofs.Common.{◌≡◌, ◌∙◌, ◌+◌, ◌∷◌, [], ◌++◌, ℕ, suc, map, sym, ap, ap₂, arith}
use Rattle.std.proofs.lemmas.List.{map-append}
use Rattle.bidi_contexts.specs.declared.users.User.{User}
use Rattle.bidi_contexts.proofs.UserLemmas.{others-made}
use Rattle.bidi_contexts.proofs.users.Users.add.Goals as goal

pub returns-then-self-lt-NO_ID : goal.returns-then-self-lt-NO_ID
returns-then-self-lt-NO_ID c = λ past users ids accepted. record {
  live =
      ap (map (λ (u : User). u.number)) c.push_reserved.ensures.items
      ∙ (map-append (λ (u : User). u.number) c.args.self.now.live.items _
      ∙ (ap₂ (λ ns n. ns ++ n ∷ []) users.live users.next ∙ sym (others-made past accepted)));
  next = one-more c.args.self.now.next ∙ ap suc users.next;
}
  where
    one-more : (n : ℕ) → n + 1 ≡ suc n
    one-more n = omega arith

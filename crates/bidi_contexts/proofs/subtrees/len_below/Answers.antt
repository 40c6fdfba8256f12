use Rattle.std.proofs.Common.{◌≡◌, ◌∙◌, ◌≤◌, length, sym, ap, subst}
use Rattle.std.specs.Prelude.{unwrap_or, nat_le}
use Rattle.std.specs.List.{position_or_len}
use Rattle.bidi_contexts.specs.declared.context.Context.{Context}
use Rattle.bidi_contexts.proofs.RowLemmas.{position-or, position-le}
use Rattle.bidi_contexts.proofs.subtrees.len_below.Goals as goal

pub returns-clause-is : goal.returns-clause-is
returns-clause-is c =
    let p = λ (x : Context). nat_le x.details.value.level c.level.result in
    c.unwrap_or.ensures
    ∙ (ap (λ o. unwrap_or o (length c.args.behind.now)) c.first_at.ensures
    ∙ (position-or p c.args.behind.now ∙ ap (λ l. position_or_len (λ (x : Context). nat_le x.details.value.level l) c.args.behind.now) c.level.ensures))

pub returns-clause-within : goal.returns-clause-within
returns-clause-within c =
    let xs = c.args.behind.now in
    let p = λ (x : Context). nat_le x.details.value.level c.level.result in
    let is : c.unwrap_or.result ≡ position_or_len p xs =
    c.unwrap_or.ensures ∙ (ap (λ o. unwrap_or o (length xs)) c.first_at.ensures ∙ position-or p xs) in
    subst (λ n. n ≤ length xs) (sym is) (position-le p xs)

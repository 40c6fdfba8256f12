use Rattle.std.proofs.Common.{◌≡◌, ◌∙◌, ◌++◌, ◌∷◌, [], map, append-nil, sym, ap, subst}
use Rattle.std.proofs.lemmas.Map.Iter.{rest_all, rest_more}
use Rattle.std.proofs.lemmas.List.{map-append, append_assoc}
use Rattle.std.specs.List.{AllByRecursion}
use Rattle.bidi_sessions.proofs.ListLemmas.{all-append}
use Rattle.bidi_ledger.specs.Link.{link, account}
use Rattle.bidi_link.specs.Rows.{account_in_hand}
use Rattle.bidi_ledger.specs.Steps.{account_seen, AccountIsWell}
use Rattle.bidi_link.proofs.StepLemmas.{rows-accounts}
use Rattle.bidi_link.proofs.WellLemmas.{AgreesWithSome, rows-agree}
use Rattle.bidi_link.proofs.ends.Ends.into_ledger.Goals as goal

pub loop-link-preserved : goal.loop-link-preserved
loop-link-preserved c =
    let more = rest_more (λ x. x) c.loop-link.link-iterator c.next.new.self c.next.result c.in-Some.link c.in-Some.is c.next.ensures.steps in
    let accounts = map account_seen c.loop-link.accounts.items in
    let p = c.into_account.result in (
      ap (λ xs. xs ++ map account_in_hand c.next.new.self) (ap (map account_seen) c.in_ok-push.ensures.items ∙ map-append account_seen c.loop-link.accounts.items (p ∷ []))
          ∙ (append_assoc accounts (account_seen p ∷ []) (map account_in_hand c.next.new.self)
          ∙ (ap (λ x. accounts ++ x ∷ map account_in_hand c.next.new.self) c.into_account.ensures.account
          ∙ (sym (ap (λ rest. accounts ++ map account_in_hand rest) more) ∙ c.loop-link.invariant.0))),
      λ agree.
          let so_far = c.loop-link.invariant.1 agree in
          let left = subst (AllByRecursion AgreesWithSome) more so_far.1 in (
            subst (AllByRecursion AccountIsWell) (sym c.in_ok-push.ensures.items)
                (all-append AccountIsWell c.loop-link.accounts.items (p ∷ []) so_far.0 (c.into_account.ensures.well left.0.0 left.0.1 left.0.2, tt)),
            left.1,
          ),
    )

pub returns-clause-accounts : goal.returns-clause-accounts
returns-clause-accounts c = λ past stands.
    let accounts = map account_seen c.loop-link.accounts.items in
    let none : c.loop-link.link-iterator ≡ [] = rest_all (λ x. x) c.loop-link.link-iterator c.next.new.self c.next.result c.in-None.is c.next.ensures.steps in
    sym (append-nil accounts) ∙ (sym (ap (λ rest. accounts ++ map account_in_hand rest) none) ∙ (c.loop-link.invariant.0
    ∙ (rows-accounts (link past) c.args.self.links.entries stands.rows ∙ ap (map (λ l. account l (link past l))) stands.numbers)))

pub returns-clause-well : goal.returns-clause-well
returns-clause-well c = λ past stands. (c.loop-link.invariant.1 (rows-agree (link past) c.args.self.links.entries stands.rows)).0

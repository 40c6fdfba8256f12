use Rattle.std.proofs.Common.{◌∙◌, ◌∷◌, sym, subst}
use Rattle.std.specs.Prelude.{string_bytes}
use Rattle.bidi_ledger.specs.Pairing.{history}
use Rattle.bidi_link.specs.Stands.{Both}
use Rattle.bidi_link.proofs.StandLemmas.{found-link}
use Rattle.bidi_link.proofs.StepLemmas.{opens-known, open-linked, open-denied}
use Rattle.bidi_link.proofs.ends.Ends.open.Goals as goal

pub returns-then-contains_key-clause-ok : goal.returns-then-contains_key-clause-ok
returns-then-contains_key-clause-ok c = λ past s sane.
    let l = c.args.number.value in
    let there = sym (found-link c.args.self.now past l s) ∙ (sym c.contains_key.ensures ∙ c.if-contains_key.true) in
    subst (Both c.args.self.now) (sym (opens-known past l (string_bytes c.args.resource) there)) (s, sane)

pub returns-in_ok-add-clause-ok : goal.returns-in_ok-add-clause-ok
returns-in_ok-add-clause-ok c = λ past s sane.
    let l = c.args.number.value in
    let none = sym (found-link c.args.self.now past l s) ∙ (sym c.contains_key.ensures ∙ c.if-contains_key.false) in
    let handed = c.in_ok-hand.ensures.ok in
    let t = handed.2 past s in
    open-linked c.hand.new.self _ past l (string_bytes c.args.resource) handed.0 handed.1 none t.0 t.2 sane
    (sym (c.is_open.ensures (handed.0 ∷ history past) t.0.remote) ∙ c.if-is_open.true) c.in_ok-add.ensures.rows

pub returns-else-is_open-clause-ok : goal.returns-else-is_open-clause-ok
returns-else-is_open-clause-ok c = λ past s sane.
    let l = c.args.number.value in
    let none = sym (found-link c.args.self.now past l s) ∙ (sym c.contains_key.ensures ∙ c.if-contains_key.false) in
    let handed = c.in_ok-hand.ensures.ok in
    let t = handed.2 past s in
    open-denied c.hand.new.self past l (string_bytes c.args.resource) handed.0 handed.1 none t.0 t.2 sane
    (sym (c.is_open.ensures (handed.0 ∷ history past) t.0.remote) ∙ c.if-is_open.false)

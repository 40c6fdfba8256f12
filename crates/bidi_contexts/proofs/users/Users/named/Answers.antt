use Rattle.std.proofs.Common.{◌≡◌, ◌∙◌, false, map, None, ap, sym, rules}
use Rattle.std.specs.Prelude.{bytes_eq, codes}
use Rattle.bidi_contexts.specs.declared.users.User.{User}
use Rattle.bidi_contexts.proofs.UserLemmas.{named-user}
use Rattle.bidi_contexts.proofs.users.Users.named.Goals as goal

pub returns-in_err-id_number-clause-named : goal.returns-in_err-id_number-clause-named
returns-in_err-id_number-clause-named c = λ past users.
    let none : c.from_residual.result ≡ None = search rules in
    let other : bytes_eq c.args.id.now (codes "default") ≡ false = sym c.eq.ensures ∙ c.if-eq.false in
    none ∙ named-user past c.args.id.now None c.args.self.now.live.items users.live other c.in_err-id_number.ensures.some c.in_err-id_number.ensures.every

pub returns-clause-named : goal.returns-clause-named
returns-clause-named c = λ past users.
    let other : bytes_eq c.args.id.now (codes "default") ≡ false = sym c.eq.ensures ∙ c.if-eq.false in
    c.numbered.ensures.found
    ∙ named-user past c.args.id.now _ c.deref.result.now (ap (map (λ (u : User). u.number)) c.deref.ensures.value ∙ users.live) other
    c.in_ok-id_number.ensures.some c.in_ok-id_number.ensures.every

use Rattle.std.proofs.Common.{◌≡◌, ℕ, ◌+◌, ◌<◌, ◌-◌, suc, subst, sym, arith, rules, tests, refl, ◌∙◌}
use Rattle.bidi_serve.specs.Serving.{Exchange, Exchanges, used_up, more, last}
use Rattle.bidi_serve.proofs.ServingLemmas.{by_fault, one-left}
use Rattle.bidi_serve.proofs.serving.exchange_all.Goals as goal

pub exchanges-init : goal.exchanges-init
exchanges-init g c = λ h stands. (
  h,
  stands,
  0,
  omega arith,
  λ n m j made.
      subst (λ k. Exchanges g.S.Read.remaining g.S.Write.contents c.args.conn.value k c.args.link.now h m j) (omega arith) made,
)

pub returns-in_err-exchange-clause-err : goal.returns-in_err-exchange-clause-err
returns-in_err-exchange-clause-err g c = λ h stands.
    let (k, there, made, all, go) = c.exchanges.invariant h stands in
    by_fault c.from_residual.result c.in_err-exchange.field-0.0 _ c.from_residual.ensures (
      k,
      c.in_err-exchange.ensures.err k there,
      (made + 0, c.exchanges.link, omega (arith, all), go 0 c.exchanges.link k (used_up c.exchanges.link k)),
    )

pub returns-then-not-branch-clause-ok : goal.returns-then-not-branch-clause-ok
returns-then-not-branch-clause-ok g c = λ h stands.
    let left = c.exchanges.left in
    let some : 0 < left = search (rules, tests, arith, c.exchanges-test.true) in
    let (k, there, made, all, go) = c.exchanges.invariant h stands in
    let e = c.in_ok-exchange.ensures.ok k there in (
      e.0,
      e.1,
      subst (λ n. Exchanges g.S.Read.remaining g.S.Write.contents c.args.conn.value n c.args.link.now h c.exchange.new.link e.0) all
          (go left c.exchange.new.link e.0
          (subst (λ n. Exchanges g.S.Read.remaining g.S.Write.contents c.args.conn.value n c.exchanges.link k c.exchange.new.link e.0)
          (sym (one-left left some))
          (last (left - 1) c.exchanges.link c.exchange.new.link k e.0 (subst (Exchange g.S.Read.remaining g.S.Write.contents
          c.args.conn.value c.exchanges.link k c.exchange.new.link e.0) c.if-not-branch.true e.2)))),
    )

pub exchanges-preserved : goal.exchanges-preserved
exchanges-preserved g c = λ h stands.
    let left = c.exchanges.left in
    let some : 0 < left = search (rules, tests, arith, c.exchanges-test.true) in
    let (k, there, made, all, go) = c.exchanges.invariant h stands in
    let e = c.in_ok-exchange.ensures.ok k there in (
      e.0,
      e.1,
      made + 1,
      omega (arith, all, some),
      λ n m j rest.
          let next : (made + suc n) ≡ (made + 1) + n = omega arith in
          subst (λ p. Exchanges g.S.Read.remaining g.S.Write.contents c.args.conn.value p c.args.link.now h m j) next
          (go (suc n) m j (more n c.exchanges.link c.exchange.new.link m k e.0 j (subst (Exchange g.S.Read.remaining g.S.Write.contents
          c.args.conn.value c.exchanges.link k c.exchange.new.link e.0) c.if-not-branch.false e.2) rest)),
    )

pub returns-clause-ok : goal.returns-clause-ok
returns-clause-ok g c = λ h stands.
    let none : c.exchanges.left ≡ 0 = search (rules, tests, arith, c.exchanges-test.false) in
    let (k, there, made, all, go) = c.exchanges.invariant h stands in
    let whole : (made + 0) ≡ c.args.messages = omega (arith, all, none) in (
      k,
      there,
      subst (λ n. Exchanges g.S.Read.remaining g.S.Write.contents c.args.conn.value n c.args.link.now h c.exchanges.link k) whole
          (go 0 c.exchanges.link k (used_up c.exchanges.link k)),
    )

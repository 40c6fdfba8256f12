use Rattle.std.proofs.Common.{◌≡◌, ◌++◌, ◌<◌, ◌∷◌, [], ℕ, List, false, append-nil, arith, sym, subst}
use Rattle.std.specs.Prelude.{replicate}
use Rattle.bidi_remarks.specs.declared.telling.CountedAs.TheVariants.{Unanswered}
use Rattle.bidi_why.specs.Summary.{Entry, IsSum, unanswered}
use Rattle.bidi_why.proofs.SummaryLemmas.{replicated_more, replicated_room}
use Rattle.bidi_why.proofs.sum.Sum.count_unanswered.Goals as goal

pub loop-init : goal.loop-init
loop-init c n told room p = subst (λ (es : List Entry). IsSum c.args.self.now n es) (sym (append-nil told)) p

pub loop-preserved : goal.loop-preserved
loop-preserved c n told room p =
    let k = c.loop.counter in
    let less : k < c.args.count = omega (arith, c.loop-test.true, c.loop.auto.counter-end) in
    let so_far = c.loop.invariant n told room p in
    let next = c.in_ok-count.ensures.sum n (told ++ replicate k unanswered) (replicated_room told k c.args.count unanswered less room) so_far in
    let named = subst (λ (cause : List ℕ). IsSum c.count.new.self n
    ((told ++ replicate k unanswered) ++ (let e : Entry = record { counted_as = Unanswered; cause = cause; is_log = false } in e) ∷ [])) c.in_ok-cause.ensures.items next in
    subst (λ (es : List Entry). IsSum c.count.new.self n es) (replicated_more told k unanswered) named

pub returns : goal.returns
returns c = record {
  sum = λ n told room p.
      let all : c.loop.counter ≡ c.args.count = omega (arith, c.loop-test.false, c.loop.auto.counter-end) in
      subst (λ (k : ℕ). IsSum c.loop.self n (told ++ replicate k unanswered)) all (c.loop.invariant n told room p);
}

use Rattle.std.proofs.Common.{◌≡◌, ◌∙◌, ◌∷◌, [], map, length, vec_len, sym, subst, arith}
use Rattle.std.proofs.lemmas.List.{map-append, map-id}
use Rattle.std.proofs.lemmas.Iterator.Consumers.{YieldsList-end}
use Rattle.std.proofs.lemmas.Iterator.Adapters.{YieldsList-from_vec}
use Rattle.bidi_remote.specs.Machine.Sent.{texts_on}
use Rattle.bidi_sessions.specs.View.{sent_of}
use Rattle.bidi_link.specs.Rows.{with_texts}
use Rattle.bidi_link.specs.Stands.{RowsAgree}
use Rattle.bidi_link.proofs.TableLemmas.{delivered-more}
use Rattle.bidi_link.proofs.links.deliver.Goals as goal

pub loop-sent-preserved : goal.loop-sent-preserved
loop-sent-preserved c = (
  λ f agree.
      let done = map sent_of c.loop-sent.yielded in
      let x = sent_of c.in-Some.sent in
      subst (λ all. RowsAgree c.deliver_one.new.links.entries (λ k. with_texts (f k) (texts_on k all)))
      (sym (map-append sent_of c.loop-sent.yielded (c.in-Some.sent ∷ [])))
      (delivered-more c.deliver_one.new.links.entries f done x
      (c.in_ok-deliver_one.ensures.rows (λ k. with_texts (f k) (texts_on k done)) (c.loop-sent.invariant.0 f agree))),
  c.in_ok-deliver_one.ensures.numbers ∙ c.loop-sent.invariant.1,
)

pub returns-clause-rows : goal.returns-clause-rows
returns-clause-rows c = λ f agree.
    let gives = c.into_iter-sent-iterator.ensures.into_iter_gives in
    let n : vec_len c.args.all ≡ length c.args.all.items = omega arith in
    let end = YieldsList-end (YieldsList-from_vec c.args.all.items gives.0 (gives.1 ∙ n)) c.loop-sent.yielded c.loop-sent.sent-iterator
    c.loop-sent.yielded_by c.next.result c.next.new.self c.in-None.is c.next.ensures.steps in
    subst (λ ys. RowsAgree c.loop-sent.links.entries (λ k. with_texts (f k) (texts_on k (map sent_of ys))))
    (sym (map-id c.loop-sent.yielded) ∙ end.0) (c.loop-sent.invariant.0 f agree)

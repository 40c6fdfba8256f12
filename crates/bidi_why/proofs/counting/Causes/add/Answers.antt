use Rattle.std.proofs.Common.{◌≡◌, ◌∙◌, ◌+◌, map, arith, ap, sym, false}
use Rattle.std.specs.Prelude.{bytes_eq, position, slice_index_or}
use Rattle.std.proofs.lemmas.List.{length-map}
use Rattle.std.proofs.lemmas.List.Quantifiers.{position-Some}
use Rattle.std.proofs.lemmas.List.Sums.{get_or-le-sum_by}
use Rattle.bidi_why.specs.Counting.{is_told_apart, row_of}
use Rattle.bidi_why.specs.declared.counting.Cause.{Cause}
use Rattle.bidi_why.proofs.SummaryLemmas.{add_new, add_other, add_some, any_default, apart_full, apart_long, apart_room}
use Rattle.bidi_why.proofs.counting.Causes.add.Goals.{else-len-lt-MOST_CAUSES-via-then-len-lt-MOST_CAUSES+else-len-le-LONGEST_CAUSE, else-len-lt-MOST_CAUSES-via-else-len-lt-MOST_CAUSES}
use Rattle.bidi_why.proofs.counting.Causes.add.Goals as goal

pub returns-in-Some-clause-met : goal.returns-in-Some-clause-met
returns-in-Some-clause-met c room =
    let rows = c.args.self.now.rows.items in
    let cause = c.args.cause.items in
    let x : Cause = record { text = c.index_mut.result.now.text; count = c.saturating_add.result; place = c.index_mut.result.now.place } in
    let at = (λ j. position (λ (r : Cause). bytes_eq r.text.items (sym c.deref-2.ensures.value j)) (sym c.deref.ensures.value j))
    ∙ sym c.place_of.ensures.place ∙ c.in-Some.is in
    let value = c.index_mut.ensures.value in
    let found = position-Some (λ (r : Cause). bytes_eq r.text.items cause) rows c.in-Some.i c.index_mut.result.now at in
    let one = ap (λ (r : Cause). r.count) value in
    let read = ap (λ (r : Cause). r.count) (c.index.ensures ∙ any_default rows c.in-Some.i c.index.result.now c.index_mut.result.now found.0) in
    let few = get_or-le-sum_by (λ (r : Cause). r.count) rows c.in-Some.i c.index_mut.result.now found.0 in
    let added = c.saturating_add.ensures in
    let count : c.saturating_add.result ≡ (slice_index_or rows c.in-Some.i c.index_mut.result.now).count + 1 = omega (arith, added, read, few, room) in
    add_some c.args.self.now cause c.in-Some.i c.index_mut.result.now x at
    (λ j. record { cause = (value j).text.items; count = count j; place = (value j).place })

pub returns-in_ok-push-clause-met : goal.returns-in_ok-push-clause-met
returns-in_ok-push-clause-met c room =
    let rows = c.args.self.now.rows.items in
    let cause = c.args.cause.items in
    let none = (λ j. position (λ (r : Cause). bytes_eq r.text.items (sym c.deref-2.ensures.value j)) (sym c.deref.ensures.value j))
    ∙ sym c.place_of.ensures.place ∙ c.in_default.is in
    let apart = apart_room rows cause c.len.result c.len-then-len-lt-MOST_CAUSES.result (c.len.ensures ∙ c.args.self.now.rows.ok.0)
    (c.len-then-len-lt-MOST_CAUSES.ensures ∙ c.args.cause.ok.0) c.if-len-lt-MOST_CAUSES.true c.if-len-le-LONGEST_CAUSE.true in
    let x : Cause = record { text = c.args.cause; count = 1; place = c.len-place.result } in
    add_new c.args.self.now cause x _ c.in_ok-push.ensures.items none apart
    (λ j. record { cause = cause; count = 1; place = (c.len-place.ensures ∙ c.args.self.now.rows.ok.0 ∙ sym (length-map rows row_of)) j })

pub returns-else-len-lt-MOST_CAUSES-clause-met : goal.returns-else-len-lt-MOST_CAUSES-clause-met
returns-else-len-lt-MOST_CAUSES-clause-met c room =
    let rows = c.args.self.now.rows.items in
    let cause = c.args.cause.items in
    let none = (λ j. position (λ (r : Cause). bytes_eq r.text.items (sym c.deref-2.ensures.value j)) (sym c.deref.ensures.value j))
    ∙ sym c.place_of.ensures.place ∙ c.in_default.is in
    let more = c.saturating_add-self.ensures in
    let apart : is_told_apart cause (map row_of rows) ≡ false = elim c.else-len-lt-MOST_CAUSES.branch [
      | else-len-lt-MOST_CAUSES-via-then-len-lt-MOST_CAUSES+else-len-le-LONGEST_CAUSE w ↦
          apart_long rows cause w.len-then-len-lt-MOST_CAUSES.result (w.len-then-len-lt-MOST_CAUSES.ensures ∙ c.args.cause.ok.0) w.if-len-le-LONGEST_CAUSE.false
      | else-len-lt-MOST_CAUSES-via-else-len-lt-MOST_CAUSES w ↦
          apart_full rows cause c.len.result (c.len.ensures ∙ c.args.self.now.rows.ok.0) w.if-len-lt-MOST_CAUSES.false
    ] in
    add_other c.args.self.now cause c.saturating_add-self.result (omega (arith, more, room)) none apart

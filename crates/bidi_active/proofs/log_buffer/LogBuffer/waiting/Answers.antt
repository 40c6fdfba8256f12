use Rattle.std.proofs.Common.{◌∙◌, ◌<◌, ◌++◌, ◌+◌, ◌∷◌, [], append-nil, append_assoc, length, map, drop, sym, ap, arith}
use Rattle.std.proofs.lemmas.List.{drop_all, map-append}
use Rattle.bidi_active.specs.Written.{written_in, written_of, place_row}
use Rattle.bidi_active.specs.Places.{waiting}
use Rattle.bidi_sessions.proofs.ListLemmas.{from-item, no_value}
use Rattle.bidi_active.proofs.log_buffer.LogBuffer.waiting.Goals.{in-Some+in_ok-clone+in_ok-push, in_default}
use Rattle.bidi_active.proofs.log_buffer.LogBuffer.waiting.Goals as goal

pub loop-at-preserved : goal.loop-at-preserved
loop-at-preserved c =
    let items = c.args.self.now.places.items in
    let i = c.loop-at.at in
    let x = c.index.result.now in
    let done = c.loop-at.all.items in
    let rest = waiting (map place_row (drop (i + 1) items)) in
    let less : i < length items = let test = c.loop-at-test.true in
    let end = c.len-at-end.ensures in let ok = c.args.self.now.places.ok.0 in omega (arith, test, end, ok) in
    let next = c.loop-at.invariant ∙ ap (λ left. written_in done ++ waiting (map place_row left)) (from-item items i x less c.index.ensures) in
    elim c.match-index.branch [
      | in-Some+in_ok-clone+in_ok-push w ↦
          let e = w.in-Some.entry in
          let copy = w.in_ok-clone.field-0 in
          next ∙ (ap (λ y. written_in done ++ waiting (place_row y ∷ map place_row (drop (i + 1) items))) w.in-Some.is
          ∙ (ap (λ v. written_in done ++ written_of v ∷ rest) (sym w.in_ok-clone.ensures.cases)
          ∙ (sym (append_assoc (written_in done) (written_of copy.value ∷ []) rest)
          ∙ (ap (λ ys. ys ++ rest) (sym (map-append (λ y. written_of y.value) done (copy ∷ [])))
          ∙ (ap (λ ys. written_in ys ++ rest) (sym w.in_ok-push.ensures.items) ∙ ap (λ v. written_in v.items ++ rest) (sym w.all-is))))))
      | in_default w ↦
          next ∙ (ap (λ y. written_in done ++ waiting (place_row y ∷ map place_row (drop (i + 1) items))) (no_value x w.in_default.not-Some)
          ∙ ap (λ v. written_in v.items ++ rest) (sym w.all-is))
    ]

pub returns : goal.returns
returns c =
    let items = c.args.self.now.places.items in
    let all = c.loop-at-test.false in
    let end = c.len-at-end.ensures in
    let ok = c.args.self.now.places.ok.0 in
    sym (c.loop-at.invariant
    ∙ (ap (λ left. written_in c.loop-at.all.items ++ waiting (map place_row left)) (drop_all c.loop-at.at items (omega (arith, all, end, ok)))
    ∙ append-nil (written_in c.loop-at.all.items)))

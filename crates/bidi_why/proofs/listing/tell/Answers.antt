use Rattle.std.proofs.Common.{◌∙◌, ℕ, ◌+◌, ◌++◌, ◌∷◌, ◌<◌, ◌^◌, [], List, length, length-append, option_map, arith, ap, sym, subst}
use Rattle.std.specs.Prelude.{Option, Some, Bool}
use Rattle.bidi_remarks.specs.Explaining.{told_of}
use Rattle.bidi_remarks.specs.declared.telling.Told.{Told}
use Rattle.bidi_why.specs.Explainers.{text_in}
use Rattle.bidi_why.specs.Summary.{Entry, IsSum, entries_in}
use Rattle.bidi_why.proofs.TellingLemmas.{nothing_told}
use Rattle.bidi_why.proofs.listing.tell.Goals as goal

pub returns-in_ok-count-in-Some-clause-text : goal.returns-in_ok-count-in-Some-clause-text
returns-in_ok-count-in-Some-clause-text g c first lines before is (told, h, sum, short, few) at =
    let counted = sum.lines in
    let number = c.next_line.ensures.lines ∙ ap (λ (n : ℕ). n + 1) counted in
    let t = c.in-Some.told in
    let says = subst (λ (x : Option Told). g.E.Explainer.has_told first c.explain.new.self (lines ++ is ∷ []) (before ++ text_in x) (told ++ entries_in is (option_map told_of x)))
    c.in-Some.is (c.in_ok-told.ensures first lines before told is h number at) in
    let alike = ap (λ (b : Bool). (let e : Entry = record { counted_as = t.counted_as; cause = t.cause.items; is_log = b } in e) ∷ []) (c.is_log-is_log.ensures is at) in
    let room : length told + 1 < 2 ^ 64 = let less = c.requires in omega (arith, counted, less, short) in
    let next = c.in_ok-count-in-Some.ensures.sum (length lines + 1) told room (c.next_line.ensures.sum (length lines) told sum) in
    let more = length-append lines (is ∷ []) in
    let longer = length-append told (entries_in is (Some (told_of t))) in
    let less = c.requires in (
      told ++ entries_in is (Some (told_of t)),
      says,
      subst (λ n. IsSum c.count.new.self n (told ++ entries_in is (Some (told_of t)))) (sym more)
          (subst (λ (es : List Entry). IsSum c.count.new.self (length lines + 1) (told ++ es)) alike next),
      omega (arith, more, longer, short),
      omega (arith, more, counted, less),
    )

pub returns-in-None-clause-text : goal.returns-in-None-clause-text
returns-in-None-clause-text g c first lines before is (told, h, sum, short, few) at =
    let counted = sum.lines in
    let number = c.next_line.ensures.lines ∙ ap (λ (n : ℕ). n + 1) counted in
    let more = length-append lines (is ∷ []) in
    let less = c.requires in (
      told,
      nothing_told g.E.Explainer.has_told first c.explain.new.self (lines ++ is ∷ []) before c.new.result.items told is c.in_ok-told.field-0
          c.in-None.is c.new.ensures.items (c.in_ok-told.ensures first lines before told is h number at),
      subst (λ n. IsSum c.next_line.new.self n told) (sym more) (c.next_line.ensures.sum (length lines) told sum),
      omega (arith, more, short),
      omega (arith, more, counted, less),
    )

use Rattle.std.proofs.Common.{◌++◌, ◌∙◌, length}
use Rattle.bidi_lines.proofs.ResultLemmas.{by_fault}
use Rattle.bidi_lines.proofs.StopLemmas.{stops_as}
use Rattle.bidi_why.specs.Telling.{last_line}
use Rattle.bidi_why.proofs.TellingLemmas.{reports_as, tells_so, told_so}
use Rattle.bidi_why.proofs.listing.explain.Goals as goal

pub returns-in_err-tell_lines-clause-err : goal.returns-in_err-tell_lines-clause-err
returns-in_err-tell_lines-clause-err g c =
    let fault = c.in_err-tell_lines.field-0.0 in
    let made = c.in_ok-one_side.ensures in
    let (read, wrote, consumes, appends, stops) = c.in_err-tell_lines.ensures.err in
    let told = tells_so c.args.form c.args.side c.args.profile_only c.in_ok-one_side.one_side made.form made.side made.only in
    by_fault c.from_residual-in_err-tell_lines.result fault _ c.from_residual-in_err-tell_lines.ensures (read, wrote, consumes, appends, stops_as _ _ (reports_as told) fault _ read wrote stops)

pub returns-clause-ok : goal.returns-clause-ok
returns-clause-ok g c =
    let made = c.in_ok-one_side.ensures in
    let (read, wrote, consumes, appends, (lines, last, parts, one, (told, p, sum, short, few))) = c.in_ok-tell_lines.ensures.ok in
    let each = told_so c.args.form c.args.side c.args.profile_only c.in_ok-one_side.one_side c.tell_lines.new.explainer made.form made.side made.only
    (lines ++ last_line last) wrote told p in
    (read, wrote, consumes, appends, ((lines, last, parts, one, (told, each)), c.tell.ensures.some ∙ sum.fault ∙ p.is_some))

pub returns-clause-summary : goal.returns-clause-summary
returns-clause-summary g c =
    let made = c.in_ok-one_side.ensures in
    let (read, wrote, consumes, appends, (lines, last, parts, one, (told, p, sum, short, few))) = c.in_ok-tell_lines.ensures.ok in
    let each = told_so c.args.form c.args.side c.args.profile_only c.in_ok-one_side.one_side c.tell_lines.new.explainer made.form made.side made.only
    (lines ++ last_line last) wrote told p in
    (read, wrote, consumes, appends, (lines, last, parts, one, (told, each, λ some. c.tell.ensures.told some (length (lines ++ last_line last)) told sum)))

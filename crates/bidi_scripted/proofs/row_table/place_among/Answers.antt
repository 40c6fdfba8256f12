use Rattle.std.proofs.Common.{◌∙◌, sym, ap, arith}
use Rattle.bidi_rows.specs.View.{command_seen}
use Rattle.bidi_scripted.proofs.UseLemmas.{is_for, position-first, position-fails}
use Rattle.bidi_scripted.proofs.row_table.place_among.Goals as goal

pub returns-then-matches : goal.returns-then-matches
returns-then-matches c =
    let row = c.index-rows-i.result in
    let p = is_for (command_seen c.args.command.now) in
    position-first p c.args.rows.now c.loop-i.i row (omega arith) (ap p (sym c.index-rows-i.is) ∙ (sym c.matches.ensures ∙ c.if-matches.true))
    (λ k lower. c.loop-i.invariant k row lower)

pub returns : goal.returns
returns c = position-fails (is_for (command_seen c.args.command.now)) c.args.rows.now (λ k d less. c.loop-i.invariant k d (omega (arith, less)))

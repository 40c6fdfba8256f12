use Rattle.std.proofs.Common.{◌≡◌, arith, ◌∙◌, sym, rules}
use Rattle.std.specs.Prelude.{decimal}
use Rattle.std.proofs.lemmas.Fmt.{parse-decimal}
use Rattle.bidi_play.proofs.DigitLemmas.{is_decimal, no_plus_or_zeros}
use Rattle.bidi_lines.proofs.ResultLemmas.{err_not_ok, ok_same, if_none_when}
use Rattle.bidi_play.proofs.lines.read_number.Goals as goal

pub returns-then-has_plus_or_zeros-clause-none : goal.returns-then-has_plus_or_zeros-clause-none
returns-then-has_plus_or_zeros-clause-none c = λ n lt e.
    no_plus_or_zeros n (omega arith) c.args.text.now e (sym c.has_plus_or_zeros.ensures ∙ c.if-has_plus_or_zeros.true)

pub returns-in_default-clause-none : goal.returns-in_default-clause-none
returns-in_default-clause-none c = λ n lt e.
    err_not_ok c.in_default.field-0 n
    (sym c.in_default.is ∙ parse-decimal 64 n c.args.text.now c.parse.result (omega arith) (omega arith) e c.parse.ensures.value.0)

pub returns-clause-some : goal.returns-clause-some
returns-clause-some c =
    let is : c.args.text.now ≡ decimal c.in-Ok.n = is_decimal c.args.text.now c.parse.result c.in-Ok.n
    (sym c.has_plus_or_zeros.ensures ∙ c.if-has_plus_or_zeros.false) c.parse.ensures.value.0 c.in-Ok.is in
    search (rules, is)

pub returns-clause-none : goal.returns-clause-none
returns-clause-none c =
    if_none_when c.new.result _ _ _ c.new.ensures (λ past n lt e.
    let same : c.in-Ok.n ≡ n = ok_same c.in-Ok.n n
    (sym c.in-Ok.is ∙ parse-decimal 64 n c.args.text.now c.parse.result (omega arith) (omega arith) e c.parse.ensures.value.0) in
    omega (arith, same))

use Rattle.std.proofs.Common.{◌∙◌, sym}
use Rattle.json.specs.Value.{value_view}
use Rattle.bidi_messages.specs.View.{verdict_of}
use Rattle.bidi_messages.specs.contracts.command.CommandShape.TheImpl.{ghosts}
use Rattle.bidi_messages.proofs.ValueLemmas.{read_as}
use Rattle.bidi_messages.proofs.VerdictLemmas.{no_other}
use Rattle.bidi_messages.proofs.judging.judge_value.Goals as goal

pub returns-clause-verdict : goal.returns-clause-verdict
returns-clause-verdict c =
    c.verdict_on.ensures.verdict c.args.text.now
    (read_as c.args.text.now (value_view c.args.value.now) c.requires (sym c.is_read_as.ensures ∙ c.if-not-is_read_as.false))

pub returns-clause-no_other : goal.returns-clause-no_other
returns-clause-no_other c = no_other c.args.text.now (verdict_of ghosts.shape) c.verdict_on.result (returns-clause-verdict c)

pub returns-clause-again : goal.returns-clause-again
returns-clause-again c = λ d.
    c.verdict_on.ensures.again c.args.text.now d
    (read_as c.args.text.now (value_view c.args.value.now) c.requires (sym c.is_read_as.ensures ∙ c.if-not-is_read_as.false))

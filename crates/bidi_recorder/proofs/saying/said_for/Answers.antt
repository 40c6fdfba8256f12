use Rattle.std.proofs.Common.{List, ℕ, sym, subst, ◌∙◌, ap}
use Rattle.bidi_lines.specs.Feeds.{has_feed}
use Rattle.bidi_messages.specs.Verdict.{IsVerdict}
use Rattle.bidi_recorder.proofs.FeedLemmas.{no_feed}
use Rattle.bidi_recorder.specs.RowCommands.{command_for_rows}
use Rattle.bidi_recorder.proofs.SayingLemmas.{command_with_returns, command_too_long, if_ok, verdict_with_returns, verdict_too_long}
use Rattle.bidi_recorder.proofs.saying.said_for.Goals as goal

pub returns-then-text-gt-MAX_BYTES-clause-verdict : goal.returns-then-text-gt-MAX_BYTES-clause-verdict
returns-then-text-gt-MAX_BYTES-clause-verdict c =
    if_ok (λ said is v h. subst (λ (s : List ℕ). IsVerdict s v) (sym is) (verdict_too_long c.args.text.now v c.if-text-gt-MAX_BYTES.true h)) c.from_str.result c.from_str.ensures.ok

pub returns-clause-verdict : goal.returns-clause-verdict
returns-clause-verdict c =
    if_ok (λ said is v h. subst (λ (s : List ℕ). IsVerdict s v) (sym is) (verdict_with_returns c.args.text.now v h)) c.with_returns.result c.with_returns.ensures

pub returns-clause-one_line : goal.returns-clause-one_line
returns-clause-one_line c = if_ok (λ said is. ap has_feed is ∙ no_feed c.args.text.now) c.with_returns.result c.with_returns.ensures

pub returns-then-text-gt-MAX_BYTES-clause-command : goal.returns-then-text-gt-MAX_BYTES-clause-command
returns-then-text-gt-MAX_BYTES-clause-command c =
    if_ok (λ said is. ap command_for_rows is ∙ command_too_long c.args.text.now c.if-text-gt-MAX_BYTES.true) c.from_str.result c.from_str.ensures.ok

pub returns-clause-command : goal.returns-clause-command
returns-clause-command c =
    if_ok (λ said is. ap command_for_rows is ∙ command_with_returns c.args.text.now) c.with_returns.result c.with_returns.ensures

use Rattle.bidi_lines.proofs.ResultLemmas.{if_some_at}
use Rattle.bidi_script_lines.proofs.PlainLemmas.{is_said}
use Rattle.bidi_script_lines.proofs.scripted_play.take_line.Goals as goal

pub take_heard-requires : goal.take_heard-requires
take_heard-requires c = if_some_at c.heard_text.result (c.in-Some.conn, c.in-Some.text) _ c.heard_text.ensures.some c.in-Some.is

pub take_said-requires : goal.take_said-requires
take_said-requires c = is_said c.in_ok-said.said c.args.line.now c.in_ok-said.ensures.some c.in_ok-said.ensures.none c.in_ok-said.ensures.plain

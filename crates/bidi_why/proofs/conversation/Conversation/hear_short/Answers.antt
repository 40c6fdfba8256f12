use Rattle.std.proofs.Common.{option_map, sym}
use Rattle.bidi_lines.specs.declared.side.Side.TheVariants.{Local, Remote}
use Rattle.bidi_why.specs.Explainers.{standing_of}
use Rattle.bidi_remarks.specs.Remark.{remark_of}
use Rattle.bidi_why.proofs.HearingLemmas.{heard_mark, heard_no_text, heard_text}
use Rattle.bidi_why.proofs.conversation.Conversation.hear_short.Goals as goal

pub returns-then-begins_with_mark-clause-heard : goal.returns-then-begins_with_mark-clause-heard
returns-then-begins_with_mark-clause-heard c =
    heard_mark c.args.number (standing_of c.args.self.now) c.args.line.now (remark_of c.in_ok-bad_line.field-0) (sym c.if-begins_with_mark.ensures)
    c.in_ok-bad_line.ensures

pub returns-in-Some-clause-heard : goal.returns-in-Some-clause-heard
returns-in-Some-clause-heard c =
    heard_text c.args.number (standing_of c.args.self.now) (standing_of c.hear_local.new.self) c.args.line.now c.in-Some.text.now Local (option_map remark_of)
    c.hear_local.result (sym c.if-begins_with_mark.ensures) c.in-Some.ensures c.hear_local.ensures.heard

pub returns-in-Some-text_behind-clause-heard : goal.returns-in-Some-text_behind-clause-heard
returns-in-Some-text_behind-clause-heard c =
    heard_text c.args.number (standing_of c.args.self.now) (standing_of c.hear_remote.new.self) c.args.line.now c.in-Some-text_behind.text.now Remote
    (option_map remark_of) c.hear_remote.result (sym c.if-begins_with_mark.ensures) c.in-Some-text_behind.ensures (c.hear_remote.ensures.heard c.args.number)

pub returns-clause-heard : goal.returns-clause-heard
returns-clause-heard c =
    heard_no_text c.args.number (standing_of c.args.self.now) c.args.line.now (remark_of c.in_ok-bad_line-2.field-0) (sym c.if-begins_with_mark.ensures)
    c.in_default.ensures c.in_default-text_behind.ensures c.in_ok-bad_line-2.ensures

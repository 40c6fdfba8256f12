use Rattle.std.proofs.Common.{◌≡◌, false, inl, inr, sym}
use Rattle.std.specs.Prelude.{◌&&◌}
use Rattle.bidi_remarks.specs.Remark.{is_beyond, remark_of}
use Rattle.bidi_why.proofs.ConversationLemmas.{quiet_entries, quiet_text, stays_in, told_entries, told_text}
use Rattle.bidi_why.proofs.conversation.told_if.Goals.{else-profile_only-via-then-profile_only+else-is_remark_beyond, else-profile_only-via-else-profile_only}
use Rattle.bidi_why.proofs.conversation.told_if.Goals as goal

pub returns-then-is_remark_beyond-clause-text : goal.returns-then-is_remark_beyond-clause-text
returns-then-is_remark_beyond-clause-text c line =
    quiet_text c.args.form c.args.profile_only c.args.number line (remark_of c.args.remark.now)
    (λ i. c.if-profile_only.true i && (sym c.if-is_remark_beyond.ensures) i)

pub returns-then-is_remark_beyond-clause-entries : goal.returns-then-is_remark_beyond-clause-entries
returns-then-is_remark_beyond-clause-entries c line =
    quiet_entries c.args.form c.args.profile_only c.args.number line (remark_of c.args.remark.now)
    (λ i. c.if-profile_only.true i && (sym c.if-is_remark_beyond.ensures) i)

pub returns-clause-text : goal.returns-clause-text
returns-clause-text c line =
    let said = remark_of c.args.remark.now in
    let stays : (c.args.profile_only && is_beyond said) ≡ false = elim c.else-profile_only.branch [
      | else-profile_only-via-then-profile_only+else-is_remark_beyond w ↦ stays_in c.args.profile_only (is_beyond said) (inr (sym w.if-is_remark_beyond.ensures))
      | else-profile_only-via-else-profile_only w ↦ stays_in c.args.profile_only (is_beyond said) (inl w.if-profile_only.false)
    ] in
    told_text c.args.form c.args.profile_only c.args.number line said c.in_ok-tell_remark.field-0 c.in_ok-tell_remark.ensures stays

pub returns-clause-entries : goal.returns-clause-entries
returns-clause-entries c line =
    let said = remark_of c.args.remark.now in
    let stays : (c.args.profile_only && is_beyond said) ≡ false = elim c.else-profile_only.branch [
      | else-profile_only-via-then-profile_only+else-is_remark_beyond w ↦ stays_in c.args.profile_only (is_beyond said) (inr (sym w.if-is_remark_beyond.ensures))
      | else-profile_only-via-else-profile_only w ↦ stays_in c.args.profile_only (is_beyond said) (inl w.if-profile_only.false)
    ] in
    told_entries c.args.form c.args.profile_only c.args.number line said c.in_ok-tell_remark.field-0 c.in_ok-tell_remark.ensures stays

use Rattle.bidi_remarks.specs.Explaining.{told_of}
use Rattle.bidi_why.proofs.TellingLemmas.{tells_long, tells_text}
use Rattle.bidi_why.proofs.one_side.explain.Goals as goal

pub returns-in-Text : goal.returns-in-Text
returns-in-Text c =
    tells_text c.args.form c.args.side c.args.profile_only c.args.number c.args.line c.in-Text.line c.deref.result.now c.explain_kept.result c.in-Text.is
    c.deref.ensures.value c.explain_kept.ensures

pub returns-in_ok-explain_long-in-TooLong : goal.returns-in_ok-explain_long-in-TooLong
returns-in_ok-explain_long-in-TooLong c =
    let told = c.in_ok-explain_long-in-TooLong in
    tells_long c.args.form c.args.side c.args.profile_only c.args.number c.args.line (told_of told.field-0) c.in-TooLong.is told.ensures

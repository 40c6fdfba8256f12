use Rattle.std.proofs.Common.{refl}
use Rattle.bidi_loader.proofs.LoadLemmas.{all_listed, all_there, all_say}
use Rattle.bidi_loader.proofs.lowering.tested.Goals as goal

pub returns-clause-grounded : goal.returns-clause-grounded
returns-clause-grounded c = c.if-not-is_right.ensures.grounded refl

pub returns-clause-rules : goal.returns-clause-rules
returns-clause-rules c = all_listed c.args.written.now c.args.reading.now c.args.made.origins.items c.args.written.now.rules.items c.in_ok-rules.rules.items c.in_ok-rules.ensures

pub returns-clause-there : goal.returns-clause-there
returns-clause-there c =
    all_there c.args.written.now c.args.reading.now c.args.made.origins.items c.args.made.terms.items c.args.written.now.rules.items c.in_ok-rules.rules.items
    (c.if-not-is_right.ensures.long refl) c.in_ok-rules.ensures

pub returns-clause-says : goal.returns-clause-says
returns-clause-says c = λ r.
    all_say c.table_says_what_is_written.ensures c.args.written.now c.args.reading.now c.args.made.origins.items c.args.made.terms.items c.args.written.now.rules.items c.in_ok-rules.rules.items
    (c.if-not-is_right.ensures.made refl r) c.in_ok-rules.ensures

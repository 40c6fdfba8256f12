use Rattle.std.proofs.Common.{Some, ap, sym, option_map, ◌∙◌}
use Rattle.clap.specs.Words.{found_of}
use Rattle.clap.proofs.WalkLemmas.{first_value-rows}
use Rattle.bidi_command_line.proofs.files.text_of.Goals as goal

pub returns-in_default-clause-ok : goal.returns-in_default-clause-ok
returns-in_default-clause-ok c =
    let found = first_value-rows (found_of c.args.matches.now) c.args.name.now in
    ap (option_map (λ s. s.now)) (sym c.in_default.is) ∙ (c.get_str.ensures ∙ found)

pub returns-in-Ok-clause-ok : goal.returns-in-Ok-clause-ok
returns-in-Ok-clause-ok c =
    let found = first_value-rows (found_of c.args.matches.now) c.args.name.now in
    ap Some c.in-Ok.ensures.ok ∙ (ap (option_map (λ s. s.now)) (sym c.in-Some.is) ∙ (c.get_str.ensures ∙ found))

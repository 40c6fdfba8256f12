use Rattle.std.proofs.Common.{◌≡◌, ap, codes, option_and_then, option_map, string_bytes, subst, sym, ◌∙◌}
use Rattle.std.specs.Prelude.{IfOk}
use Rattle.clap.specs.Words.{found_of}
use Rattle.clap.proofs.WalkLemmas.{first_value-rows}
use Rattle.bidi_command_line.specs.CommandLine.{file_named}
use Rattle.bidi_command_line.proofs.files.named_file.Goals as goal

pub returns-in-Some-clause-ok : goal.returns-in-Some-clause-ok
returns-in-Some-clause-ok c =
    let found = first_value-rows (found_of c.args.matches.now) (codes "file") in
    let named = ap (option_map (λ s. s.now)) (sym c.in-Some.is) ∙ (c.get_str.ensures ∙ found) in
    subst (λ met. IfOk c.file_named.result (λ file. option_map string_bytes file ≡ option_and_then file_named met)) named c.file_named.ensures.ok

pub returns-in-None-clause-ok : goal.returns-in-None-clause-ok
returns-in-None-clause-ok c =
    let found = first_value-rows (found_of c.args.matches.now) (codes "file") in
    ap (option_and_then file_named) (ap (option_map (λ s. s.now)) (sym c.in-None.is) ∙ (c.get_str.ensures ∙ found))

use Rattle.std.proofs.Common.{◌≡◌, ap, subst, ◌∙◌}
use Rattle.std.specs.Prelude.{IfOk, option_map, string_bytes}
use Rattle.clap.specs.Words.{HasKind, fault_of, is_simple, is_simple_and_free, subcommand_of}
use Rattle.bidi_command_line.specs.CommandLine.{input_in, line_of}
use Rattle.bidi_command_line.proofs.CommandLineLemmas.{is_listed, is_read, no_memory, refused}
use Rattle.bidi_command_line.proofs.files.input_file.Goals as goal

pub returns-in-Ok-try_get_matches_from-clause-ok : goal.returns-in-Ok-try_get_matches_from-clause-ok
returns-in-Ok-try_get_matches_from-clause-ok c =
    let line = line_of c.args.words.now in
    let app = c.in-Ok.ensures in
    let rows = (c.in-Ok-try_get_matches_from.ensures.matches (ap is_simple app ∙ is_read)).1 in
    subst (λ met. IfOk c.input_of.result (λ file. option_map string_bytes file ≡ input_in met)) (rows ∙ ap (λ a. subcommand_of a line) app) c.input_of.ensures.ok

pub returns-in-Err-clause-err : goal.returns-in-Err-clause-err
returns-in-Err-clause-err c =
    let line = line_of c.args.words.now in
    let app = c.in-Ok.ensures in
    refused line c.in-Err.error _ (subst (λ a. HasKind (fault_of a line) c.in-Err.error) app
    (c.in-Err.ensures.kinds (ap is_simple_and_free app ∙ is_listed))) c.fault.ensures

pub returns-in-Err-clause-taken : goal.returns-in-Err-clause-taken
returns-in-Err-clause-taken c = λ none.
    let line = line_of c.args.words.now in
    let app = c.in-Ok.ensures in
    no_memory _ c.in-Err.error _ none
    (subst (λ a. HasKind (fault_of a line) c.in-Err.error) app (c.in-Err.ensures.kinds (ap is_simple_and_free app ∙ is_listed))) c.fault.ensures

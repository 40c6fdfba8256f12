use Rattle.std.proofs.Common.{◌≡◌, [], ap, subst, sym, ◌∙◌}
use Rattle.clap.specs.Words.{HasKind, fault_of, is_simple, is_simple_and_free, subcommand_of}
use Rattle.bidi_command_line.specs.CommandLine.{bidi_app, line_of, run_in}
use Rattle.bidi_command_line.proofs.CommandLineLemmas.{asked_read, is_listed, is_read, no_memory, no_run, read_asked, refused, refused_end, same_run}
use Rattle.bidi_command_line.proofs.NumberLemmas.{within_bounds}
use Rattle.bidi_command_line.proofs.SaidLemmas.{said_asks}
use Rattle.bidi_command_line.proofs.asked.command_line.Goals as goal

pub returns-in-Some-clause-ok : goal.returns-in-Some-clause-ok
returns-in-Some-clause-ok c =
    let line = line_of c.args.words.now in
    let app = c.in-Ok.ensures in
    let matches = c.in-Ok-try_get_matches_from.ensures in
    let takes = subst (λ a. fault_of a line ≡ []) app (matches.kinds (ap is_simple_and_free app ∙ is_listed)) in
    let rows = (matches.matches (ap is_simple app ∙ is_read)).1 in
    read_asked line c.in-Some.run' (takes, ap (λ a. run_in (subcommand_of a line)) (sym app) ∙ (ap run_in (sym rows) ∙ sym c.in-Some.ensures))

pub returns-in-Some-clause-asked : goal.returns-in-Some-clause-asked
returns-in-Some-clause-asked c = λ run asked.
    let line = line_of c.args.words.now in
    let app = c.in-Ok.ensures in
    let rows = (c.in-Ok-try_get_matches_from.ensures.matches (ap is_simple app ∙ is_read)).1 in
    same_run c.in-Some.run' run (c.in-Some.ensures ∙ (ap run_in rows ∙ (ap (λ a. run_in (subcommand_of a line)) app ∙ (asked_read line run asked).1)))

pub returns-in-Ok-try_get_matches_from-clause-asked : goal.returns-in-Ok-try_get_matches_from-clause-asked
returns-in-Ok-try_get_matches_from-clause-asked c = λ run asked.
    let line = line_of c.args.words.now in
    let app = c.in-Ok.ensures in
    let rows = (c.in-Ok-try_get_matches_from.ensures.matches (ap is_simple app ∙ is_read)).1 in
    absurd (no_run run (c.in-None.ensures ∙ (ap run_in rows ∙ (ap (λ a. run_in (subcommand_of a line)) app ∙ (asked_read line run asked).1))))

pub returns-in-Ok-try_get_matches_from-clause-err : goal.returns-in-Ok-try_get_matches_from-clause-err
returns-in-Ok-try_get_matches_from-clause-err c =
    let line = line_of c.args.words.now in
    let app = c.in-Ok.ensures in
    let matches = c.in-Ok-try_get_matches_from.ensures in
    let takes = subst (λ a. fault_of a line ≡ []) app (matches.kinds (ap is_simple_and_free app ∙ is_listed)) in
    let rows = (matches.matches (ap is_simple app ∙ is_read)).1 in
    refused_end line _ c.no_value.ensures takes (ap (λ a. run_in (subcommand_of a line)) (sym app) ∙ (ap run_in (sym rows) ∙ sym c.in-None.ensures))

pub returns-clause-err : goal.returns-clause-err
returns-clause-err c =
    let line = line_of c.args.words.now in
    let app = c.in-Ok.ensures in
    refused line c.in-Err.error _ (subst (λ a. HasKind (fault_of a line) c.in-Err.error) app
    (c.in-Err.ensures.kinds (ap is_simple_and_free app ∙ is_listed))) c.fault.ensures

pub returns-clause-asked : goal.returns-clause-asked
returns-clause-asked c = λ run asked.
    let line = line_of c.args.words.now in
    let app = c.in-Ok.ensures in
    no_memory _ c.in-Err.error _ (asked_read line run asked).0
    (subst (λ a. HasKind (fault_of a line) c.in-Err.error) app (c.in-Err.ensures.kinds (ap is_simple_and_free app ∙ is_listed))) c.fault.ensures

pub returns-in_default-clause-said : goal.returns-in_default-clause-said
returns-in_default-clause-said c = λ run said. said_asks _ run said

pub returns-in-Some-clause-said : goal.returns-in-Some-clause-said
returns-in-Some-clause-said c = λ run said. said_asks _ run said

pub returns-in-Ok-try_get_matches_from-clause-said : goal.returns-in-Ok-try_get_matches_from-clause-said
returns-in-Ok-try_get_matches_from-clause-said c = λ run said. said_asks _ run said

pub returns-clause-said : goal.returns-clause-said
returns-clause-said c = λ run said. said_asks _ run said

pub returns-in-Some-clause-bounds : goal.returns-in-Some-clause-bounds
returns-in-Some-clause-bounds c =
    let line = line_of c.args.words.now in
    let app = c.in-Ok.ensures in
    let rows = (c.in-Ok-try_get_matches_from.ensures.matches (ap is_simple app ∙ is_read)).1 in
    within_bounds (subcommand_of bidi_app line) c.in-Some.run'
    (ap (λ a. run_in (subcommand_of a line)) (sym app) ∙ (ap run_in (sym rows) ∙ sym c.in-Some.ensures))

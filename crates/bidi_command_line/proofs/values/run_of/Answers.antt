use Rattle.std.proofs.Common.{codes, false, ap, sym, ◌∙◌}
use Rattle.std.specs.Prelude.{option_and_then}
use Rattle.std.specs.Option.{option_map_or}
use Rattle.clap.specs.Words.{found_of, rows_of}
use Rattle.clap.proofs.WalkLemmas.{first_value-rows}
use Rattle.bidi_command_line.specs.CommandLine.{is_true, number_within, run_in, side_named}
use Rattle.bidi_command_line.proofs.CommandLineLemmas.{met, named-same}
use Rattle.bidi_command_line.proofs.values.run_of.Goals as goal

pub returns : goal.returns
returns c =
    let name = c.in_ok-name.name.now in
    let found = found_of c.in_ok-name.inner.now in
    let side = c.side_of-side.ensures ∙ ap (option_and_then side_named) (first_value-rows found (codes "from")) in
    let session = c.session_of-session.ensures ∙ ap (option_and_then (number_within 0 4294967295)) (first_value-rows found (codes "session")) in
    let scripted = c.is_given-is_scripted.ensures ∙ ap (λ t. option_map_or is_true t false) (first_value-rows found (codes "scripted")) in
    c.run_named.ensures ∙ (named-same name _ _ _ _ _ _ _ _ _ _ _ _ scripted side session c.checking_of-checking.ensures c.serving_of.ensures c.hosting_of.ensures
    ∙ sym (ap run_in (met _ name (rows_of found) c.in_ok-name.ensures.name c.in_ok-name.ensures.rows)))

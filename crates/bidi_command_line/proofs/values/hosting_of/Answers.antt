use Rattle.std.proofs.Common.{codes, false, ap, ◌∙◌}
use Rattle.std.specs.Prelude.{option_and_then}
use Rattle.std.specs.Option.{option_map_or}
use Rattle.clap.specs.Words.{found_of}
use Rattle.clap.proofs.WalkLemmas.{first_value-rows}
use Rattle.bidi_command_line.specs.CommandLine.{is_true, number_within}
use Rattle.bidi_command_line.proofs.NumberLemmas.{hosted-same}
use Rattle.bidi_command_line.proofs.values.hosting_of.Goals as goal

pub returns : goal.returns
returns c =
    let found = found_of c.args.matches.now in
    c.hosted.ensures ∙ hosted-same _ _ _ _ _ _ _ _ _ _ _ _
    (c.port_of-port.ensures ∙ ap (option_and_then (number_within 0 65535)) (first_value-rows found (codes "port")))
    (c.is_given-reads_input.ensures ∙ ap (λ t. option_map_or is_true t false) (first_value-rows found (codes "stdin")))
    (c.is_given-ends_sessions.ensures ∙ ap (λ t. option_map_or is_true t false) (first_value-rows found (codes "end-sessions")))
    (c.is_given-is_lenient.ensures ∙ ap (λ t. option_map_or is_true t false) (first_value-rows found (codes "lenient")))
    (c.is_given-ends_after_last.ensures ∙ ap (λ t. option_map_or is_true t false) (first_value-rows found (codes "once")))
    (c.number_of-most_buffered.ensures ∙ ap (option_and_then (number_within 1 65536)) (first_value-rows found (codes "max-buffered")))

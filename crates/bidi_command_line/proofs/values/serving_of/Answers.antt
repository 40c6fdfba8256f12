use Rattle.std.proofs.Common.{codes, ap, ◌∙◌}
use Rattle.std.specs.Prelude.{option_and_then}
use Rattle.clap.specs.Words.{found_of}
use Rattle.clap.proofs.WalkLemmas.{first_value-rows}
use Rattle.bidi_command_line.specs.CommandLine.{number_within}
use Rattle.bidi_command_line.proofs.NumberLemmas.{served-same}
use Rattle.bidi_command_line.proofs.values.serving_of.Goals as goal

pub returns : goal.returns
returns c =
    let found = found_of c.args.matches.now in
    c.served.ensures ∙ served-same _ _ _ _ _ _
    (c.port_of-port.ensures ∙ ap (option_and_then (number_within 0 65535)) (first_value-rows found (codes "port")))
    (c.number_of-connections.ensures ∙ ap (option_and_then (number_within 1 1000)) (first_value-rows found (codes "connections")))
    (c.number_of-messages.ensures ∙ ap (option_and_then (number_within 1 100000)) (first_value-rows found (codes "messages")))

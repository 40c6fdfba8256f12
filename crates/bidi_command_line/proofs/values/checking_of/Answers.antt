use Rattle.std.proofs.Common.{codes, false, ap, ◌∙◌}
use Rattle.std.specs.Option.{option_map_or}
use Rattle.clap.specs.Words.{found_of}
use Rattle.clap.proofs.WalkLemmas.{first_value-rows}
use Rattle.bidi_command_line.specs.CommandLine.{is_true}
use Rattle.bidi_command_line.proofs.NumberLemmas.{checked-same}
use Rattle.bidi_command_line.proofs.values.checking_of.Goals as goal

pub returns : goal.returns
returns c =
    let found = found_of c.args.matches.now in
    c.checked.ensures ∙ checked-same _ _ _ _ _ _ _ _ _ _
    (c.get_str-end.ensures ∙ first_value-rows found (codes "from"))
    (c.is_given-is_both.ensures ∙ ap (λ t. option_map_or is_true t false) (first_value-rows found (codes "both")))
    (c.is_given-is_why.ensures ∙ ap (λ t. option_map_or is_true t false) (first_value-rows found (codes "why")))
    (c.is_given-is_json.ensures ∙ ap (λ t. option_map_or is_true t false) (first_value-rows found (codes "json")))
    (c.is_given-profile_only.ensures ∙ ap (λ t. option_map_or is_true t false) (first_value-rows found (codes "profile-only")))

use Rattle.std.proofs.Common.{◌∙◌, map, string_bytes, refl, sym, ap, subst}
use Rattle.std.specs.Prelude.{option_and_then}
use Rattle.bidi_rows.specs.Command.{command_in}
use Rattle.bidi_rows.specs.View.{command_seen}
use Rattle.bidi_scripted.specs.Becomes.{IsFound, found_names}
use Rattle.bidi_scripted.specs.Fate.{asks_names}
use Rattle.bidi_scripted.proofs.UseLemmas.{is_for, position-inside}
use Rattle.bidi_scripted.proofs.FateLemmas.{no-command, nothing-found}
use Rattle.bidi_scripted.proofs.finding.find.Goals as goal

pub returns-in-Some-place_for : goal.returns-in-Some-place_for
returns-in-Some-place_for c = λ text is.
    let command = command_seen c.in-Some.command in
    let at = sym c.in-Some-place_for.ensures in (
      position-inside (is_for command) c.args.script.now.rows.all.items c.in-Some-place_for.place at,
      command,
      ap (option_and_then command_in) is ∙ sym c.in-Some.ensures,
      refl,
      at,
    )

pub returns-in-None : goal.returns-in-None
returns-in-None c = λ text is.
    let command = command_seen c.in-Some.command in
    let known = map string_bytes c.args.script.now.known.items in
    subst (λ f. IsFound f c.args.script.now.rows.all.items known text) (sym (c.found_names.ensures ∙ ap (λ names. found_names (asks_names (map string_bytes names) command.method)) c.deref.ensures.value))
    (nothing-found c.args.script.now.rows.all.items known text command (ap (option_and_then command_in) is ∙ sym c.in-Some.ensures) (sym c.in-None.ensures))

pub returns-in_default : goal.returns-in_default
returns-in_default c = λ text is.
    no-command c.args.script.now.rows.all.items (map string_bytes c.args.script.now.known.items) text (ap (option_and_then command_in) is ∙ sym c.in_default.ensures)

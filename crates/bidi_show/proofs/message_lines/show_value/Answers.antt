use Rattle.std.proofs.Common.{string_bytes, sym, subst}
use Rattle.bidi_tree.specs.Json.{parsed}
use Rattle.bidi_messages.specs.Reading.{IsMisfit}
use Rattle.bidi_show.specs.MessageLines.{Refused, IsMessageLine, ShowsMessage, is_message, fits_none}
use Rattle.bidi_show.proofs.MessageLineLemmas.{known_shown}
use Rattle.bidi_show.proofs.message_lines.show_value.Goals as goal

pub returns-in-Some : goal.returns-in-Some
returns-in-Some c = λ line read.
    let t = parsed c.args.value.now in
    is_message t (string_bytes c.in_ok-known_response_line.field-0) read
    (known_shown t c.in-Some.id.value (string_bytes c.in_ok-known_response_line.field-0) c.in-Some.ensures.fits c.in-Some.ensures.id
    c.in_ok-known_response_line.ensures)

pub returns-in_ok-message_line-in-Ok : goal.returns-in_ok-message_line-in-Ok
returns-in_ok-message_line-in-Ok c = λ line read.
    let text = string_bytes c.in_ok-message_line-in-Ok.field-0 in
    is_message (parsed c.args.value.now) text read (subst (λ t. IsMessageLine t text) c.in-Ok.ensures.ok.0 c.in_ok-message_line-in-Ok.ensures)

pub returns-in_ok-from_str-in-Err-NoFit : goal.returns-in_ok-from_str-in-Err-NoFit
returns-in_ok-from_str-in-Err-NoFit c = λ line read.
    let t = parsed c.args.value.now in
    let misfit = subst (λ e. IsMisfit e t) c.in-Err-NoFit.field-0-is c.in-Err-NoFit.ensures.err in
    subst (λ s. ShowsMessage line (Refused s)) (sym c.in_ok-from_str-in-Err-NoFit.ensures.ok) (fits_none t read misfit)

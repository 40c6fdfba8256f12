use Rattle.std.proofs.Common.{◌∙◌, ap, refl}
use Rattle.std.proofs.lemmas.Str.Ascii.{trim_ascii_is}
use Rattle.websocket.specs.Headers.{eq_ignore_case}
use Rattle.bidi_requests.specs.Requests.{is_word}
use Rattle.bidi_requests.proofs.asking.is_word.Goals as goal

pub returns : goal.returns
unfolding is_word
returns c =
    c.is_same.ensures ∙ ap (λ l. eq_ignore_case l c.args.word.now) (trim_ascii_is c.args.piece.now c.trim_ascii.result.now _ refl c.trim_ascii.ensures.value)

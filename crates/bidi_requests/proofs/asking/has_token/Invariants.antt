use Rattle.std.proofs.Common.{◌≡◌, drop}
use Rattle.websocket.specs.Headers.{fields_of}
use Rattle.bidi_requests.specs.Requests.{has_word}
use Rattle.bidi_requests.proofs.asking.has_token.Given as goal

-- some field has the word exactly if one of those that are left has
abbrev pub invariant-loop-header : goal.invariant-loop-header
invariant-loop-header l =
    has_word (fields_of l.bytes l.headers) l.name l.word ≡ has_word (fields_of l.bytes (drop l.header-index l.headers)) l.name l.word

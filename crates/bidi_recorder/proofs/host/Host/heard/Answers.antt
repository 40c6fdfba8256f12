use Rattle.std.proofs.Common.{List, ℕ, IsUtf8, string_bytes, ap, subst, ◌∙◌}
use Rattle.std.proofs.lemmas.Str.{IsUtf8-string_bytes}
use Rattle.bidi_sessions.specs.Step.{Text}
use Rattle.bidi_play.specs.Lines.{line_of}
use Rattle.bidi_recorder.proofs.HostLemmas.{said_short}
use Rattle.bidi_recorder.proofs.host.Host.heard.Goals as goal

pub returns-clause-unsaid : goal.returns-clause-unsaid
returns-clause-unsaid c refused =
    let conn = c.args.conn in
    let said = c.in_ok-text in
    let line = c.in_ok-line-2 in
    let utf8 = subst IsUtf8 (line.ensures ∙ ap (λ (s : List ℕ). line_of (Text conn.value s)) c.as_str-4.ensures.value) (IsUtf8-string_bytes line.line) in
    c.take-2.ensures.unsaid refused (said_short conn.value (string_bytes said.text) conn.in_range utf8 said.ensures.one_line said.ensures.short)

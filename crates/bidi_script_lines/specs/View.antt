-- What contracts see of a line in the code.
use Rattle.std.specs.Prelude.{string_bytes}
use Rattle.bidi_sessions.specs.View.{step_of}
use Rattle.bidi_script_lines.specs.declared.script_line.ScriptLine.{ScriptLine}
use Rattle.bidi_script_lines.specs.declared.script_line.ScriptLine.TheVariants as code
use Rattle.bidi_script_lines.specs.ScriptLines.{Line, Plain, Answer, Hold, Release, ReleaseWith, Unanswer, Emit, On, Names, Send, Bytes, Raw, Stall, Resume, Cut, CutAfter, Close, Refuse}

-- the line, with the bytes of its strings
abbrev pub said_by : ScriptLine → Line
said_by (code.Step step) = Plain (step_of step)
said_by (code.Answer row) = Answer (string_bytes row)
said_by (code.Hold row) = Hold (string_bytes row)
said_by (code.Release number) = Release number.value
said_by (code.ReleaseWith number row) = ReleaseWith number.value (string_bytes row)
said_by (code.Unanswer method) = Unanswer (string_bytes method)
said_by (code.Emit event) = Emit (string_bytes event)
said_by (code.On method events) = On (string_bytes method) (string_bytes events)
said_by (code.Names names) = Names (string_bytes names)
said_by (code.Send conn text) = Send conn.value (string_bytes text)
said_by (code.Bytes conn digits) = Bytes conn.value (string_bytes digits)
said_by (code.Raw conn digits) = Raw conn.value (string_bytes digits)
said_by (code.Stall conn) = Stall conn.value
said_by (code.Resume conn) = Resume conn.value
said_by (code.Cut conn) = Cut conn.value
said_by (code.CutAfter conn bytes) = CutAfter conn.value bytes.value
said_by (code.Close conn code) = Close conn.value code.value
said_by (code.Refuse number code) = Refuse number.value code.value

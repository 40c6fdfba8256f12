-- What contracts see of rows, of commands and of events in the code.
use Rattle.std.specs.Prelude.{List, map, option_map, string_bytes}
use Rattle.json.specs.Value.{value_view}
use Rattle.bidi_rows.specs.declared.command.Command as declared_command
use Rattle.bidi_rows.specs.declared.row.Event as declared_event
use Rattle.bidi_rows.specs.declared.row.Reply as declared_reply
use Rattle.bidi_rows.specs.declared.row.Reply.TheVariants as reply_in_code
use Rattle.bidi_rows.specs.declared.row.Answer as declared_answer
use Rattle.bidi_rows.specs.declared.row.Action as declared_action
use Rattle.bidi_rows.specs.declared.row.Action.TheVariants as action_in_code
use Rattle.bidi_rows.specs.declared.row.Row as declared_row
use Rattle.bidi_rows.specs.Command.{Command}
use Rattle.bidi_rows.specs.Part.{part_of}
use Rattle.bidi_rows.specs.Rows.{Event, Reply, Result, Error, Answer, Action, Answers, Holds, Row}

-- the command, with the JSON values of its params
abbrev pub command_seen : declared_command.Command → Command
command_seen c = record { id = c.id.value; method = c.method.now; params = option_map (λ v. value_view v.now) c.params }

-- the event, with the bytes of its strings
abbrev pub event_of : declared_event.Event → Event
event_of e = record { method = string_bytes e.method; context = option_map string_bytes e.context; text = string_bytes e.text.value }

-- the events, in order
abbrev pub events_of : List declared_event.Event → List Event
events_of es = map event_of es

-- the reply, with the bytes of its texts
abbrev pub reply_of : declared_reply.Reply → Reply
reply_of (reply_in_code.Result result) = Result (string_bytes result)
reply_of (reply_in_code.Error code message) = Error (string_bytes code) (string_bytes message)

-- the answer, with its events
abbrev pub answer_of : declared_answer.Answer → Answer
answer_of a = record { before = events_of a.before.items; reply = reply_of a.reply; after = events_of a.after.items }

-- what the row does
abbrev pub action_of : declared_action.Action → Action
action_of (action_in_code.Answer a) = Answers (answer_of a)
action_of action_in_code.Hold = Holds

-- the row, with the JSON value of its part
abbrev pub row_of : declared_row.Row → Row
row_of r = record {
  method = string_bytes r.method;
  part = option_map part_of r.part;
  action = action_of r.action;
  left = r.left;
  bytes = r.bytes;
}

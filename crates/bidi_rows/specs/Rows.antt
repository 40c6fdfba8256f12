-- The rows by which a test answers or holds commands, and the events that it sends. This project's own.
use Rattle.std.specs.Prelude.{ℕ, Bool, ◌&&◌, List, ◌++◌, codes, bytes_eq, decimal, Option}
use Rattle.json.specs.Json.{Json}
use Rattle.json.specs.Print.{print, quoted}
use Rattle.json.specs.Tree.{json_tokens}
use Rattle.bidi_rows.specs.Command.{Command}
use Rattle.bidi_rows.specs.Matching.{is_part}

-- An event that a test sends: its method, the context that its params name, if they name one, and its message.
pub record Event : Type 0 where
  pub method : List ℕ
  pub context : Option (List ℕ)
  pub text : List ℕ

-- A reply has a result, or an error code with a message; each of them is JSON text.
pub data Reply : Type 0 where
  Result : (result : List ℕ) → Reply
  Error : (code : List ℕ) (message : List ℕ) → Reply

-- An answer is a reply with the events directly before and after it.
pub record Answer : Type 0 where
  pub before : List Event
  pub reply : Reply
  pub after : List Event

-- What a row does with a command: it answers it, or holds it.
pub data Action : Type 0 where
  Answers : (answer : Answer) → Action
  Holds : Action

-- A row: the method of the commands that it is for, the part that their params have, what it does, how often it may still be used, if that
-- is limited, and how many bytes its text has.
pub record Row : Type 0 where
  pub method : List ℕ
  pub part : Option Json
  pub action : Action
  pub left : Option ℕ
  pub bytes : ℕ

-- whether a row is for a command: it has the command's method, and its part is found in the command's params
abbrev pub matches : Command → Row → Bool
matches command row = bytes_eq row.method command.method && is_part row.part command.params

-- the compact JSON text of a value: no blanks, numbers and the order of properties as they are written
abbrev pub compact : Json → List ℕ
compact j = print (json_tokens j)

-- the message of a reply to the command of this id
-- example: `{"id":1,"result":{},"type":"success"}`
abbrev pub reply_text : ℕ → Reply → List ℕ
reply_text id (Result result) = codes "{\"id\":" ++ (decimal id ++ (codes ",\"result\":" ++ (result ++ codes ",\"type\":\"success\"}")))
reply_text id (Error code message) =
    codes "{\"error\":" ++ (code ++ (codes ",\"id\":" ++ (decimal id ++ (codes ",\"message\":" ++ (message ++ codes ",\"type\":\"error\"}")))))

-- the message of an event of this method with these params
-- example: `{"method":"log.entryAdded","params":{},"type":"event"}`
abbrev pub event_text : List ℕ → Json → List ℕ
event_text method params = codes "{\"method\":" ++ (quoted method ++ (codes ",\"params\":" ++ (compact params ++ codes ",\"type\":\"event\"}")))

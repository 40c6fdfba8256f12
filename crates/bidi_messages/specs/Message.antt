-- The messages that a remote end sends, as trees and texts, with only the members that their rule names. After WebDriver BiDi, "Protocol".
use Rattle.std.specs.Prelude.{ℕ, pos, Bool, List, Option, Some, None, codes}
use Rattle.bidi_tree.specs.Node.{Node, null, boolean, whole, text, map, no_members, member}
use Rattle.bidi_tree.specs.Text.{compact_text}
use Rattle.bidi_params.specs.declared.error_code.ErrorCode.{ErrorCode}
use Rattle.bidi_methods.specs.declared.event_data.EventName.{EventName}
use Rattle.bidi_params.specs.ErrorCode.{error_code_text}
use Rattle.bidi_methods.specs.EventName.{event_name_text as name_of}

-- an id, or null if there is none
abbrev pub id_tree : Option ℕ → Node
id_tree None = null
id_tree (Some n) = whole (pos n)

-- `{ type: "success", id: js-uint, result: { Extensible } }`, with its members in byte order
abbrev pub response_tree : ℕ → Node → Node
response_tree id result = map (
    member (codes "id") (whole (pos id)) (
    member (codes "result") result (
    member (codes "type") (text (codes "success")) no_members)))

-- `{ type: "error", id: js-uint / null, error: ErrorCode, message: text }`, where the message repeats the string of the code
abbrev pub error_tree : Option ℕ → ErrorCode → Node
error_tree id code = map (
    member (codes "error") (text (error_code_text code)) (
    member (codes "id") (id_tree id) (
    member (codes "message") (text (error_code_text code)) (
    member (codes "type") (text (codes "error")) no_members))))

-- `{ type: "event", method: "E", params: Q }`, with its members in byte order
abbrev pub event_tree : EventName → Node → Node
event_tree event params = map (
    member (codes "method") (text (name_of event)) (
    member (codes "params") params (
    member (codes "type") (text (codes "event")) no_members)))

-- `{ ready: bool, message: text }`, with its members in byte order
abbrev pub status_tree : Bool → List ℕ → Node
status_tree ready message = map (
    member (codes "message") (text message) (
    member (codes "ready") (boolean ready) no_members))

-- the text of a response
-- example: `{"id":1,"result":{},"type":"success"}`
abbrev pub response_text : ℕ → Node → List ℕ
response_text id result = compact_text (response_tree id result)

-- the text of an error
abbrev pub error_text : Option ℕ → ErrorCode → List ℕ
error_text id code = compact_text (error_tree id code)

-- the text of an event
abbrev pub event_text : EventName → Node → List ℕ
event_text event params = compact_text (event_tree event params)

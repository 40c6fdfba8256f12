-- The replies to calls. After W3C WebDriver, "Errors" and "New Session", and WebDriver BiDi, "Establishing a connection".
use Rattle.std.specs.Prelude.{◌≡◌, ℕ, List, [], ◌∷◌, ◌++◌, bytes_eq, codes, decimal, if◌then◌else◌, Option, Some, None, string_bytes, unwrap_or}
use Rattle.json.specs.Json.{Json, Members, document, member, no_members, object, string}
use Rattle.json.specs.Token.{Token}
use Rattle.json.specs.Tree.{json_tokens}
use Rattle.bidi_requests.specs.declared.answering.ReplyStatus.{ReplyStatus}
use Rattle.bidi_requests.specs.declared.answering.ReplyStatus.TheVariants as status
use Rattle.bidi_rows.specs.Reading.{object_at, string_at}
use Rattle.bidi_rows.specs.Rows.{compact}
use Rattle.bidi_classic.specs.declared.replies.CallError.{CallError}
use Rattle.bidi_classic.specs.declared.replies.CallError.TheVariants as error
use Rattle.bidi_classic.specs.declared.replies.Reply.{Reply}

-- the code of an error
abbrev pub code_of : CallError → List ℕ
code_of error.InvalidArgument = codes "invalid argument"
code_of error.InvalidSessionId = codes "invalid session id"
code_of error.SessionNotCreated = codes "session not created"
code_of error.UnknownCommand = codes "unknown command"
code_of (error.UnknownMethod methods) = codes "unknown method"
code_of error.UnknownError = codes "unknown error"

-- the status of an error
abbrev pub status_of : CallError → ReplyStatus
status_of error.InvalidArgument = status.BadRequest
status_of error.InvalidSessionId = status.NotFound
status_of error.SessionNotCreated = status.Failed
status_of error.UnknownCommand = status.NotFound
status_of (error.UnknownMethod methods) = status.NotAllowed methods
status_of error.UnknownError = status.Failed

-- the status of an error that the remote end gives, by its code
abbrev pub failed_status : List ℕ → ReplyStatus
failed_status code = if bytes_eq code (codes "invalid argument") then status.BadRequest else status.Failed

-- the JSON text of a string
abbrev pub quoted : List ℕ → List ℕ
quoted text = compact (string text)

-- the JSON text of an error with this code and this message
abbrev pub error_text : List ℕ → List ℕ → List ℕ
error_text code message = codes "{\"value\":{\"error\":" ++ (quoted code ++ (codes ",\"message\":" ++ (quoted message ++ codes ",\"stacktrace\":\"\"}}")))

-- A reply has this status, and tells this code and this message.
pub record IsErrorReply (s : ReplyStatus) (code message : List ℕ) (reply : Reply) : Type 0 where
  pub has_status : reply.status ≡ s
  pub has_text : string_bytes reply.json ≡ error_text code message

-- the address of a session's WebSocket at a port
abbrev pub session_url : ℕ → List ℕ → List ℕ
session_url port id = codes "ws://127.0.0.1:" ++ (decimal port ++ (codes "/session/" ++ id))

-- the name of the property with the address of a session's WebSocket
abbrev pub address_name : List ℕ
address_name = codes "webSocketUrl"

-- the properties without those of a name
abbrev pub without : List ℕ → Members → Members
without name no_members = no_members
without name (member key value others) = if bytes_eq key name then without name others else member key value (without name others)

-- an object with this address in front of its other properties; any address that it has is left out
abbrev pub with_url : List ℕ → Json → Json
with_url url (object members) = object (member address_name (string url) (without address_name members))
with_url url value = value

-- the tokens of a property, unless it is an address
abbrev pub other_tokens : List ℕ → Json → List Token
other_tokens name value = if bytes_eq name address_name then [] else Token.key name ∷ json_tokens value

-- the JSON text of a new session with this id and these capabilities
abbrev pub session_text : ℕ → List ℕ → Json → List ℕ
session_text port id capabilities =
    codes "{\"value\":{\"capabilities\":" ++ (compact (with_url (session_url port id) capabilities) ++ (codes ",\"sessionId\":" ++ (quoted id ++ codes "}}")))

-- The result of `session.new` gives this reply: the id of the session, and its capabilities with the address of its WebSocket.
abbrev pub IsSessionReply : ℕ → Json → Option Reply → Type 0
IsSessionReply port result (Some reply) =
    (id : List ℕ) × (string_at (codes "sessionId") result ≡ Some id)
    × ((capabilities : Json) × (object_at (codes "capabilities") result ≡ Some capabilities)
    × (reply.status ≡ status.Done) × (string_bytes reply.json ≡ session_text port id capabilities))
IsSessionReply port result None =
    (id : List ℕ) (capabilities : Json) → string_at (codes "sessionId") result ≡ Some id → object_at (codes "capabilities") result ≡ Some capabilities → ⊥

-- An error message gives this reply: its code with the status of the code, and its message.
abbrev pub IsFailedReply : Json → Option Reply → Type 0
IsFailedReply answer (Some reply) =
    (code : List ℕ) × (string_at (codes "error") answer ≡ Some code)
    × IsErrorReply (failed_status code) code (unwrap_or (string_at (codes "message") answer) []) reply
IsFailedReply answer None = string_at (codes "error") answer ≡ None

-- An answer with a result gives one reply, and any other the reply of an error message.
abbrev pub IsReplyBy : (Json → Option Reply → Type 0) → Option Json → Json → Option Reply → Type 0
IsReplyBy P (Some result) answer reply = P result reply
IsReplyBy P None answer reply = IsFailedReply answer reply

-- A text gives a reply by the answer that it is; a text that is not JSON gives none.
abbrev pub IsAnswered : (Json → Option Reply → Type 0) → Option Json → Option Reply → Type 0
IsAnswered P (Some answer) reply = IsReplyBy P (object_at (codes "result") answer) answer reply
IsAnswered P None reply = reply ≡ None

-- The text of an answer to `session.new` gives this reply.
abbrev pub IsNewReply : ℕ → List ℕ → Option Reply → Type 0
IsNewReply port text reply = IsAnswered (IsSessionReply port) (document text) reply

-- The result of `session.end` gives a reply without a value.
abbrev pub IsDoneReply : Json → Option Reply → Type 0
IsDoneReply result (Some reply) = (reply.status ≡ status.Done) × (string_bytes reply.json ≡ codes "{\"value\":null}")
IsDoneReply result None = ⊥

-- The text of an answer to `session.end` gives this reply.
abbrev pub IsEndReply : List ℕ → Option Reply → Type 0
IsEndReply text reply = IsAnswered IsDoneReply (document text) reply

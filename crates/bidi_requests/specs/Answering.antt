-- The answers of a server to a request that it does not open, and to a call, in HTTP/1.1. The rows are those of docs/FORMATS.md, "Requests".
use Rattle.std.specs.Prelude.{◌+◌, ℕ, List, [], ◌∷◌, ◌++◌, length, codes, decimal}
use Rattle.websocket.specs.Headers.{crlf}
use Rattle.bidi_requests.specs.declared.answering.Answer.{Answer}
use Rattle.bidi_requests.specs.declared.answering.Answer.TheVariants.{BadBody, BadKey, Foreign, NoLength, NoUpgrade, NotHttp, Ready, Refused, TooLong, TooManyFields}
use Rattle.bidi_requests.specs.declared.answering.AllowedMethods.TheVariants.{Get, GetAndDelete, GetAndPost}
use Rattle.bidi_requests.specs.declared.answering.ReplyStatus.{ReplyStatus}
use Rattle.bidi_requests.specs.declared.answering.ReplyStatus.TheVariants as reply
use Rattle.bidi_requests.specs.declared.answering.RequestRefusal.TheVariants.{Full, NotFound, OfTest}

-- the status of an answer
abbrev pub status_of : Answer → ℕ
status_of Ready = 200
status_of NotHttp = 400
status_of TooManyFields = 400
status_of BadBody = 400
status_of NoLength = 411
status_of TooLong = 413
status_of BadKey = 400
status_of Foreign = 403
status_of NoUpgrade = 426
status_of (Refused NotFound) = 404
status_of (Refused Full) = 503
status_of (Refused (OfTest status)) = status

-- the reason behind the status
abbrev pub reason_of : Answer → List ℕ
reason_of Ready = codes "OK"
reason_of NotHttp = codes "Bad Request"
reason_of TooManyFields = codes "Bad Request"
reason_of BadBody = codes "Bad Request"
reason_of NoLength = codes "Length Required"
reason_of TooLong = codes "Content Too Large"
reason_of BadKey = codes "Bad Request"
reason_of Foreign = codes "Forbidden"
reason_of NoUpgrade = codes "Upgrade Required"
reason_of (Refused NotFound) = codes "Not Found"
reason_of (Refused Full) = codes "Service Unavailable"
reason_of (Refused (OfTest status)) = codes "Refused"

-- the header lines that only this answer has
abbrev pub own_lines_of : Answer → List ℕ
own_lines_of NoUpgrade = codes "Upgrade: websocket" ++ crlf ++ codes "Sec-WebSocket-Version: 13" ++ crlf
own_lines_of Ready = codes "Cache-Control: no-cache" ++ crlf
own_lines_of a = []

-- the media type of a line of text
abbrev pub plain_type : List ℕ
plain_type = codes "text/plain; charset=utf-8"

-- the media type of a JSON text
abbrev pub json_type : List ℕ
json_type = codes "application/json; charset=utf-8"

-- the media type of the body of an answer
abbrev pub type_of : Answer → List ℕ
type_of Ready = json_type
type_of a = plain_type

-- the body of an answer, without its line feed
abbrev pub line_of : Answer → List ℕ
line_of Ready = codes "{\"value\":{\"ready\":true,\"message\":\"ready\"}}"
line_of NotHttp = codes "bad request: not an HTTP/1.x request with a head of at most 65536 bytes"
line_of TooManyFields = codes "bad request: a head has at most 124 header fields"
line_of BadBody = codes "bad request: a body needs one Content-Length, or chunks as in HTTP/1.1"
line_of NoLength = codes "length required: a POST needs a Content-Length, or chunks"
line_of TooLong = codes "content too large: a body has at most 65536 bytes"
line_of BadKey = codes "bad request: Sec-WebSocket-Key must be 16 bytes in base64"
line_of Foreign = codes "forbidden: an Origin must be http(s)://127.0.0.1 or http(s)://localhost, with any port"
line_of NoUpgrade = codes "upgrade required: connect by WebSocket, version 13"
line_of (Refused NotFound) = codes "no such resource: connect to /session, /session/ID or /page"
line_of (Refused Full) = codes "too many connections: try again later"
line_of (Refused (OfTest status)) = codes "refused by a test"

-- the first line of an answer with this status and its reason, without its end
abbrev pub first_line_of : ℕ → List ℕ → List ℕ
first_line_of status reason = codes "HTTP/1.1 " ++ (decimal status ++ 32 ∷ reason)

-- the bytes of an answer with this first line, these own header lines, this media type and this line of text: a head, an empty line, and the body
abbrev pub response_of : List ℕ → List ℕ → List ℕ → List ℕ → List ℕ
response_of first own_lines media_type line =
    first ++ (crlf ++ (own_lines ++ (codes "Connection: close" ++ (crlf ++ (codes "Content-Type: " ++ (media_type ++ (crlf
    ++ (codes "Content-Length: " ++ (decimal (length line + 1) ++ (crlf ++ (crlf ++ (line ++ 10 ∷ []))))))))))))

-- the bytes of an answer
abbrev pub answer_bytes : Answer → List ℕ
answer_bytes a = response_of (first_line_of (status_of a) (reason_of a)) (own_lines_of a) (type_of a) (line_of a)

-- the status of the reply to a call
abbrev pub reply_status_of : ReplyStatus → ℕ
reply_status_of reply.Done = 200
reply_status_of reply.BadRequest = 400
reply_status_of reply.NotFound = 404
reply_status_of (reply.NotAllowed methods) = 405
reply_status_of reply.Failed = 500

-- the reason behind the status of a reply
abbrev pub reply_reason_of : ReplyStatus → List ℕ
reply_reason_of reply.Done = codes "OK"
reply_reason_of reply.BadRequest = codes "Bad Request"
reply_reason_of reply.NotFound = codes "Not Found"
reply_reason_of (reply.NotAllowed methods) = codes "Method Not Allowed"
reply_reason_of reply.Failed = codes "Internal Server Error"

-- the header lines of a reply with this status: no cache keeps it, and a method that is not allowed is answered by those that are (RFC 9110, 15.5.6)
abbrev pub reply_lines_of : ReplyStatus → List ℕ
reply_lines_of (reply.NotAllowed Get) = codes "Allow: GET" ++ (crlf ++ (codes "Cache-Control: no-cache" ++ crlf))
reply_lines_of (reply.NotAllowed GetAndPost) = codes "Allow: GET, POST" ++ (crlf ++ (codes "Cache-Control: no-cache" ++ crlf))
reply_lines_of (reply.NotAllowed GetAndDelete) = codes "Allow: GET, DELETE" ++ (crlf ++ (codes "Cache-Control: no-cache" ++ crlf))
reply_lines_of status = codes "Cache-Control: no-cache" ++ crlf

-- the bytes of the reply to a call with this status and this JSON text
abbrev pub reply_bytes : ReplyStatus → List ℕ → List ℕ
reply_bytes status json = response_of (first_line_of (reply_status_of status) (reply_reason_of status)) (reply_lines_of status) json_type json

-- How a request is answered: RFC 6455, 4.2.1 and 4.2.2, and RFC 9112, 6.3. The rows are those of docs/FORMATS.md, "Requests".
use Rattle.std.specs.Prelude.{◌≡◌, ◌≢◌, ◌≤◌, ◌<◌, ◌+◌, ◌⊎◌, ◌&&◌, ◌-◌, ◌==◌, Bool, true, ℕ, List, [], ◌∷◌, ⊤, drop, filter, length, map, take, Some, codes, string_bytes}
use Rattle.std.specs.Char.{is_ascii_whitespace}
use Rattle.std.specs.List.{list_any, prefix_len, slice_split, suffix_len}
use Rattle.std.specs.Str.Parse.{digits_value}
use Rattle.httparse.specs.Grammar.{HasNoRequest, NeverHasRequest, ReadsRequest, RequestHead, print_request}
use Rattle.httparse.specs.declared.spans.HeaderSpan.{HeaderSpan}
use Rattle.httparse.specs.declared.spans.RequestSpans.{RequestSpans}
use Rattle.httparse.specs.Spans.{RequestExceeds, name_and_value, span_bytes}
use Rattle.websocket.specs.Handshake.{IsValidKey, accept_key_of}
use Rattle.websocket.specs.Headers.{Fields, eq_ignore_case, fields_of, header_value}
use Rattle.bidi_requests.specs.Bodies.{AreDigits, HasChunkedBody, IsChunkedAs, most_body, most_framed}
use Rattle.bidi_requests.specs.Origins.{IsLocal}
use Rattle.bidi_requests.specs.Targets.{IsSocketResource, resource_of}
use Rattle.bidi_requests.specs.declared.answering.Answer.{Answer}
use Rattle.bidi_requests.specs.declared.answering.Answer.TheVariants as answer
use Rattle.bidi_requests.specs.declared.asking.Asked.{Asked}
use Rattle.bidi_requests.specs.declared.asking.Asked.TheVariants as asked
use Rattle.bidi_requests.specs.declared.asking.Kind.{Kind}
use Rattle.bidi_requests.specs.declared.asking.Kind.TheVariants as kind
use Rattle.bidi_requests.specs.declared.calling.Call.{Call}
use Rattle.bidi_requests.specs.declared.chunks.Chunked.TheVariants as chunked
use Rattle.bidi_requests.specs.declared.calling.Framing.{Framing}
use Rattle.bidi_requests.specs.declared.calling.Framing.TheVariants as framing
use Rattle.bidi_requests.specs.declared.calling.Method.{Method}
use Rattle.bidi_requests.specs.declared.calling.Method.TheVariants as method
use Rattle.bidi_requests.specs.declared.calling.Values.{Values}
use Rattle.bidi_requests.specs.declared.calling.Values.TheVariants as values

-- the longest head, in bytes
abbrev pub longest_head : ℕ
longest_head = 65536

-- the most header fields of a head
abbrev pub most_fields : ℕ
most_fields = 124

-- The parts of a request; the value of a field has no white space around it.
pub record Request : Type 0 where
  pub method : List ℕ
  pub target : List ℕ
  pub minor : ℕ
  pub fields : Fields

-- the request of a head
abbrev pub request_of : RequestHead → Request
request_of h = record { method = h.method; target = h.target; minor = h.minor; fields = map name_and_value h.fields }

-- A field is not `Origin`, or it names this machine.
abbrev pub IsLetIn : List ℕ × List ℕ → Type 0
IsLetIn field = eq_ignore_case field.0 (codes "Origin") ≡ true → IsLocal field.1

-- Each field that is `Origin` names this machine.
abbrev pub AreLetIn : Fields → Type 0
AreLetIn [] = ⊤
AreLetIn (field ∷ fields) = IsLetIn field × AreLetIn fields

-- A request names no origin but this machine.
abbrev pub IsFromHere : Request → Type 0
IsFromHere r = AreLetIn r.fields

-- A request is a GET.
abbrev pub IsGet : Request → Type 0
IsGet r = r.method ≡ codes "GET"

-- A request names version 13 of the protocol.
abbrev pub HasVersion : Request → Type 0
HasVersion r = header_value r.fields (codes "Sec-WebSocket-Version") ≡ Some (codes "13")

-- A request has this key, and the key is valid.
abbrev pub HasKey : Request → List ℕ → Type 0
HasKey r key = (header_value r.fields (codes "Sec-WebSocket-Key") ≡ Some key) × IsValidKey key

-- bytes without the white space at their end
abbrev pub without_end : List ℕ → List ℕ
without_end bytes = take (length bytes - suffix_len is_ascii_whitespace bytes) bytes

-- bytes without the white space around them
abbrev pub trimmed : List ℕ → List ℕ
trimmed bytes = without_end (drop (prefix_len is_ascii_whitespace bytes) bytes)

-- whether a piece is this word, in any case and with white space around it
unfoldable pub is_word : List ℕ → List ℕ → Bool
is_word word piece = eq_ignore_case (trimmed piece) word

-- whether one of the pieces between commas is this word
unfoldable pub lists : List ℕ → List ℕ → Bool
lists value word = list_any (is_word word) (slice_split (λ b. b == 44) value)

-- whether a field of this name lists this word
abbrev pub has_word : Fields → List ℕ → List ℕ → Bool
has_word fields name word = list_any (λ field. eq_ignore_case field.0 name && lists field.1 word) fields

-- A request asks for an upgrade to a WebSocket (RFC 6455, 4.2.1): `Connection` lists `upgrade`, and `Upgrade` lists `websocket`.
abbrev pub AsksUpgrade : Fields → Type 0
AsksUpgrade fields =
    (has_word fields (codes "Connection") (codes "upgrade") ≡ true) × (has_word fields (codes "Upgrade") (codes "websocket") ≡ true)

-- A request does not ask for an upgrade, or it is of HTTP/1.0, which has none.
abbrev pub LacksUpgrade : Request → Type 0
LacksUpgrade r = (r.minor ≡ 0) ⊎ ¬ (AsksUpgrade r.fields)

-- A request opens a WebSocket with this accept key: it comes from this machine, is a GET of HTTP/1.1, asks for the upgrade and for version 13, and has a valid key.
pub record Opens (r : Request) (accept : List ℕ) : Type 0 where
  pub from_here : IsFromHere r
  pub get : IsGet r
  pub minor : r.minor ≡ 1
  pub upgrade : AsksUpgrade r.fields
  pub version : HasVersion r
  pub key : (key : List ℕ) × HasKey r key × (accept ≡ accept_key_of key)

-- A GET asks for no upgrade, and for a resource that is no WebSocket's and is not the status.
abbrev pub AsksElsewhere : Request → Type 0
AsksElsewhere r = IsGet r × LacksUpgrade r × (resource_of r.target ≢ codes "/status") × ¬ (IsSocketResource (resource_of r.target))

-- A request is a call: it comes from this machine, and it is no GET, or a GET that asks elsewhere.
abbrev pub IsCall : Request → Type 0
IsCall r = IsFromHere r × ((¬ (IsGet r)) ⊎ AsksElsewhere r)

-- This answer refuses a request by its head; the causes are checked in this order.
abbrev pub IsRefusedBy : Request → Answer → Type 0
-- it names another origin
IsRefusedBy r answer.Foreign = ¬ (IsFromHere r)
-- it does not ask for an upgrade, and asks for the status
IsRefusedBy r answer.Ready = IsFromHere r × IsGet r × LacksUpgrade r × (resource_of r.target ≡ codes "/status")
-- it asks for the resource of a WebSocket without an upgrade, or for another version than 13
IsRefusedBy r answer.NoUpgrade =
    IsFromHere r × IsGet r
    × ((LacksUpgrade r × (resource_of r.target ≢ codes "/status") × IsSocketResource (resource_of r.target)) ⊎ ((r.minor ≡ 1) × AsksUpgrade r.fields × ¬ (HasVersion r)))
-- it has no valid key
IsRefusedBy r answer.BadKey =
    IsFromHere r × IsGet r × (r.minor ≡ 1) × AsksUpgrade r.fields × HasVersion r
    × ((key : List ℕ) → header_value r.fields (codes "Sec-WebSocket-Key") ≡ Some key → ¬ (IsValidKey key))
IsRefusedBy r a = ⊥

-- What the head of a request asks for: a WebSocket, a call, or an answer.
abbrev pub IsOfKind : Request → Kind → Type 0
IsOfKind r (kind.Socket accept) = Opens r accept
IsOfKind r kind.Call = IsCall r
IsOfKind r (kind.Other a) = IsRefusedBy r a

-- The method that a name stands for.
abbrev pub IsMethod : List ℕ → Method → Type 0
IsMethod name method.Get = name ≡ codes "GET"
IsMethod name method.Post = name ≡ codes "POST"
IsMethod name method.Delete = name ≡ codes "DELETE"
IsMethod name method.Other = (name ≢ codes "GET") × (name ≢ codes "POST") × (name ≢ codes "DELETE")

-- the values of the fields of a name
abbrev pub values_of : Fields → List ℕ → List (List ℕ)
values_of fields name = map (λ field. field.1) (filter (λ field. eq_ignore_case field.0 name) fields)

-- The values are none, this one, or several.
abbrev pub AreValues : List (List ℕ) → Values → Type 0
AreValues vs values.None = vs ≡ []
AreValues vs (values.One v) = vs ≡ v.now ∷ []
AreValues vs values.Several = 1 < length vs

-- the values of the fields `Transfer-Encoding`
abbrev pub codings : Request → List (List ℕ)
codings r = values_of r.fields (codes "Transfer-Encoding")

-- the values of the fields `Content-Length`
abbrev pub lengths : Request → List (List ℕ)
lengths r = values_of r.fields (codes "Content-Length")

-- A request is a POST without the length of its body.
abbrev pub LacksLength : Request → Type 0
LacksLength r = (codings r ≡ []) × (lengths r ≡ []) × (r.method ≡ codes "POST")

-- The body has so many bytes: those of the only `Content-Length`, or none if there is no such field (RFC 9112, 6.3).
abbrev pub IsSized : Request → ℕ → Type 0
IsSized r n =
    (codings r ≡ [])
    × (((lengths r ≡ []) × (r.method ≢ codes "POST") × (n ≡ 0)) ⊎ ((text : List ℕ) × (lengths r ≡ text ∷ []) × AreDigits text × (n ≡ digits_value 10 text)))

-- The body comes in chunks: the only `Transfer-Encoding` is `chunked`, there is no `Content-Length`, and the request is of HTTP/1.1.
abbrev pub IsChunked : Request → Type 0
IsChunked r = (r.minor ≡ 1) × (lengths r ≡ []) × ((coding : List ℕ) × (codings r ≡ coding ∷ []) × (eq_ignore_case coding (codes "chunked") ≡ true))

-- How the body of a call is framed.
abbrev pub IsFramedBy : Request → Framing → Type 0
IsFramedBy r (framing.Sized n) = IsSized r n × (n ≤ most_body)
IsFramedBy r framing.Chunked = IsChunked r
-- a POST has no length
IsFramedBy r (framing.Refused answer.NoLength) = LacksLength r
-- the body is too long
IsFramedBy r (framing.Refused answer.TooLong) = (n : ℕ) × IsSized r n × (most_body < n)
-- nothing of this
IsFramedBy r (framing.Refused answer.BadBody) = ((n : ℕ) → ¬ (IsSized r n)) × (¬ (IsChunked r)) × (¬ (LacksLength r))
IsFramedBy r (framing.Refused a) = ⊥

-- How a body is framed whose length is written so.
abbrev pub IsSizedBy : List ℕ → Framing → Type 0
IsSizedBy text (framing.Sized n) = AreDigits text × (n ≡ digits_value 10 text) × (n ≤ most_body)
IsSizedBy text (framing.Refused answer.TooLong) = AreDigits text × (most_body < digits_value 10 text)
IsSizedBy text (framing.Refused answer.BadBody) = AreDigits text → ⊥
IsSizedBy text f = ⊥

-- The bytes begin with this head, and it is not too long.
abbrev pub BeginsWith : List ℕ → RequestHead → Type 0
BeginsWith bytes h = ((rest : List ℕ) × ReadsRequest bytes h rest) × (length (print_request h) ≤ longest_head)

-- The bytes begin with the head of a call.
abbrev pub BeginsCall : List ℕ → RequestHead → Type 0
BeginsCall bytes h = BeginsWith bytes h × IsCall (request_of h)

-- the bytes behind a head
abbrev pub behind_head : List ℕ → RequestHead → List ℕ
behind_head bytes h = drop (length (print_request h)) bytes

-- A part of the body of a request is there, and it is not whole before the request has so many bytes.
abbrev pub HasPart : List ℕ → RequestHead → ℕ → Type 0
HasPart bytes h least =
    ((size : ℕ) × IsSized (request_of h) size × (size ≤ most_body) × (least ≡ length (print_request h) + size) × (length bytes < least))
    ⊎ (IsChunked (request_of h) × (least ≡ 1) × IsChunkedAs (behind_head bytes h) chunked.Part)

-- The body of a request is this, and it has so many bytes with its chunks.
abbrev pub HasBody : List ℕ → RequestHead → List ℕ → ℕ → Type 0
HasBody bytes h body n =
    (IsSized (request_of h) n × (n ≤ length (behind_head bytes h)) × (body ≡ take n (behind_head bytes h)))
    ⊎ (IsChunked (request_of h) × (n ≤ length (behind_head bytes h)) × (n ≤ most_framed) × HasChunkedBody (behind_head bytes h) body (drop n (behind_head bytes h)))

-- The parts of a call are those of a request with this body.
pub record IsCallOf (call : Call) (r : Request) (content : List ℕ) : Type 0 where
  pub method : IsMethod r.method call.method
  pub resource : string_bytes call.resource ≡ resource_of r.target
  pub body : call.body.items ≡ content
  pub short : length content ≤ most_body

-- This answer refuses a call by how its body is framed.
abbrev pub IsRefusedBody : List ℕ → RequestHead → Answer → Type 0
IsRefusedBody bytes h a = IsFramedBy (request_of h) (framing.Refused a) ⊎ (IsChunked (request_of h) × IsChunkedAs (behind_head bytes h) (chunked.Refused a))

-- What the bytes at the front of a stream ask for.
abbrev pub IsAskedBy : List ℕ → Asked → Type 0
-- no whole head is there yet
IsAskedBy bytes asked.Part = HasNoRequest bytes × (length bytes ≤ longest_head)
-- the head of a call is there, and not yet the whole body
IsAskedBy bytes (asked.Body least) = (h : RequestHead) × BeginsCall bytes h × HasPart bytes h least
-- a head that opens a WebSocket: its resource, its accept key, and how long it is
IsAskedBy bytes (asked.Socket resource accept n) =
    (h : RequestHead) × BeginsWith bytes h × Opens (request_of h) accept × (string_bytes resource ≡ resource_of h.target) × (n ≡ length (print_request h))
-- a call with its whole body, and how long both are
IsAskedBy bytes (asked.Call call n) =
    (h : RequestHead) × BeginsCall bytes h
    × ((body : List ℕ) × (size : ℕ) × IsCallOf call (request_of h) body × HasBody bytes h body size × (n ≡ length (print_request h) + size))
-- a head has too many fields
IsAskedBy bytes (asked.Other answer.TooManyFields) = RequestExceeds most_fields bytes
-- there is no head that is short enough, nor will there be one
IsAskedBy bytes (asked.Other answer.NotHttp) = NeverHasRequest bytes ⊎ (longest_head < length bytes)
-- a head that is refused, or a call whose body is
IsAskedBy bytes (asked.Other a) = (h : RequestHead) × BeginsWith bytes h × (IsRefusedBy (request_of h) a ⊎ (IsCall (request_of h) × IsRefusedBody bytes h a))

-- The bytes hold no whole request yet, and there are not too many for one; if a head is there, the request is not whole before it has so many bytes.
abbrev pub IsUnfinished : ℕ → List ℕ → Type 0
IsUnfinished least bytes = ((least ≡ 0) × IsAskedBy bytes asked.Part) ⊎ IsAskedBy bytes (asked.Body least)

-- the request whose parts these spans cover
abbrev pub spanned_request : List ℕ → List HeaderSpan → RequestSpans → Request
spanned_request buf spans r =
    record { method = span_bytes buf r.method; target = span_bytes buf r.path; minor = r.version; fields = fields_of buf (take r.headers spans) }

-- What a GET without an upgrade asks for: the status, an upgrade, or a call.
abbrev pub IsPlain : List ℕ → Kind → Type 0
IsPlain resource (kind.Other answer.Ready) = resource ≡ codes "/status"
IsPlain resource (kind.Other answer.NoUpgrade) = (resource ≢ codes "/status") × IsSocketResource resource
IsPlain resource kind.Call = (resource ≢ codes "/status") × ¬ (IsSocketResource resource)
IsPlain resource k = ⊥

-- The accept key of a valid key, or that there is no valid key.
abbrev pub AcceptsKey : Fields → Kind → Type 0
AcceptsKey fields (kind.Socket accept) = (key : List ℕ) × (header_value fields (codes "Sec-WebSocket-Key") ≡ Some key) × IsValidKey key × (accept ≡ accept_key_of key)
AcceptsKey fields (kind.Other answer.BadKey) = (key : List ℕ) → header_value fields (codes "Sec-WebSocket-Key") ≡ Some key → ¬ (IsValidKey key)
AcceptsKey fields k = ⊥

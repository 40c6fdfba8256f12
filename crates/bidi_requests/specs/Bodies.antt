-- The bodies of calls: RFC 9112, 6.3 and 7.1.
use Rattle.std.specs.Prelude.{◌≡◌, ◌<◌, ◌≤◌, ◌+◌, ◌⊎◌, ℕ, List, [], ◌∷◌, ◌++◌, All, IsTrue, drop, flat_map, length, take}
use Rattle.std.specs.Char.{is_ascii_digit}
use Rattle.httparse.specs.Grammar.{ChunkLine, Field, LineEnd, ReadsChunkLine, ReadsSection, chunk_size, crlf, print_end}
use Rattle.httparse.specs.Spans.{SectionExceeds}
use Rattle.bidi_requests.specs.Extensions.{AreExtensions, behind_size}
use Rattle.bidi_requests.specs.declared.answering.Answer.TheVariants as answer
use Rattle.bidi_requests.specs.declared.chunks.Chunked.{Chunked}
use Rattle.bidi_requests.specs.declared.chunks.Chunked.TheVariants as chunked
use Rattle.bidi_requests.specs.declared.chunks.Step.{Step}
use Rattle.bidi_requests.specs.declared.chunks.Step.TheVariants as step

-- the most bytes of a body
abbrev pub most_body : ℕ
most_body = 65536

-- the most bytes of a body with what frames its chunks
abbrev pub most_framed : ℕ
most_framed = 524288

-- the most fields behind the last chunk
abbrev pub most_trailers : ℕ
most_trailers = 124

-- The bytes are decimal digits, at least one.
abbrev pub AreDigits : List ℕ → Type 0
AreDigits bytes = (0 < length bytes) × All (λ b. IsTrue (is_ascii_digit b)) bytes

-- The bytes begin with the line of a chunk, which has extensions or none behind its size; then come the bytes behind it.
abbrev pub ReadsLine : List ℕ → ChunkLine → List ℕ → Type 0
ReadsLine bytes line behind = ReadsChunkLine bytes line behind × AreExtensions (behind_size line)

-- The bytes begin with a chunk of this data, of at least one byte; then come the bytes behind it.
pub record HasChunk (bytes content behind : List ℕ) : Type 0 where
  pub line : ChunkLine
  pub reads : ReadsLine bytes line (content ++ (print_end crlf ++ behind))
  pub size : chunk_size line ≡ length content
  pub some : 0 < length content

-- The bytes begin with chunks of these data; then come the bytes behind them.
abbrev pub HasChunks : List ℕ → List (List ℕ) → List ℕ → Type 0
HasChunks bytes [] behind = bytes ≡ behind
HasChunks bytes (first ∷ others) behind = (rest : List ℕ) × HasChunk bytes first rest × HasChunks rest others behind

-- The bytes begin with the last chunk, whose size is 0, and these bytes follow it.
abbrev pub HasLastChunk : List ℕ → List ℕ → Type 0
HasLastChunk bytes behind = (line : ChunkLine) × ReadsLine bytes line behind × (chunk_size line ≡ 0)

-- The bytes begin with the last chunk, a trailer section and its empty line; then come the bytes behind it.
abbrev pub HasEnd : List ℕ → List ℕ → Type 0
HasEnd bytes behind = (trailers : List ℕ) × HasLastChunk bytes trailers × ((fields : List Field) × (last : LineEnd) × ReadsSection trailers fields last behind)

-- The bytes begin with a body in chunks, which is this body without its chunks; then come the bytes behind it.
pub record HasChunkedBody (bytes body behind : List ℕ) : Type 0 where
  pub chunks : List (List ℕ)
  pub left : List ℕ
  pub has : HasChunks bytes chunks left
  pub ends : HasEnd left behind
  pub joins : body ≡ flat_map (λ c. c) chunks

-- No body in chunks is whole at the front of the bytes.
abbrev pub HasNoChunkedBody : List ℕ → Type 0
HasNoChunkedBody bytes = (body behind : List ℕ) → HasChunkedBody bytes body behind → ⊥

-- No bytes can follow that make a body in chunks of the front of the bytes.
abbrev pub NeverHasChunkedBody : List ℕ → Type 0
NeverHasChunkedBody bytes = (more : List ℕ) → HasNoChunkedBody (bytes ++ more)

-- The last chunk is followed by more fields than are taken.
abbrev pub HasManyTrailers : List ℕ → Type 0
HasManyTrailers bytes = (trailers : List ℕ) × HasLastChunk bytes trailers × SectionExceeds most_trailers trailers

-- The next chunk has more bytes than there is room for.
abbrev pub HasLargeChunk : List ℕ → ℕ → Type 0
HasLargeChunk bytes room = (line : ChunkLine) × (behind : List ℕ) × ReadsLine bytes line behind × (room < chunk_size line)

-- What some bytes are, as a body in chunks.
abbrev pub IsReadAs : List ℕ → Chunked → Type 0
-- the beginning of one
IsReadAs bytes chunked.Part = HasNoChunkedBody bytes
-- a whole one, with so many bytes
IsReadAs bytes (chunked.Whole body n) = HasChunkedBody bytes body.items (drop n bytes) × (n ≤ length bytes) × (length body.items ≤ most_body)
-- none, or one whose last chunk is followed by too many fields
IsReadAs bytes (chunked.Refused answer.BadBody) =
    NeverHasChunkedBody bytes ⊎ ((chunks : List (List ℕ)) × (left : List ℕ) × HasChunks bytes chunks left × HasManyTrailers left)
-- one whose next chunk takes it past the most bytes
IsReadAs bytes (chunked.Refused answer.TooLong) =
    (chunks : List (List ℕ)) × (left : List ℕ) × HasChunks bytes chunks left × ((room : ℕ) × (room + length (flat_map (λ c. c) chunks) ≡ most_body) × HasLargeChunk left room)
IsReadAs bytes (chunked.Refused a) = ⊥

-- the bytes that decide what a body in chunks is: as many as it may have with its chunks
abbrev pub deciding : List ℕ → List ℕ
deciding bytes = take most_framed bytes

-- What the bytes after a head are, as a body in chunks. It has at most 524,288 bytes with its chunks and its trailers, and the bytes behind those decide nothing.
abbrev pub IsChunkedAs : List ℕ → Chunked → Type 0
-- the beginning of one, which may have more bytes
IsChunkedAs bytes chunked.Part = IsReadAs bytes chunked.Part × (length bytes < most_framed)
-- a whole one, with so many bytes
IsChunkedAs bytes (chunked.Whole body n) = IsReadAs bytes (chunked.Whole body n) × (n ≤ most_framed)
-- one that is too long: by its next chunk, or since none ends within the most bytes
IsChunkedAs bytes (chunked.Refused answer.TooLong) =
    IsReadAs (deciding bytes) (chunked.Refused answer.TooLong) ⊎ ((most_framed ≤ length bytes) × HasNoChunkedBody (deciding bytes))
-- one that is refused for anything else
IsChunkedAs bytes (chunked.Refused a) = IsReadAs (deciding bytes) (chunked.Refused a)

-- What is at the front of some bytes in a body in chunks, if there may be so many more.
abbrev pub IsStep : List ℕ → ℕ → Step → Type 0
IsStep bytes room step.Part = HasNoChunkedBody bytes
IsStep bytes room (step.Chunk start size) =
    HasChunk bytes (take size (drop start bytes)) (drop (start + size + 2) bytes) × (start + size + 2 ≤ length bytes) × (0 < size) × (size ≤ room)
IsStep bytes room (step.Last n) = HasEnd bytes (drop n bytes) × (n ≤ length bytes)
IsStep bytes room (step.Refused answer.BadBody) = NeverHasChunkedBody bytes ⊎ HasManyTrailers bytes
IsStep bytes room (step.Refused answer.TooLong) = HasLargeChunk bytes room
IsStep bytes room (step.Refused a) = ⊥

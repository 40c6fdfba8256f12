-- What a request comes to whose parts were found.
use Rattle.std.proofs.Common.{◌≡◌, ◌≢◌, ◌∙◌, ◌∷◌, ◌⊎◌, ◌+◌, ◌≤◌, List, [], ℕ, ap, codes, drop, inl, inr, length, refl, string_bytes, subst, sym, take}
use Rattle.std.specs.Str.Parse.{digits_value}
use Rattle.httparse.specs.Grammar.{RequestHead}
use Rattle.httparse.specs.Spans.{IsRequestAt, span_bytes}
use Rattle.httparse.specs.declared.spans.HeaderSpan.{HeaderSpan}
use Rattle.httparse.specs.declared.spans.RequestSpans.{RequestSpans}
use Rattle.bidi_requests.specs.Bodies.{AreDigits, HasChunkedBody, IsChunkedAs, most_body, most_framed}
use Rattle.bidi_requests.specs.Requests.{AcceptsKey, AsksUpgrade, BeginsWith, HasBody, HasVersion, IsAskedBy, IsCall, IsChunked, IsFramedBy, IsFromHere, IsGet, IsMethod, IsOfKind, IsPlain, IsRefusedBody, IsRefusedBy, IsSized, IsSizedBy, LacksUpgrade, Request, behind_head, codings, lengths, longest_head, request_of, spanned_request}
use Rattle.bidi_requests.specs.Targets.{resource_of}
use Rattle.bidi_requests.specs.declared.answering.Answer.{Answer}
use Rattle.bidi_requests.specs.declared.answering.Answer.TheVariants as answer
use Rattle.bidi_requests.specs.declared.asking.Asked.TheVariants as asked
use Rattle.bidi_requests.specs.declared.calling.Call.{Call}
use Rattle.bidi_requests.specs.declared.calling.Framing.{Framing}
use Rattle.bidi_requests.specs.declared.calling.Framing.TheVariants as framing
use Rattle.bidi_requests.specs.declared.chunks.Chunked.TheVariants as chunked
use Rattle.bidi_requests.specs.declared.asking.Kind.{Kind}
use Rattle.bidi_requests.specs.declared.asking.Kind.TheVariants as kind

-- where all but the key is in order, the key decides
pub key-decides : (r : Request) (k : Kind) → IsFromHere r → IsGet r → r.minor ≡ 1 → AsksUpgrade r.fields → HasVersion r → AcceptsKey r.fields k → IsOfKind r k
key-decides r (kind.Socket accept) here get minor upgrade version accepts =
    record { from_here = here; get = get; minor = minor; upgrade = upgrade; version = version; key = (accepts.0, (accepts.1, accepts.2), accepts.3) }
key-decides r kind.Call here get minor upgrade version accepts = absurd accepts
key-decides r (kind.Other answer.BadKey) here get minor upgrade version accepts = (here, get, minor, upgrade, version, accepts)
key-decides r (kind.Other answer.Ready) here get minor upgrade version accepts = absurd accepts
key-decides r (kind.Other answer.NotHttp) here get minor upgrade version accepts = absurd accepts
key-decides r (kind.Other answer.TooManyFields) here get minor upgrade version accepts = absurd accepts
key-decides r (kind.Other answer.BadBody) here get minor upgrade version accepts = absurd accepts
key-decides r (kind.Other answer.NoLength) here get minor upgrade version accepts = absurd accepts
key-decides r (kind.Other answer.TooLong) here get minor upgrade version accepts = absurd accepts
key-decides r (kind.Other answer.Foreign) here get minor upgrade version accepts = absurd accepts
key-decides r (kind.Other answer.NoUpgrade) here get minor upgrade version accepts = absurd accepts
key-decides r (kind.Other (answer.Refused x)) here get minor upgrade version accepts = absurd accepts

-- what a request asks for that lacks the upgrade
pub plain-refused : (r : Request) (k : Kind) → IsFromHere r → IsGet r → LacksUpgrade r → IsPlain (resource_of r.target) k → IsOfKind r k
plain-refused r kind.Call here get lacks plain = (here, inr (get, lacks, plain.0, plain.1))
plain-refused r (kind.Socket accept) here get lacks plain = absurd plain
plain-refused r (kind.Other answer.Ready) here get lacks plain = (here, get, lacks, plain)
plain-refused r (kind.Other answer.NoUpgrade) here get lacks plain = (here, get, inl (lacks, plain.0, plain.1))
plain-refused r (kind.Other answer.NotHttp) here get lacks plain = absurd plain
plain-refused r (kind.Other answer.TooManyFields) here get lacks plain = absurd plain
plain-refused r (kind.Other answer.BadBody) here get lacks plain = absurd plain
plain-refused r (kind.Other answer.NoLength) here get lacks plain = absurd plain
plain-refused r (kind.Other answer.TooLong) here get lacks plain = absurd plain
plain-refused r (kind.Other answer.BadKey) here get lacks plain = absurd plain
plain-refused r (kind.Other answer.Foreign) here get lacks plain = absurd plain
plain-refused r (kind.Other (answer.Refused x)) here get lacks plain = absurd plain

-- a head that is refused is asked by that answer
pub refused-asked : (bytes : List ℕ) (h : RequestHead) (a : Answer) → BeginsWith bytes h → IsRefusedBy (request_of h) a → IsAskedBy bytes (asked.Other a)
refused-asked bytes h answer.BadKey begins refused = (h, begins, inl refused)
refused-asked bytes h answer.Ready begins refused = (h, begins, inl refused)
refused-asked bytes h answer.NotHttp begins refused = absurd refused
refused-asked bytes h answer.TooManyFields begins refused = absurd refused
refused-asked bytes h answer.BadBody begins refused = absurd refused
refused-asked bytes h answer.NoLength begins refused = absurd refused
refused-asked bytes h answer.TooLong begins refused = absurd refused
refused-asked bytes h answer.Foreign begins refused = (h, begins, inl refused)
refused-asked bytes h answer.NoUpgrade begins refused = (h, begins, inl refused)
refused-asked bytes h (answer.Refused x) begins refused = absurd refused

-- a call whose body is refused is asked by that answer
pub body-asked : (bytes : List ℕ) (h : RequestHead) (a : Answer) → BeginsWith bytes h → IsCall (request_of h) → IsRefusedBody bytes h a → IsAskedBy bytes (asked.Other a)
body-asked bytes h answer.NotHttp begins call (inl x) = absurd x
body-asked bytes h answer.NotHttp begins call (inr x) = absurd x.1
body-asked bytes h answer.TooManyFields begins call (inl x) = absurd x
body-asked bytes h answer.TooManyFields begins call (inr x) = absurd x.1
body-asked bytes h answer.BadKey begins call refused = (h, begins, inr (call, refused))
body-asked bytes h answer.Ready begins call refused = (h, begins, inr (call, refused))
body-asked bytes h answer.BadBody begins call refused = (h, begins, inr (call, refused))
body-asked bytes h answer.NoLength begins call refused = (h, begins, inr (call, refused))
body-asked bytes h answer.TooLong begins call refused = (h, begins, inr (call, refused))
body-asked bytes h answer.Foreign begins call refused = (h, begins, inr (call, refused))
body-asked bytes h answer.NoUpgrade begins call refused = (h, begins, inr (call, refused))
body-asked bytes h (answer.Refused x) begins call refused = (h, begins, inr (call, refused))

module _ (bytes : List ℕ) (spans : List HeaderSpan) (r : RequestSpans) (h : RequestHead) (at : IsRequestAt bytes spans r h) where
  -- the spans cover the parts of the head
  pub spanned-head : spanned_request bytes spans r ≡ request_of h
  spanned-head = λ i. record { method = at.method i; target = at.path i; minor = at.version i; fields = at.fields i }

  -- the bytes begin with the head
  pub begins : r.len ≤ longest_head → BeginsWith bytes h
  begins short = ((drop r.len bytes, at.reads), subst (λ n. n ≤ longest_head) at.len short)

  -- the bytes behind the spans are those behind the head
  behind-same : (t : List ℕ) → t ≡ drop r.len bytes → t ≡ behind_head bytes h
  behind-same t there = there ∙ ap (λ n. drop n bytes) at.len

  -- a call with a part of a body in chunks
  pub part-asked : r.len ≤ longest_head → IsCall (spanned_request bytes spans r) → (t : List ℕ) → t ≡ drop r.len bytes → IsChunked (spanned_request bytes spans r)
      → IsChunkedAs t chunked.Part → IsAskedBy bytes (asked.Body 1)
  part-asked short call t there framed part = (
    h,
    (begins short, subst IsCall spanned-head call),
    inr (subst IsChunked spanned-head framed, refl, subst (λ x. IsChunkedAs x chunked.Part) (behind-same t there) part),
  )

  -- a call whose head gives a length that is not taken
  pub framing-asked : r.len ≤ longest_head → IsCall (spanned_request bytes spans r) → (a : Answer) → IsFramedBy (spanned_request bytes spans r) (framing.Refused a) → IsAskedBy bytes (asked.Other a)
  framing-asked short call a framed =
      body-asked bytes h a (begins short) (subst IsCall spanned-head call) (inl (subst (λ q. IsFramedBy q (framing.Refused a)) spanned-head framed))

  -- a call whose chunks are not taken
  pub chunks-asked : r.len ≤ longest_head → IsCall (spanned_request bytes spans r) → (t : List ℕ) → t ≡ drop r.len bytes → IsChunked (spanned_request bytes spans r) → (a : Answer)
      → IsChunkedAs t (chunked.Refused a) → IsAskedBy bytes (asked.Other a)
  chunks-asked short call t there framed a refused =
      body-asked bytes h a (begins short) (subst IsCall spanned-head call)
      (inr (subst IsChunked spanned-head framed, subst (λ x. IsChunkedAs x (chunked.Refused a)) (behind-same t there) refused))

  -- a body of a known length
  pub sized-has : (t content : List ℕ) (n : ℕ) → t ≡ drop r.len bytes → IsSized (spanned_request bytes spans r) n → n ≤ length t → content ≡ take n t → HasBody bytes h content n
  sized-has t content n there framed fits is =
      inl (subst (λ q. IsSized q n) spanned-head framed, subst (λ x. n ≤ length x) (behind-same t there) fits, is ∙ ap (take n) (behind-same t there))

  -- a body in chunks
  pub chunked-has : (t content : List ℕ) (n : ℕ) → t ≡ drop r.len bytes → IsChunked (spanned_request bytes spans r) → n ≤ length t → n ≤ most_framed → HasChunkedBody t content (drop n t) → HasBody bytes h content n
  chunked-has t content n there framed fits few has =
      inr (subst IsChunked spanned-head framed, subst (λ x. n ≤ length x) (behind-same t there) fits, few, subst (λ x. HasChunkedBody x content (drop n x)) (behind-same t there) has)

  -- a call with its body
  pub called-asked : r.len ≤ longest_head → IsCall (spanned_request bytes spans r) → (call : Call) (content : List ℕ) (count : ℕ) → IsMethod (span_bytes bytes r.method) call.method
      → string_bytes call.resource ≡ resource_of (span_bytes bytes r.path) → call.body.items ≡ content → length content ≤ most_body → HasBody bytes h content count
      → IsAskedBy bytes (asked.Call call (r.len + count))
  called-asked short is call content count method resource same few has = (
    h,
    (begins short, subst IsCall spanned-head is),
    (
      content,
      count,
      record { method = subst (λ m. IsMethod m call.method) at.method method; resource = resource ∙ ap resource_of at.path; body = same; short = few },
      has,
      ap (λ n. n + count) at.len,
    ),
  )

-- a length that is written so frames the body
pub sized-framed : (r : Request) (v : List ℕ) (f : Framing) → codings r ≡ [] → lengths r ≡ v ∷ [] → IsSizedBy v f → IsFramedBy r f
sized-framed r v (framing.Sized n) none one s = ((none, inr (v, one, s.0, s.1)), s.2)
sized-framed r v (framing.Refused answer.TooLong) none one s = (digits_value 10 v, (none, inr (v, one, s.0, refl)), s.1)
sized-framed r v (framing.Refused answer.BadBody) none one s = (λ n sized. other n sized.1, λ chunked. cc (sym one ∙ chunked.1), λ lacks. cc (sym one ∙ lacks.1))
  where
    other : (n : ℕ) → ((lengths r ≡ []) × (r.method ≢ codes "POST") × (n ≡ 0)) ⊎ ((text : List ℕ) × (lengths r ≡ text ∷ []) × AreDigits text × (n ≡ digits_value 10 text)) → ⊥
    other n (inl x) = cc (sym one ∙ x.0)
    other n (inr x) = let same : x.0 ≡ v = cc (sym x.1 ∙ one) in s (subst AreDigits same x.2)
sized-framed r v framing.Chunked none one s = absurd s
sized-framed r v (framing.Refused answer.Ready) none one s = absurd s
sized-framed r v (framing.Refused answer.NotHttp) none one s = absurd s
sized-framed r v (framing.Refused answer.TooManyFields) none one s = absurd s
sized-framed r v (framing.Refused answer.NoLength) none one s = absurd s
sized-framed r v (framing.Refused answer.BadKey) none one s = absurd s
sized-framed r v (framing.Refused answer.Foreign) none one s = absurd s
sized-framed r v (framing.Refused answer.NoUpgrade) none one s = absurd s
sized-framed r v (framing.Refused (answer.Refused x)) none one s = absurd s

-- Bodies in chunks: what their parts say of the whole.
use Rattle.std.proofs.Common.{◌≡◌, ◌≢◌, ◌∙◌, ◌++◌, ◌∷◌, ◌⊎◌, ◌+◌, ◌-◌, ◌<◌, ◌≤◌, ℕ, List, [], ap, append-nil, append_assoc, arith, drop, drop-drop, flat_map, inl, inr, length, length-append, length-take-le, refl, subst, sym, take, take-append-drop}
use Rattle.httparse.specs.declared.Error.{Error}
use Rattle.httparse.specs.declared.Error.TheVariants.{HeaderName, HeaderValue, NewLine, Status, Token, TooManyHeaders, Version}
use Rattle.httparse.specs.Grammar.{ChunkLine, HasNoChunkLine, HasNoSection, NeverHasChunkLine, NeverHasSection, ReadsChunkLine, ReadsSection, chunk_size, crlf, print_chunk_line, print_end}
use Rattle.httparse.specs.Spans.{IsChunkLineAt, SectionExceeds}
use Rattle.httparse.proofs.ChunkLemmas.{ReadsChunkLine-append, chunk_line_unique}
use Rattle.httparse.proofs.GrammarLemmas.{ReadsSection-append}
use Rattle.std.proofs.lemmas.List.{drop-append-le, drop_at, length-drop, length-take, take-append-le, take_all, take_at}
use Rattle.bidi_requests.specs.Bodies.{HasChunk, HasChunkedBody, HasChunks, HasEnd, HasLargeChunk, HasLastChunk, HasManyTrailers, HasNoChunkedBody, IsChunkedAs, IsReadAs, IsStep, NeverHasChunkedBody, ReadsLine, deciding, most_body, most_framed, most_trailers}
use Rattle.bidi_requests.specs.Extensions.{AreExtensions, behind_size}
use Rattle.bidi_requests.specs.declared.answering.Answer.{Answer}
use Rattle.bidi_requests.specs.declared.answering.Answer.TheVariants as answer
use Rattle.bidi_requests.specs.declared.chunks.Chunked.TheVariants as chunked
use Rattle.bidi_requests.specs.declared.chunks.Step.TheVariants as step

-- the bytes of a body in chunks begin with the line of a chunk
line-first : (bytes left behind : List ℕ) (cs : List (List ℕ)) → HasChunks bytes cs left → HasEnd left behind → (line : ChunkLine) × (rest : List ℕ) × ReadsLine bytes line rest
line-first bytes left behind [] has ends = (ends.1.0, ends.0, subst (λ b. ReadsLine b ends.1.0 ends.0) (sym has) ends.1.1)
line-first bytes left behind (c ∷ cs) has ends = (has.1.line, c ++ (print_end crlf ++ has.0), has.1.reads)

-- without the line of a chunk there is no body
pub no-line : (bytes : List ℕ) → HasNoChunkLine bytes → HasNoChunkedBody bytes
no-line bytes none body behind b = let first = line-first bytes b.left behind b.chunks b.has b.ends in none first.0 first.1 first.2.0

pub never-line : (bytes : List ℕ) → NeverHasChunkLine bytes → NeverHasChunkedBody bytes
never-line bytes never more = no-line (bytes ++ more) (never more)

module _ (bytes t : List ℕ) (l : ChunkLine) (reads : ReadsChunkLine bytes l t) where
  -- a chunk at the front has the line at the front
  same-chunk : (c rest : List ℕ) → HasChunk bytes c rest → (chunk_size l ≡ length c) × (t ≡ c ++ (print_end crlf ++ rest))
  same-chunk c rest k = let u = chunk_line_unique bytes l k.line t (c ++ (print_end crlf ++ rest)) reads k.reads.0 in (ap chunk_size u.0 ∙ k.size, u.1)

  -- the last chunk has the line at the front
  same-last : (trailers : List ℕ) → HasLastChunk bytes trailers → (chunk_size l ≡ 0) × (t ≡ trailers)
  same-last trailers last = let u = chunk_line_unique bytes l last.0 t trailers reads last.1.0 in (ap chunk_size u.0 ∙ last.2, u.1)

  -- the data of the first chunk is not all there
  short-data : 0 < chunk_size l → length t < chunk_size l + 2 → (left behind : List ℕ) (cs : List (List ℕ)) → HasChunks bytes cs left → HasEnd left behind → ⊥
  short-data some short left behind [] has ends =
      let s = same-last ends.0 (subst (λ b. HasLastChunk b ends.0) (sym has) ends.1) in omega (arith, s.0, some)
  short-data some short left behind (c ∷ cs) has ends =
      let s = same-chunk c has.0 has.1 in omega (arith, s.0, short, ap length s.1, length-append c (print_end crlf ++ has.0))

  -- the data of the first chunk is not followed by a line end
  bad-data : 0 < chunk_size l → take 2 (drop (chunk_size l) t) ≢ print_end crlf → (left behind : List ℕ) (cs : List (List ℕ)) → HasChunks bytes cs left → HasEnd left behind → ⊥
  bad-data some other left behind [] has ends =
      let s = same-last ends.0 (subst (λ b. HasLastChunk b ends.0) (sym has) ends.1) in omega (arith, s.0, some)
  bad-data some other left behind (c ∷ cs) has ends =
      let s = same-chunk c has.0 has.1 in
      let rest : drop (chunk_size l) t ≡ print_end crlf ++ has.0 = ap (drop (chunk_size l)) s.1 ∙ drop_at c (print_end crlf ++ has.0) (chunk_size l) (sym s.0) in
      other (ap (take 2) rest)

  -- the last chunk is not followed by a trailer section
  no-section : chunk_size l ≡ 0 → HasNoSection t → (left behind : List ℕ) (cs : List (List ℕ)) → HasChunks bytes cs left → HasEnd left behind → ⊥
  no-section zero none left behind [] has ends =
      let s = same-last ends.0 (subst (λ b. HasLastChunk b ends.0) (sym has) ends.1) in
      none ends.2.0 ends.2.1 behind (subst (λ x. ReadsSection x ends.2.0 ends.2.1 behind) (sym s.1) ends.2.2)
  no-section zero none left behind (c ∷ cs) has ends =
      let s = same-chunk c has.0 has.1 in omega (arith, s.0, zero, has.1.some)

module _ (bytes : List ℕ) (start size : ℕ) (l : ChunkLine) (at : IsChunkLineAt bytes start size l) where
  -- more of the first chunk has to come
  pub data-part : 0 < size → length (drop start bytes) < size + 2 → HasNoChunkedBody bytes
  data-part some short body behind b =
      short-data bytes (drop start bytes) l at.reads (subst (λ n. 0 < n) at.size_is some) (subst (λ n. length (drop start bytes) < n + 2) at.size_is short) b.left behind b.chunks b.has b.ends

  -- the first chunk is none, whatever comes
  pub data-bad : 0 < size → size + 2 ≤ length (drop start bytes) → take 2 (drop size (drop start bytes)) ≢ print_end crlf → NeverHasChunkedBody bytes
  data-bad some long other more body behind b =
      let t = drop start bytes in
      let same : take 2 (drop size (t ++ more)) ≡ take 2 (drop size t) =
      ap (take 2) (drop-append-le size t more (omega (arith, long))) ∙ take-append-le 2 (drop size t) more (omega (arith, long, length-drop size t)) in
      bad-data (bytes ++ more) (t ++ more) l (ReadsChunkLine-append bytes l t more at.reads) (subst (λ n. 0 < n) at.size_is some)
      (subst (λ n. take 2 (drop n (t ++ more)) ≢ print_end crlf) at.size_is (λ e. other (sym same ∙ e))) b.left behind b.chunks b.has b.ends

  -- no extensions follow the size of the first chunk
  pub no-extensions : ¬ (AreExtensions (behind_size l)) → NeverHasChunkedBody bytes
  no-extensions none more body behind b =
      let first = line-first (bytes ++ more) b.left behind b.chunks b.has b.ends in
      let u = chunk_line_unique (bytes ++ more) l first.0 (drop start bytes ++ more) first.1 (ReadsChunkLine-append bytes l (drop start bytes) more at.reads) first.2.0 in
      none (subst (λ k. AreExtensions (behind_size k)) (sym u.0) first.2.1)

  -- the first chunk is whole
  pub data-whole : AreExtensions (behind_size l) → 0 < size → size + 2 ≤ length (drop start bytes) → take 2 (drop size (drop start bytes)) ≡ print_end crlf
      → HasChunk bytes (take size (drop start bytes)) (drop (start + size + 2) bytes)
  data-whole ext some long ends =
      let t = drop start bytes in
      let behind : drop 2 (drop size t) ≡ drop (start + size + 2) bytes = drop-drop 2 size t ∙ drop-drop (size + 2) start bytes ∙ ap (λ n. drop n bytes) (omega arith) in
      let split : t ≡ take size t ++ (print_end crlf ++ drop (start + size + 2) bytes) =
      sym (take-append-drop size t)
      ∙ ap (λ x. take size t ++ x) (sym (take-append-drop 2 (drop size t)) ∙ ap (λ x. x ++ drop 2 (drop size t)) ends ∙ ap (λ x. print_end crlf ++ x) behind) in
      let count : length (take size t) ≡ size = omega (arith, length-append (take size t) (print_end crlf ++ drop (start + size + 2) bytes), ap length split, length-take-le size t (omega (arith, long))) in
      record { line = l; reads = (subst (λ x. ReadsChunkLine bytes l x) split at.reads, ext); size = sym at.size_is ∙ sym count; some = subst (λ n. 0 < n) (sym count) some }

module _ (bytes : List ℕ) (start : ℕ) (l : ChunkLine) (at : IsChunkLineAt bytes start 0 l) where
  -- more of the trailer section has to come
  pub end-part : HasNoSection (drop start bytes) → HasNoChunkedBody bytes
  end-part none body behind b = no-section bytes (drop start bytes) l at.reads (sym at.size_is) none b.left behind b.chunks b.has b.ends

  -- no trailer section comes
  pub end-never : NeverHasSection (drop start bytes) → NeverHasChunkedBody bytes
  end-never never more body behind b =
      no-section (bytes ++ more) (drop start bytes ++ more) l (ReadsChunkLine-append bytes l (drop start bytes) more at.reads) (sym at.size_is) (never more) b.left behind b.chunks b.has b.ends

  -- the last chunk is at the front
  pub last-chunk : AreExtensions (behind_size l) → HasLastChunk bytes (drop start bytes)
  last-chunk ext = (l, (at.reads, ext), sym at.size_is)

-- the line of a chunk is its size, what is behind it, and a line end
pub line-parts : (bytes : List ℕ) (start size : ℕ) (l : ChunkLine) → IsChunkLineAt bytes start size l → (2 ≤ start) × (take (start - 2) bytes ≡ l.digits ++ behind_size l)
unfolding print_chunk_line
line-parts bytes start size l at =
    let line = l.digits ++ behind_size l in
    let printed : print_chunk_line l ≡ line ++ print_end crlf = simp append_assoc in
    let count : start ≡ length line + 2 = at.len_is ∙ ap length printed ∙ length-append line (print_end crlf) in
    let whole : bytes ≡ line ++ (print_end crlf ++ drop start bytes) = at.reads.1 ∙ ap (λ x. x ++ drop start bytes) printed ∙ append_assoc line (print_end crlf) (drop start bytes) in
    let short : start - 2 ≡ length line = omega (arith, count) in
    (omega (arith, count), ap (take (start - 2)) whole ∙ take_at line (print_end crlf ++ drop start bytes) (start - 2) (sym short))

-- ---- several chunks

-- chunks at the front, and nothing whole behind them: the whole is no body
no-behind : (bytes rest : List ℕ) (cs : List (List ℕ)) → HasChunks bytes cs rest → HasNoChunkedBody rest → (left behind : List ℕ) (ds : List (List ℕ)) → HasChunks bytes ds left
    → HasEnd left behind → ⊥
no-behind bytes rest [] has none left behind ds chunks ends =
    none (flat_map (λ c. c) ds) behind (record { chunks = ds; left = left; has = subst (λ b. HasChunks b ds left) has chunks; ends = ends; joins = refl })
no-behind bytes rest (c ∷ cs) has none left behind [] chunks ends =
    let s = same-last bytes (c ++ (print_end crlf ++ has.0)) has.1.line has.1.reads.0 ends.0 (subst (λ b. HasLastChunk b ends.0) (sym chunks) ends.1) in
    omega (arith, s.0, has.1.size, has.1.some)
no-behind bytes rest (c ∷ cs) has none left behind (d ∷ ds) chunks ends =
    let s = same-chunk bytes (c ++ (print_end crlf ++ has.0)) has.1.line has.1.reads.0 d chunks.0 chunks.1 in
    let count : length c ≡ length d = sym has.1.size ∙ s.0 in
    let tails : print_end crlf ++ has.0 ≡ print_end crlf ++ chunks.0 =
    sym (drop_at c (print_end crlf ++ has.0) (length d) count) ∙ ap (drop (length d)) s.1 ∙ drop_at d (print_end crlf ++ chunks.0) (length d) refl in
    let same : has.0 ≡ chunks.0 = ap (drop 2) tails in
    no-behind has.0 rest cs has.2 none left behind ds (subst (λ b. HasChunks b ds left) (sym same) chunks.2) ends

pub no-body-behind : (bytes rest : List ℕ) (cs : List (List ℕ)) → HasChunks bytes cs rest → HasNoChunkedBody rest → HasNoChunkedBody bytes
no-body-behind bytes rest cs has none body behind b = no-behind bytes rest cs has none b.left behind b.chunks b.has b.ends

chunk-more : (bytes c rest more : List ℕ) → HasChunk bytes c rest → HasChunk (bytes ++ more) c (rest ++ more)
chunk-more bytes c rest more k = record {
  line = k.line;
  reads = (
    subst (λ t. ReadsChunkLine (bytes ++ more) k.line t) (append_assoc c (print_end crlf ++ rest) more ∙ ap (λ x. c ++ x) (append_assoc (print_end crlf) rest more))
        (ReadsChunkLine-append bytes k.line (c ++ (print_end crlf ++ rest)) more k.reads.0),
    k.reads.1,
  );
  size = k.size;
  some = k.some;
}

chunks-more : (bytes rest more : List ℕ) (cs : List (List ℕ)) → HasChunks bytes cs rest → HasChunks (bytes ++ more) cs (rest ++ more)
chunks-more bytes rest more [] has = ap (λ b. b ++ more) has
chunks-more bytes rest more (c ∷ cs) has = (has.0 ++ more, chunk-more bytes c has.0 more has.1, chunks-more has.0 rest more cs has.2)

pub never-body-behind : (bytes rest : List ℕ) (cs : List (List ℕ)) → HasChunks bytes cs rest → NeverHasChunkedBody rest → NeverHasChunkedBody bytes
never-body-behind bytes rest cs has never more = no-body-behind (bytes ++ more) (rest ++ more) cs (chunks-more bytes rest more cs has) (never more)

-- one more chunk
pub chunks-then : (bytes rest next c : List ℕ) (cs : List (List ℕ)) → HasChunks bytes cs rest → HasChunk rest c next → HasChunks bytes (cs ++ (c ∷ [])) next
chunks-then bytes rest next c [] has k = (next, subst (λ b. HasChunk b c next) (sym has) k, refl)
chunks-then bytes rest next c (d ∷ cs) has k = (has.0, has.1, chunks-then has.0 rest next c cs has.2 k)

pub joined-then : (cs : List (List ℕ)) (c : List ℕ) → flat_map (λ x. x) (cs ++ (c ∷ [])) ≡ flat_map (λ x. x) cs ++ c
joined-then [] c = append-nil c
joined-then (d ∷ cs) c = ap (λ x. d ++ x) (joined-then cs c) ∙ sym (append_assoc d (flat_map (λ x. x) cs) c)

-- ---- errors, and the steps of a read

-- the end of a body is refused by the error of its trailer section
pub end-refused : (bytes : List ℕ) (start : ℕ) (l : ChunkLine) (at : IsChunkLineAt bytes start 0 l) → AreExtensions (behind_size l) → (e : Error) → (e ≢ TooManyHeaders → NeverHasSection (drop start bytes))
    → (e ≡ TooManyHeaders → SectionExceeds most_trailers (drop start bytes)) → NeverHasChunkedBody bytes ⊎ HasManyTrailers bytes
end-refused bytes start l at ext TooManyHeaders never many = inr (drop start bytes, last-chunk bytes start l at ext, many refl)
end-refused bytes start l at ext HeaderName never many = inl (end-never bytes start l at (never (λ same. cc same)))
end-refused bytes start l at ext HeaderValue never many = inl (end-never bytes start l at (never (λ same. cc same)))
end-refused bytes start l at ext NewLine never many = inl (end-never bytes start l at (never (λ same. cc same)))
end-refused bytes start l at ext Status never many = inl (end-never bytes start l at (never (λ same. cc same)))
end-refused bytes start l at ext Token never many = inl (end-never bytes start l at (never (λ same. cc same)))
end-refused bytes start l at ext Version never many = inl (end-never bytes start l at (never (λ same. cc same)))

module _ (bytes : List ℕ) (cs : List (List ℕ)) (at : ℕ) (has : HasChunks bytes cs (drop at bytes)) (body : List ℕ) (joins : body ≡ flat_map (λ c. c) cs) (t : List ℕ) (there : t ≡ drop at bytes) where
  -- what comes next is refused
  pub refused-behind : length body ≤ most_body → (n : ℕ) → n ≡ length body → (a : Answer) → IsStep t (65536 - n) (step.Refused a) → IsReadAs bytes (chunked.Refused a)
  refused-behind short n count answer.BadBody (inl never) = inl (never-body-behind bytes (drop at bytes) cs has (subst NeverHasChunkedBody there never))
  refused-behind short n count answer.BadBody (inr many) = inr (cs, drop at bytes, has, subst HasManyTrailers there many)
  refused-behind short n count answer.TooLong large =
      (cs, drop at bytes, has, (65536 - n, omega (arith, short, count, ap length joins), subst (λ x. HasLargeChunk x (65536 - n)) there large))
  refused-behind short n count answer.Ready x = absurd x
  refused-behind short n count answer.NotHttp x = absurd x
  refused-behind short n count answer.TooManyFields x = absurd x
  refused-behind short n count answer.NoLength x = absurd x
  refused-behind short n count answer.BadKey x = absurd x
  refused-behind short n count answer.Foreign x = absurd x
  refused-behind short n count answer.NoUpgrade x = absurd x
  refused-behind short n count (answer.Refused r) x = absurd x

  -- one chunk more
  pub one-more : (start size : ℕ) (data1 part new : List ℕ) → HasChunk t (take size (drop start t)) (drop (start + size + 2) t) → data1 ≡ drop start t → part ≡ take size data1
      → new ≡ body ++ part → (xs : List (List ℕ)) × HasChunks bytes xs (drop (at + (start + size + 2)) bytes) × (new ≡ flat_map (λ c. c) xs)
  one-more start size data1 part new k from takes grows =
      let c = take size (drop start t) in
      let same : part ≡ c = takes ∙ ap (take size) from in
      let next : drop (start + size + 2) t ≡ drop (at + (start + size + 2)) bytes = ap (drop (start + size + 2)) there ∙ drop-drop (start + size + 2) at bytes in
      let chunk : HasChunk (drop at bytes) c (drop (at + (start + size + 2)) bytes) = subst (λ b. HasChunk b c (drop (at + (start + size + 2)) bytes)) there (subst (λ n. HasChunk t c n) next k) in
      (cs ++ (c ∷ []), chunks-then bytes (drop at bytes) (drop (at + (start + size + 2)) bytes) c cs has chunk, grows ∙ ap (λ x. body ++ x) same ∙ ap (λ x. x ++ c) joins ∙ sym (joined-then cs c))

-- ---- the bytes that decide

end-more : (bytes behind more : List ℕ) → HasEnd bytes behind → HasEnd (bytes ++ more) (behind ++ more)
end-more bytes behind more ends =
    let last = ends.1 in
    let section = ends.2 in (
      ends.0 ++ more,
      (last.0, (ReadsChunkLine-append bytes last.0 ends.0 more last.1.0, last.1.1), last.2),
      (section.0, section.1, ReadsSection-append ends.0 section.0 section.1 behind more section.2),
    )

body-more : (bytes body behind more : List ℕ) → HasChunkedBody bytes body behind → HasChunkedBody (bytes ++ more) body (behind ++ more)
body-more bytes body behind more b = record {
  chunks = b.chunks;
  left = b.left ++ more;
  has = chunks-more bytes b.left more b.chunks b.has;
  ends = end-more b.left behind more b.ends;
  joins = b.joins;
}

-- a body in the first bytes is one of all
pub body-front : (bytes body : List ℕ) (most n : ℕ) → n ≤ length (take most bytes) → HasChunkedBody (take most bytes) body (drop n (take most bytes)) → HasChunkedBody bytes body (drop n bytes)
body-front bytes body most n inside b =
    let whole : take most bytes ++ drop most bytes ≡ bytes = take-append-drop most bytes in
    let behind : drop n (take most bytes) ++ drop most bytes ≡ drop n bytes = sym (drop-append-le n (take most bytes) (drop most bytes) inside) ∙ ap (drop n) whole in
    subst (λ x. HasChunkedBody x body (drop n bytes)) whole
    (subst (λ x. HasChunkedBody (take most bytes ++ drop most bytes) body x) behind (body-more (take most bytes) body (drop n (take most bytes)) (drop most bytes) b))

module _ (bytes framed : List ℕ) (first : framed ≡ deciding bytes) where
  -- the beginning of a body, if more may come
  pub part-first : length bytes < most_framed → HasNoChunkedBody framed → IsChunkedAs bytes chunked.Part
  part-first short none = (subst HasNoChunkedBody (first ∙ take_all most_framed bytes (omega (arith, short))) none, short)

  -- no body ends within the most bytes
  pub long-first : most_framed ≤ length bytes → HasNoChunkedBody framed → IsChunkedAs bytes (chunked.Refused answer.TooLong)
  long-first long none = inr (long, subst HasNoChunkedBody first none)

  -- a whole body
  pub whole-first : (body : List ℕ) (n : ℕ) → HasChunkedBody framed body (drop n framed) → n ≤ length framed → HasChunkedBody bytes body (drop n bytes) × (n ≤ length bytes) × (n ≤ most_framed)
  whole-first body n has inside =
      let fits : n ≤ length (take most_framed bytes) = subst (λ x. n ≤ length x) first inside in (
        body-front bytes body most_framed n fits (subst (λ x. HasChunkedBody x body (drop n x)) first has),
        omega (arith, fits, length-take most_framed bytes),
        omega (arith, fits, length-take most_framed bytes),
      )

  -- a body that its first bytes refuse
  pub refused-first : (a : Answer) → IsReadAs framed (chunked.Refused a) → IsChunkedAs bytes (chunked.Refused a)
  refused-first answer.BadBody refused = subst (λ x. IsReadAs x (chunked.Refused answer.BadBody)) first refused
  refused-first answer.TooLong refused = inl (subst (λ x. IsReadAs x (chunked.Refused answer.TooLong)) first refused)
  refused-first a refused = absurd refused

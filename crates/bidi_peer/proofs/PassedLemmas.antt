-- Frames that a connection takes one after another, and the uses of its stream.
use Rattle.std.proofs.Common.{◌≡◌, ◌∙◌, ◌++◌, ◌∷◌, ◌+◌, ◌≤◌, ℕ, List, [], Option, Ok, ap, append-nil, append_assoc, arith, drop, length, refl, subst, sym}
use Rattle.std.specs.Io.KnownBytes.{Appends, Consumes}
use Rattle.std.proofs.lemmas.List.{drop-append-le, length_push}
use Rattle.websocket.specs.Connection.{Connection, Effect, read_step}
use Rattle.websocket.specs.Content.{Content}
use Rattle.websocket.specs.declared.protocol.frame.codec.FrameStatus.TheVariants.{Complete, Partial}
use Rattle.websocket.proofs.StreamLemmas.{TookFrame_from_read, read_step-append}
use Rattle.bidi_peer.specs.Hearing.{Receives}
use Rattle.bidi_peer.specs.Messages.{HasNoFrame, Leads, Passed, Passes, Use, gave, given, replies, reply_bytes, taken, took}
use Rattle.bidi_peer.specs.Waiting.{Writes, untaken, unwritten}
use Rattle.bidi_peer.specs.declared.standing.Peer.{Peer}

-- one more frame
pub passes-then : (kind : Option Content → Type 0) (c : Connection) (bytes : List ℕ) (effects : List Effect) (d : Connection) (left : List ℕ) (n : ℕ) (e : Effect) → Passes kind c bytes effects d left
    → read_step d left ≡ Ok (Complete (n, e)) → kind e.message → Passes kind c bytes (effects ++ (e ∷ [])) e.next (drop n left)
passes-then kind c bytes [] d left n e p reads silent =
    (n, (λ i. read_step (sym p.0 i) (sym p.1 i)) ∙ reads, silent, (refl, ap (drop n) p.1))
passes-then kind c bytes (x ∷ effects) d left n e p reads silent =
    (p.0, p.1, p.2, passes-then kind x.next (drop p.0 bytes) effects d left n e p.3 reads silent)

-- more bytes behind a whole frame change nothing of it
read-more : (c : Connection) (bytes more : List ℕ) (n : ℕ) (e : Effect) → read_step c bytes ≡ Ok (Complete (n, e)) → read_step c (bytes ++ more) ≡ Ok (Complete (n, e))
read-more c bytes more n e reads = read_step-append c bytes more (λ k. cc (reads, k.1)) ∙ reads

rest-more : (c : Connection) (bytes more : List ℕ) (n : ℕ) (e : Effect) → read_step c bytes ≡ Ok (Complete (n, e)) → drop n (bytes ++ more) ≡ drop n bytes ++ more
rest-more c bytes more n e reads = drop-append-le n bytes more (TookFrame_from_read c bytes (n, e) reads).inside

-- more bytes came behind the frames
pub passes-more : (kind : Option Content → Type 0) (c : Connection) (bytes : List ℕ) (effects : List Effect) (d : Connection) (left more : List ℕ) → Passes kind c bytes effects d left
    → Passes kind c (bytes ++ more) effects d (left ++ more)
passes-more kind c bytes [] d left more p = (p.0, ap (λ x. x ++ more) p.1)
passes-more kind c bytes (x ∷ effects) d left more p = (
  p.0,
  read-more c bytes more p.0 x p.1,
  p.2,
  subst (λ b. Passes kind x.next b effects d (left ++ more)) (sym (rest-more c bytes more p.0 x p.1))
      (passes-more kind x.next (drop p.0 bytes) effects d left more p.3),
)

-- one more reply
replies-then : (effects : List Effect) (e : Effect) → replies (effects ++ (e ∷ [])) ≡ replies effects ++ reply_bytes e.reply
replies-then [] e = append-nil (reply_bytes e.reply)
replies-then (x ∷ effects) e = ap (λ r. reply_bytes x.reply ++ r) (replies-then effects e) ∙ sym (append_assoc (reply_bytes x.reply) (replies effects) (reply_bytes e.reply))

-- the same bytes hold no whole frame
pub no-frame : (c d : Connection) (bytes left : List ℕ) (k : ℕ) → d ≡ c → left ≡ bytes → read_step c bytes ≡ Ok (Partial k) → HasNoFrame d left
no-frame c d bytes left k context same reads = (k, (λ i. read_step (context i) (same i)) ∙ reads)

module _ {S : Type 0} where
  given-gave : (uses : List (Use S)) (bytes : List ℕ) (s : S) → given (uses ++ (gave bytes s ∷ [])) ≡ given uses ++ bytes
  given-gave [] bytes s = append-nil bytes
  given-gave ((gave b t) ∷ uses) bytes s = ap (λ x. b ++ x) (given-gave uses bytes s) ∙ sym (append_assoc b (given uses) bytes)
  given-gave ((took b t) ∷ uses) bytes s = given-gave uses bytes s

  given-took : (uses : List (Use S)) (bytes : List ℕ) (s : S) → given (uses ++ (took bytes s ∷ [])) ≡ given uses
  given-took [] bytes s = refl
  given-took ((gave b t) ∷ uses) bytes s = ap (λ x. b ++ x) (given-took uses bytes s)
  given-took ((took b t) ∷ uses) bytes s = given-took uses bytes s

  taken-gave : (uses : List (Use S)) (bytes : List ℕ) (s : S) → taken (uses ++ (gave bytes s ∷ [])) ≡ taken uses
  taken-gave [] bytes s = refl
  taken-gave ((gave b t) ∷ uses) bytes s = taken-gave uses bytes s
  taken-gave ((took b t) ∷ uses) bytes s = ap (λ x. b ++ x) (taken-gave uses bytes s)

  taken-took : (uses : List (Use S)) (bytes : List ℕ) (s : S) → taken (uses ++ (took bytes s ∷ [])) ≡ taken uses ++ bytes
  taken-took [] bytes s = append-nil bytes
  taken-took ((gave b t) ∷ uses) bytes s = taken-took uses bytes s
  taken-took ((took b t) ∷ uses) bytes s = ap (λ x. b ++ x) (taken-took uses bytes s) ∙ sym (append_assoc b (taken uses) bytes)

module _ {S : Type 0} (remaining contents : S → Option (List ℕ)) where
  -- one more use
  pub leads-gave : (s : S) (uses : List (Use S)) (t u : S) (bytes : List ℕ) → Leads remaining contents s uses t → Consumes (remaining t) (remaining u) bytes
      → Leads remaining contents s (uses ++ (gave bytes u ∷ [])) u
  leads-gave s [] t u bytes l now = (subst (λ x. Consumes (remaining x) (remaining u) bytes) l now, refl)
  leads-gave s ((gave b v) ∷ uses) t u bytes l now = (l.0, leads-gave v uses t u bytes l.1 now)
  leads-gave s ((took b v) ∷ uses) t u bytes l now = (l.0, leads-gave v uses t u bytes l.1 now)

  leads-took : (s : S) (uses : List (Use S)) (t u : S) (bytes : List ℕ) → Leads remaining contents s uses t → Appends (contents t) (contents u) bytes
      → Leads remaining contents s (uses ++ (took bytes u ∷ [])) u
  leads-took s [] t u bytes l now = (subst (λ x. Appends (contents x) (contents u) bytes) l now, refl)
  leads-took s ((gave b v) ∷ uses) t u bytes l now = (l.0, leads-took v uses t u bytes l.1 now)
  leads-took s ((took b v) ∷ uses) t u bytes l now = (l.0, leads-took v uses t u bytes l.1 now)

  module _ (kind : Option Content → Type 0) (a : Peer S) where
    -- frames of this kind were taken, and the stream was used, so often at least
    abbrev pub Counted : ℕ → Connection → List ℕ → List ℕ → S → Type 0
    Counted k c left waits s = (p : Passed kind remaining contents a c left waits s) × (k ≤ length p.effects + length p.uses)

    -- so often at least, up to this connection
    abbrev pub CountedTo : ℕ → Peer S → Type 0
    CountedTo k b = Counted k b.context (untaken b.inbox) (unwritten b.outbox) b.stream

    -- nothing passed yet
    pub passed-none : CountedTo 0 a
    passed-none = (
      record {
        uses = [];
        leads = refl;
        effects = [];
        passes = (refl, sym (append-nil (untaken a.inbox)));
        sends = append-nil (unwritten a.outbox);
      },
      omega arith,
    )

    -- one more frame passed
    pub passed-frame : (k : ℕ) (c : Connection) (left waits : List ℕ) (s : S) (n : ℕ) (e : Effect) → Counted k c left waits s → read_step c left ≡ Ok (Complete (n, e))
        → kind e.message → Counted (k + 1) e.next (drop n left) (waits ++ reply_bytes e.reply) s
    passed-frame k c left waits s n e q reads silent =
        let p = q.0 in (
          record {
            uses = p.uses;
            leads = p.leads;
            effects = p.effects ++ (e ∷ []);
            passes = passes-then kind a.context (untaken a.inbox ++ given p.uses) p.effects c left n e p.passes reads silent;
            sends = ap (λ r. unwritten a.outbox ++ r) (replies-then p.effects e) ∙ sym (append_assoc (unwritten a.outbox) (replies p.effects) (reply_bytes e.reply))
                ∙ ap (λ x. x ++ reply_bytes e.reply) p.sends ∙ append_assoc (taken p.uses) waits (reply_bytes e.reply);
          },
          omega (arith, q.1, length_push p.effects e),
        )

    -- more bytes came
    pub passed-gave : (k : ℕ) (c : Connection) (left waits : List ℕ) (s t : S) (bytes : List ℕ) → Counted k c left waits s → Consumes (remaining s) (remaining t) bytes
        → Counted (k + 1) c (left ++ bytes) waits t
    passed-gave k c left waits s t bytes q now =
        let p = q.0 in (
          record {
            uses = p.uses ++ (gave bytes t ∷ []);
            leads = leads-gave a.stream p.uses s t bytes p.leads now;
            effects = p.effects;
            passes =
                subst (λ b. Passes kind a.context b p.effects c (left ++ bytes))
                (append_assoc (untaken a.inbox) (given p.uses) bytes ∙ ap (λ g. untaken a.inbox ++ g) (sym (given-gave p.uses bytes t)))
                (passes-more kind a.context (untaken a.inbox ++ given p.uses) p.effects c left bytes p.passes);
            sends = p.sends ∙ ap (λ x. x ++ waits) (sym (taken-gave p.uses bytes t));
          },
          omega (arith, q.1, length_push p.uses (gave bytes t)),
        )

    -- some of what waits was written
    pub passed-took : (k : ℕ) (c : Connection) (left waits rest : List ℕ) (s t : S) → Counted k c left waits s → Writes contents waits rest s t → Counted k c left rest t
    passed-took k c left waits rest s t q w =
        let p = q.0 in (
          record {
            uses = p.uses ++ (took w.went t ∷ []);
            leads = leads-took a.stream p.uses s t w.went p.leads w.taken;
            effects = p.effects;
            passes = subst (λ g. Passes kind a.context (untaken a.inbox ++ g) p.effects c left) (sym (given-took p.uses w.went t)) p.passes;
            sends = p.sends ∙ ap (λ x. taken p.uses ++ x) w.parts ∙ sym (append_assoc (taken p.uses) w.went rest) ∙ ap (λ x. x ++ rest) (sym (taken-took p.uses w.went t));
          },
          omega (arith, q.1, length_push p.uses (took w.went t)),
        )

    -- the same by other names
    pub moved : (k : ℕ) (c d : Connection) (left rest waits others : List ℕ) (s t : S) → d ≡ c → rest ≡ left → others ≡ waits → t ≡ s → Counted k c left waits s → Counted k d rest others t
    moved k c d left rest waits others s t context bytes wait stream q =
        let p = q.0 in (
          record {
            uses = p.uses;
            leads = subst (λ x. Leads remaining contents a.stream p.uses x) (sym stream) p.leads;
            effects = p.effects;
            passes = subst (λ x. Passes kind a.context (untaken a.inbox ++ given p.uses) p.effects x rest) (sym context)
                (subst (λ x. Passes kind a.context (untaken a.inbox ++ given p.uses) p.effects c x) (sym bytes) p.passes);
            sends = p.sends ∙ ap (λ x. taken p.uses ++ x) (sym wait);
          },
          q.1,
        )

    -- the stream was read
    pub received-passed : (k : ℕ) (n r : Peer S) → CountedTo k n → Receives remaining n r → CountedTo (k + 1) r
    received-passed k n r p x =
        moved (k + 1) n.context r.context (untaken n.inbox ++ x.reads.came) (untaken r.inbox) (unwritten n.outbox) (unwritten r.outbox) r.stream r.stream x.context x.reads.joins x.outbox refl
        (passed-gave k n.context (untaken n.inbox) (unwritten n.outbox) n.stream r.stream x.reads.came p x.reads.given)

-- The facts of every past of both ends hold after each step.
use Rattle.std.proofs.Common.{◌≡◌, ◌∙◌, ◌≤◌, ◌<◌, ◌^◌, ℕ, suc, Bool, true, false, List, [], ◌∷◌, ◌++◌}
use Rattle.std.proofs.Common.{length, Some, refl, sym, ap, subst, length-append, arith, rules}
use Rattle.std.specs.Prelude.{◌==◌, ◌||◌, slice_get}
use Rattle.std.specs.List.{AllByRecursion}
use Rattle.std.proofs.lemmas.Option.{slice_get_within}
use Rattle.bidi_methods.specs.declared.method.Method.{Method}
use Rattle.bidi_methods.specs.Method.{method_text}
use Rattle.bidi_messages.specs.Reading.{IsMessageText}
use Rattle.bidi_messages.specs.contracts.message.MessageShape.TheImpl.{ghosts}
use Rattle.bidi_messages.specs.Verdict.{Accepted}
use Rattle.bidi_remote.specs.Machine.History.{Input, Open, Heard}
use Rattle.bidi_remote.specs.Machine.Connections.{is_open}
use Rattle.bidi_remote.specs.Machine.Outcome.{deeds}
use Rattle.bidi_remote.specs.Replies.{IsAnsweredOnce}
use Rattle.bidi_remote.specs.Machine.Sent.{out, texts_on}
use Rattle.bidi_remote.specs.Machine.Messages.{AllReadBack}
use Rattle.bidi_sessions.proofs.ListLemmas.{all-append}
use Rattle.bidi_remote.proofs.RouteLemmas.{AreEvents, Answers, answers-heard, IsUnheard, events-unheard, IsApart, stays-shut}
use Rattle.bidi_ledger.specs.Pairing.{Sending, Deed, Handed, Linked, TakenUp, history, is_link, commands, ups, texts}
use Rattle.bidi_ledger.specs.Link.{Link, link, tree_of_sending}
use Rattle.bidi_ledger.specs.Ledger.{is_connected}
use Rattle.bidi_link.specs.Spoken.{IsSound, AreSpoken}
use Rattle.bidi_link.specs.Rows.{blank, with_texts}
use Rattle.bidi_link.specs.Stands.{IsSane, AreFrom}
use Rattle.bidi_link.proofs.PastLemmas.{link-handed, texts-handed, apart, same, up-of, IsOf}
use Rattle.bidi_link.proofs.SpokenLemmas.{spoken-sent, spoken-events, spoken-append, spoken-answers, events-answers, read-on}
use Rattle.bidi_link.proofs.OutcomeLemmas.{from-still, from-sent, from-events, from-up}
use Rattle.bidi_link.proofs.TableLemmas.{with_texts-none}

-- a past in which nothing was done
pub sane-nothing : IsSane []
sane-nothing = record {
  sound = λ l. record { spoken = AreSpoken.nothing 0 0 (omega arith); read_back = tt; taken = omega arith; ids = omega arith };
  unknown = λ l none. (refl, refl);
  replies = λ l p c s among at reply. (let none : among.0 < 0 = among.1 in absurd (omega (arith, none)));
}

-- ---- inputs that are handed to the remote end

-- with events more a link is as sound
sound-events : (past : List Deed) (i : Input) (l : ℕ) → IsSound (link past l) → AllReadBack (out (history past) i)
    → AreEvents (is_connected past l) (texts_on l (out (history past) i)) → IsSound (link (Handed i ∷ past) l)
sound-events past i l s reads events = record {
  spoken = subst (AreSpoken (commands past l) 0 (ups past l)) (sym (texts-handed past i l))
      (spoken-append (commands past l) (ups past l) (texts_on l (out (history past) i)) s.spoken (spoken-events (commands past l) (ups past l) _ events.each));
  read_back =
      subst (AllByRecursion (IsMessageText ghosts.shape)) (sym (texts-handed past i l))
      (all-append (IsMessageText ghosts.shape) (texts past l) _ s.read_back (read-on l (out (history past) i) reads));
  taken = s.taken;
  ids = s.ids;
}

-- a number that is no link gets nothing
pub unknown-events : (past : List Deed) (i : Input) (l : ℕ) → link past l ≡ blank
    → is_connected past l ≡ false → AreEvents (is_connected past l) (texts_on l (out (history past) i)) → link (Handed i ∷ past) l ≡ blank
unknown-events past i l nothing shut events =
    link-handed past i l ∙ (ap (with_texts (link past l)) (events.none shut) ∙ (with_texts-none (link past l) ∙ nothing))

-- an input that is no message
pub sane-unheard : (past : List Deed) (i : Input) → IsSane past → IsUnheard i → AllReadBack (out (history past) i)
    → ((k : ℕ) → is_link past k ≡ false → is_connected past k ≡ false → is_connected (Handed i ∷ past) k ≡ false) → IsSane (Handed i ∷ past)
sane-unheard past i s quiet reads shut = record {
  sound = λ l. sound-events past i l (s.sound l) reads (events-unheard (history past) l i quiet);
  unknown = λ k none.
      let before = s.unknown k none in
      (unknown-events past i k before.0 before.1 (events-unheard (history past) k i quiet), shut k none before.1);
  replies = λ l. from-events past i l (s.replies l) (read-on l (out (history past) i) reads) (events-unheard (history past) l i quiet).each;
}

-- one of no connection
pub sane-beside : (past : List Deed) (i : Input)
    → IsSane past → IsUnheard i → ((k : ℕ) → IsApart (history past) k i) → AllReadBack (out (history past) i) → IsSane (Handed i ∷ past)
sane-beside past i s quiet others reads = sane-unheard past i s quiet reads (λ k none shut. stays-shut (history past) k i (others k) shut)

-- an opening that made no link
pub sane-denied : (past : List Deed) (l : ℕ) (resource : List ℕ) → IsSane past → AllReadBack (out (history past) (Open l resource))
    → is_connected (Handed (Open l resource) ∷ past) l ≡ false → IsSane (Handed (Open l resource) ∷ past)
sane-denied past l resource s reads denied = sane-unheard past (Open l resource) s tt reads (λ k none shut. at k shut (k == l) refl)
  where
    one : (k : ℕ) → (k == l) ≡ true → l ≡ k
    one k e = search (rules, e)

    at : (k : ℕ) → is_connected past k ≡ false → (b : Bool) → (k == l) ≡ b → is_connected (Handed (Open l resource) ∷ past) k ≡ false
    at k shut false e = stays-shut (history past) k (Open l resource) e shut
    at k shut true e = subst (λ n. is_connected (Handed (Open l resource) ∷ past) n ≡ false) (one k e) denied

-- one that made a link
pub sane-linked : (past : List Deed) (l : ℕ) (resource : List ℕ)
    → IsSane past → AllReadBack (out (history past) (Open l resource)) → IsSane (Linked l ∷ Handed (Open l resource) ∷ past)
sane-linked past l resource s reads = record {
  sound =
      λ k. (let b = sound-events past (Open l resource) k (s.sound k) reads (events-unheard (history past) k (Open l resource) tt) in
      record { spoken = b.spoken; read_back = b.read_back; taken = b.taken; ids = b.ids });
  unknown = λ k none. at k (k == l) refl none;
  replies = λ k.
      from-still (Linked l) (Handed (Open l resource) ∷ past) k refl refl
      (from-events past (Open l resource) k (s.replies k) (read-on k (out (history past) (Open l resource)) reads)
      (events-unheard (history past) k (Open l resource) tt).each);
}
  where
    at : (k : ℕ) (b : Bool) → (k == l) ≡ b → (b || is_link past k) ≡ false
        → (link (Linked l ∷ Handed (Open l resource) ∷ past) k ≡ blank) × (is_connected (Linked l ∷ Handed (Open l resource) ∷ past) k ≡ false)
    at k true e none = cc none
    at k false e none =
        let before = s.unknown k none in (
          unknown-events past (Open l resource) k before.0 before.1 (events-unheard (history past) k (Open l resource) tt),
          stays-shut (history past) k (Open l resource) e before.1,
        )

-- a command that is taken up and handed to the remote end
pub sane-up : (past : List Deed) (l : ℕ) (c : Sending) (method : Method)
    → IsSane past → is_link past l ≡ true → slice_get (commands past l) (ups past l) ≡ Some c → c.method ≡ method_text method
    → (let i = Heard l (Accepted (tree_of_sending (suc (ups past l)) c)) in
    IsAnsweredOnce (deeds (history past)) i → AllReadBack (out (history past) i) → IsSane (Handed i ∷ TakenUp l ∷ past))
sane-up past l c method s there at named once reads = record {
  sound = λ k. sound-at k (k == l) refl;
  unknown = λ k none.
      let differ = apart past l k there none in
      let before = s.unknown k none in
      let events = events-other k differ in
      (rw differ (unknown-events past i k before.0 before.1 events), stays-shut (history past) k i differ before.1);
  replies = λ k. replies-at k (k == l) refl;
}
  where
    u : ℕ
    u = ups past l

    i : Input
    i = Heard l (Accepted (tree_of_sending (suc (ups past l)) c))

    said : (k : ℕ) → Answers (deeds (history past)) k l (suc (ups past l)) method (texts_on k (out (history past) i))
    said k = answers-heard (history past) k l (tree_of_sending (suc (ups past l)) c) method named once

    events-other : (k : ℕ) → (k == l) ≡ false → AreEvents (is_connected past k) (texts_on k (out (history past) i))
    events-other k e = events-answers k l (suc (ups past l)) method (deeds (history past)) _ (λ is. absurd (differ is)) (said k)
      where
        differ : k ≡ l → ⊥
        differ is = cc (sym (ap (λ n. n == l) is ∙ same l) ∙ e)

    ups-is : ups (TakenUp l ∷ past) l ≡ suc (ups past l)
    ups-is = rw (same l) refl

    own : IsSound (link (Handed i ∷ TakenUp l ∷ past) l)
    own =
        let before = s.sound l in
        let new = texts_on l (out (history past) i) in
        record {
          spoken = subst (λ ts. AreSpoken (commands past l) 0 (ups (TakenUp l ∷ past) l) ts) (sym (texts-handed (TakenUp l ∷ past) i l))
              (subst (λ n. AreSpoken (commands past l) 0 n (texts past l ++ new)) (sym ups-is)
              (spoken-append (commands past l) (suc (ups past l)) new before.spoken
              (spoken-answers (commands past l) (ups past l) c method l l (deeds (history past)) new at named (said l))));
          read_back =
              subst (AllByRecursion (IsMessageText ghosts.shape)) (sym (texts-handed (TakenUp l ∷ past) i l))
              (all-append (IsMessageText ghosts.shape) (texts past l) _ before.read_back (read-on l (out (history past) i) reads));
          taken =
              subst (λ n. n ≤ length (commands past l)) (sym ups-is)
              (let within = slice_get_within (commands past l) (ups past l) c at in omega (arith, within));
          ids = before.ids;
        }

    one : (k : ℕ) → (k == l) ≡ true → l ≡ k
    one k e = search (rules, e)

    sound-at : (k : ℕ) (b : Bool) → (k == l) ≡ b → IsSound (link (Handed i ∷ TakenUp l ∷ past) k)
    sound-at k true e = subst (λ n. IsSound (link (Handed i ∷ TakenUp l ∷ past) n)) (one k e) own
    sound-at k false e = sound-events (TakenUp l ∷ past) i k (subst IsSound (sym ((up-of l past).others k e)) (s.sound k)) reads (events-other k e)

    replies-at : (k : ℕ) (b : Bool) → (k == l) ≡ b → AreFrom (Handed i ∷ TakenUp l ∷ past) k
    replies-at k true e =
        subst (AreFrom (Handed i ∷ TakenUp l ∷ past)) (one k e)
        (from-up past l c (s.sound l) at (s.replies l) (spoken-answers (commands past l) (ups past l) c method l l (deeds (history past)) _ at named (said l))
        (read-on l (out (history past) i) reads))
    replies-at k false e =
        from-events (TakenUp l ∷ past) i k (from-still (TakenUp l) past k refl refl (s.replies k))
        (read-on k (out (history past) i) reads) (events-other k e).each

-- ---- deeds of one link

-- a deed of one link keeps the facts, if the link is sound after it and its commands are kept
pub sane-of : (l : ℕ) (d : Deed) (past : List Deed) (v : Link) (more : List Sending)
    → IsOf l d past v → v.commands ≡ commands past l ++ more → IsSane past → is_link past l ≡ true → IsSound v → IsSane (d ∷ past)
sane-of l d past v more is sent s there sound = record {
  sound = λ k. at k (k == l) refl;
  unknown = λ k none.
      let before = sym (is.is_link k) ∙ none in
      let differ = apart past l k there before in
      let known = s.unknown k before in
      (is.others k differ ∙ known.0, subst (λ h. is_open (deeds h) k ≡ false) (sym is.history) known.1);
  replies = λ k. replies-at k (k == l) refl;
}
  where
    one : (k : ℕ) → (k == l) ≡ true → l ≡ k
    one k e = search (rules, e)

    at : (k : ℕ) (b : Bool) → (k == l) ≡ b → IsSound (link (d ∷ past) k)
    at k true e = subst (λ n. IsSound (link (d ∷ past) n)) (one k e) (subst IsSound (sym is.own) sound)
    at k false e = subst IsSound (sym (is.others k e)) (s.sound k)

    replies-at : (k : ℕ) (b : Bool) → (k == l) ≡ b → AreFrom (d ∷ past) k
    replies-at k true e =
        subst (AreFrom (d ∷ past)) (one k e) (from-sent d past l more is.history (ap (λ (w : Link). w.commands) is.own ∙ sent) (s.sound l) (s.replies l))
    replies-at k false e = from-still d past k (ap (λ (w : Link). w.texts) (is.others k e)) (ap (λ (w : Link). w.commands) (is.others k e)) (s.replies k)

-- a command that is sent
pub sound-sent : (v : Link) (c : Sending) → IsSound v → suc (length v.commands) < 2 ^ 53 → IsSound (record v { commands = v.commands ++ c ∷ [] })
sound-sent v c s fits =
    let more = length-append v.commands (c ∷ []) in
    record { spoken = spoken-sent v.commands (c ∷ []) s.spoken; read_back = s.read_back; taken = omega (arith, s.taken, more); ids = omega (arith, more, fits) }

-- the facts do not depend on what a link has received or could not send, nor on whether it was cut
pub sound-so : (v w : Link) → v.commands ≡ w.commands → v.ups ≡ w.ups → v.texts ≡ w.texts → IsSound v → IsSound w
sound-so v w commands ups texts s = record {
  spoken =
      subst (λ cs. AreSpoken cs 0 w.ups w.texts) commands
      (subst (λ n. AreSpoken v.commands 0 n w.texts) ups (subst (AreSpoken v.commands 0 v.ups) texts s.spoken));
  read_back = subst (AllByRecursion (IsMessageText ghosts.shape)) texts s.read_back;
  taken = subst (λ cs. w.ups ≤ length cs) commands (subst (λ n. n ≤ length v.commands) ups s.taken);
  ids = subst (λ cs. length cs < 2 ^ 53) commands s.ids;
}

-- To whom what is sent goes: events to those that are open, and a reply to who asked.
use Rattle.std.proofs.Common.{◌≡◌, ◌∙◌, ◌<◌, ◌^◌, ℕ, Bool, true, false, List, [], ◌∷◌, ◌++◌, map, flat_map, Option}
use Rattle.std.proofs.Common.{Some, None, Result, Ok, Err, refl, sym, ap, ap₂, subst, append-nil, rules}
use Rattle.std.specs.Prelude.{◌==◌, nat_lt, length, not, filter, if◌then◌else◌, IfOk, ⊤}
use Rattle.std.specs.List.{AllByRecursion, list_all}
use Rattle.std.proofs.lemmas.Grind.{flat_map-append}
use Rattle.bidi_tree.specs.Node.{Node}
use Rattle.bidi_params.specs.declared.error_code.ErrorCode.{ErrorCode}
use Rattle.bidi_methods.specs.declared.method.Method.{Method}
use Rattle.bidi_methods.specs.Method.{method_text}
use Rattle.bidi_messages.specs.Command.{method_in}
use Rattle.bidi_messages.specs.Message.{response_text, error_text}
use Rattle.bidi_messages.specs.Verdict.{Verdict, Accepted, Refused}
use Rattle.bidi_params.specs.declared.error_code.ErrorCode.TheVariants.{InvalidArgument, SessionNotCreated, UnknownError}
use Rattle.bidi_contexts.specs.Acts.{Act}
use Rattle.bidi_contexts.specs.Actions.{Action}
use Rattle.bidi_handles.specs.Checks.{◌>>=◌, need}
use Rattle.bidi_contexts.specs.Outcome as browser
use Rattle.bidi_contexts.specs.Occurrences.{Occurrence}
use Rattle.bidi_browser.specs.Occurs.{Item, Happens, Replies}
use Rattle.bidi_sessions.specs.Capabilities.{matching}
use Rattle.bidi_remote.specs.Machine.Commands.{Command, Status, New, End, Subscribe, UnsubscribeById, UnsubscribeByEvents, OfBrowser, command_of, id_of_command}
use Rattle.bidi_remote.specs.Machine.History.{Input, At, Open, Drop, Heard, NotText, OfPage, Deed, Time, Opened, Dropped}
use Rattle.bidi_remote.specs.Machine.History.{Began, Ended, Subscribed, Cancelled, Dismissed, Did, Told, acts}
use Rattle.bidi_remote.specs.Machine.Connections.{Attachment, Shut, Alone, SpeaksFor, is_for, is_open, is_shut, attachment_of, openings, connections_of}
use Rattle.bidi_remote.specs.Machine.Outcome.{NotTaken, Denied, Lost, Error, NoEffect, deeds, turn, with_turn, if_open}
use Rattle.bidi_remote.specs.Machine.Outcome.{in_page, asked, replied, outcome, answered, opening, may_open}
use Rattle.bidi_remote.specs.Machine.Outcome.{session_of_resource, is_ready, did, all_named, scope_asked, subscriptions_named}
use Rattle.bidi_remote.specs.Machine.Subscriptions.{subscriptions, holds_globally}
use Rattle.bidi_remote.specs.Replies.{IsEventText, IsReply, is_result, is_code, HasOneReply, IsAnsweredOnce}
use Rattle.bidi_remote.specs.Machine.Sent as sent
use Rattle.bidi_remote.specs.Machine.Sent.{Sent, Text, Close, occurrence_text, to_session, hearers, to_hearers, announcements}
use Rattle.bidi_remote.specs.Machine.Sent.{announced, closed, sent_to, sent_unasked, items, action_in, told, out, text_on, texts_on}
use Rattle.bidi_sessions.proofs.ListLemmas.{all-append}
use Rattle.bidi_sessions.specs.Limits.{most_subscriptions}

-- ---- texts on one connection

pub texts_on-append : (l : ℕ) (xs ys : List Sent) → texts_on l (xs ++ ys) ≡ texts_on l xs ++ texts_on l ys
texts_on-append l xs ys = flat_map-append (text_on l) xs ys

-- texts of events, of which a connection that is not open gets none
pub record AreEvents (b : Bool) (ts : List (List ℕ)) : Type 0 where
  pub each : AllByRecursion IsEventText ts
  pub none : b ≡ false → ts ≡ []

pub no-events : (b : Bool) → AreEvents b []
no-events b = record { each = tt; none = λ shut. refl }

pub events-append : (b : Bool) (ts us : List (List ℕ)) → AreEvents b ts → AreEvents b us → AreEvents b (ts ++ us)
events-append b ts us x y = record { each = all-append IsEventText ts us x.each y.each; none = λ shut. ap₂ (λ xs ys. xs ++ ys) (x.none shut) (y.none shut) }

events-more : (b : Bool) (l : ℕ) (xs ys : List Sent) → AreEvents b (texts_on l xs) → AreEvents b (texts_on l ys) → AreEvents b (texts_on l (xs ++ ys))
events-more b l xs ys x y = subst (AreEvents b) (sym (texts_on-append l xs ys)) (events-append b _ _ x y)

events-flat : {X : Type 0} (b : Bool) (l : ℕ) (f : X → List Sent)
    → ((x : X) → AreEvents b (texts_on l (f x))) → (xs : List X) → AreEvents b (texts_on l (flat_map f xs))
events-flat b l f each [] = no-events b
events-flat b l f each (x ∷ xs) = events-more b l (f x) (flat_map f xs) (each x) (events-flat b l f each xs)

-- one text for each connection of a session: those connections are open
same-number : (l c : ℕ) → (l == c) ≡ true → l ≡ c
same-number l c e = search (rules, e)

module _ (past : List Deed) (l : ℕ) where
  abbrev opens : Bool
  opens = is_open past l

  for-open : (s : ℕ) (attachment : Attachment) → is_for s attachment ≡ true → not (is_shut attachment) ≡ true
  for-open s Shut e = cc
  for-open s Alone e = refl
  for-open s (SpeaksFor t) e = refl

  one-text : (x : List ℕ) → IsEventText x → (s c : ℕ) (ts : List (List ℕ)) → is_for s (attachment_of past c) ≡ true
      → (b : Bool) → (l == c) ≡ b → AreEvents opens ts → AreEvents opens ((if b then x ∷ [] else []) ++ ts)
  one-text x is s c ts speaks false e more = more
  one-text x is s c ts speaks true e more = record {
    each = (is, more.each);
    none = λ shut. absurd (apart (sym (for-open s (attachment_of past l) (ap (λ n. is_for s (attachment_of past n)) (same-number l c e) ∙ speaks)) ∙ shut));
  }
    where
      apart : true ≡ false → ⊥
      apart e = cc

  abbrev each-of : List ℕ → ℕ → List ℕ → List Sent
  each-of x s cs = map (λ c. Text c x) (filter (λ c. is_for s (attachment_of past c)) cs)

  one-more : (x : List ℕ) → IsEventText x
      → (s c : ℕ) (cs : List ℕ) → AreEvents opens (texts_on l (each-of x s cs)) → (m : Bool) → is_for s (attachment_of past c) ≡ m
      → AreEvents opens (texts_on l (map (λ c. Text c x)
      (if m then c ∷ filter (λ c. is_for s (attachment_of past c)) cs else filter (λ c. is_for s (attachment_of past c)) cs)))
  one-more x is s c cs rest false e = rest
  one-more x is s c cs rest true e = one-text x is s c _ e (l == c) refl rest

  to-each : (x : List ℕ) → IsEventText x → (s : ℕ) (cs : List ℕ) → AreEvents opens (texts_on l (each-of x s cs))
  to-each x is s [] = no-events opens
  to-each x is s (c ∷ cs) = one-more x is s c cs (to-each x is s cs) (is_for s (attachment_of past c)) refl

  -- an event, to the connections of a session, and to all that hear it
  pub session-events : (o : Occurrence) (s : ℕ) → AreEvents opens (texts_on l (to_session past o s))
  session-events o s = to-each (occurrence_text o) (o.event, o.params, refl) s (openings past)

  pub heard-events : (o : Occurrence) → AreEvents opens (texts_on l (to_hearers past o))
  heard-events o = events-flat opens l (to_session past o) (session-events o) (hearers past o)

  announced-events : (d : Deed) → AreEvents opens (texts_on l (announced past d))
  announced-events (Subscribed s es scope) =
      events-flat opens l (λ o. to_session past o s) (λ o. session-events o s) (announcements past (Subscribed s es scope) s)
  announced-events d = no-events opens

  closes-none : (cs : List ℕ) → texts_on l (map Close cs) ≡ []
  closes-none [] = refl
  closes-none (c ∷ cs) = closes-none cs

  closed-events : (d : Deed) → texts_on l (closed past d) ≡ []
  closed-events (Ended s) = closes-none (connections_of past s)
  closed-events d = refl

  unasked-events : (item : Item) → AreEvents opens (texts_on l (sent_unasked past item))
  unasked-events (Happens o) = heard-events o
  unasked-events (Replies result) = no-events opens

  happened-events : (c id : ℕ) (os : List Occurrence) → AreEvents opens (texts_on l (flat_map (sent_to past c id) (map Happens os)))
  happened-events c id [] = no-events opens
  happened-events c id (o ∷ os) = events-more opens l (to_hearers past o) _ (heard-events o) (happened-events c id os)

  -- ---- the reply

  -- nothing, or the reply to a command of that id and method, where this connection is the one that asked
  pub data MayReply (c id : ℕ) (method : Method) : List (List ℕ) → Type 0 where
    no_reply : MayReply c id method []
    one_reply : (s : List ℕ) → l ≡ c → IsReply id method s → MayReply c id method (s ∷ [])

  -- events, with at most one reply among them
  pub record Answers (c id : ℕ) (method : Method) (ts : List (List ℕ)) : Type 0 where
    pub before : List (List ℕ)
    pub reply : List (List ℕ)
    pub after : List (List ℕ)
    pub is : ts ≡ before ++ (reply ++ after)
    pub events : AreEvents opens before
    pub replies : MayReply c id method reply
    pub later : AreEvents opens after

  reply-text : (c id : ℕ) (method : Method) (s : List ℕ) → IsReply id method s → (b : Bool) → (l == c) ≡ b → MayReply c id method (if b then s ∷ [] else [])
  reply-text c id method s is false e = no_reply
  reply-text c id method s is true e = one_reply s (same-number l c e) is

  one-text-on : (c : ℕ) (s : List ℕ) → texts_on l (Text c s ∷ []) ≡ (if l == c then s ∷ [] else [])
  one-text-on c s = append-nil _

  -- what is sent for a command that does something
  done-answers : (c id : ℕ) (method : Method) (d : Deed) (all : List Item) → HasOneReply id method all
      → Answers c id method (texts_on l (announced past d ++ (flat_map (sent_to past c id) all ++ closed past d)))
  done-answers c id method d all one =
      let before = map Happens one.0 in
      let after = map Happens one.2 in
      let result = one.1 in
      let reply = Text c (response_text id result) ∷ [] in
      let told_after = flat_map (sent_to past c id) after in
      let told_before = flat_map (sent_to past c id) before in
      record {
        before = texts_on l (announced past d) ++ texts_on l told_before;
        reply = texts_on l reply;
        after = texts_on l told_after;
        is =
            texts_on-append l (announced past d) _
            ∙ (ap (λ ts. texts_on l (announced past d) ++ ts) (texts_on-append l (flat_map (sent_to past c id) all) (closed past d)
            ∙ (ap (λ ts. texts_on l (flat_map (sent_to past c id) all) ++ ts) (closed-events d) ∙ (append-nil _
            ∙ (ap (λ xs. texts_on l (flat_map (sent_to past c id) xs)) one.3
            ∙ (ap (texts_on l) (flat_map-append (sent_to past c id) before (Replies result ∷ after))
            ∙ (texts_on-append l told_before (reply ++ told_after) ∙ ap (λ ts. texts_on l told_before ++ ts) (texts_on-append l reply told_after)))))))
            ∙ sym (regroup (texts_on l (announced past d)) (texts_on l told_before) _));
        events = events-append opens _ _ (announced-events d) (happened-events c id one.0);
        replies =
            subst (MayReply c id method) (sym (one-text-on c (response_text id result)))
            (reply-text c id method (response_text id result) (is_result result one.4 one.5) (l == c) refl);
        later = happened-events c id one.2;
      }
    where
      regroup : (xs ys zs : List (List ℕ)) → (xs ++ ys) ++ zs ≡ xs ++ (ys ++ zs)
      regroup [] ys zs = refl
      regroup (x ∷ xs) ys zs = ap (λ t. x ∷ t) (regroup xs ys zs)

  -- a refusal that is told is an error for who asked
  abbrev IsErrorFor : ℕ → ℕ → Result Deed NotTaken → Type 0
  IsErrorFor c id (Err (Error d n code)) = (d ≡ c) × (n ≡ Some id)
  IsErrorFor c id turned = ⊤

  replied-error : (c id : ℕ) (answer : Result Deed ErrorCode) → IsErrorFor c id (replied c id answer)
  replied-error c id (Ok d) = tt
  replied-error c id (Err code) = (refl, refl)

  asked-error : (c id : ℕ) (command : Option Command) → IsErrorFor c id (asked past c id command)
  asked-error c id None = (refl, refl)
  asked-error c id (Some command) = replied-error c id (outcome past c (attachment_of past c) command)

  open-error : (c id : ℕ) (b : Bool) (turned : Result Deed NotTaken) → IsErrorFor c id turned → IsErrorFor c id (if b then turned else Err (Lost c))
  open-error c id true turned is = is
  open-error c id false turned is = tt

  none-answers : (c id : ℕ) (method : Method) → Answers c id method []
  none-answers c id method = record { before = []; reply = []; after = []; is = refl; events = no-events opens; replies = no_reply; later = no-events opens }

  refused-answers : (c id : ℕ) (method : Method) (refusal : NotTaken) → IsErrorFor c id (Err refusal) → Answers c id method (texts_on l (sent.refused refusal))
  refused-answers c id method (Denied d) is = none-answers c id method
  refused-answers c id method (Lost d) is = none-answers c id method
  refused-answers c id method NoEffect is = none-answers c id method
  refused-answers c id method (Error d n code) is = record {
    before = [];
    reply = texts_on l (Text d (error_text n code) ∷ []);
    after = [];
    is = sym (append-nil _);
    events = no-events opens;
    replies = subst (MayReply c id method) (sym (one-text-on d (error_text n code)))
        (subst (λ k. MayReply c id method (if l == k then error_text n code ∷ [] else [])) (sym is.0)
        (reply-text c id method (error_text n code) (subst (λ m. IsReply id method (error_text m code)) (sym is.1) (is_code code)) (l == c) refl));
    later = no-events opens;
  }

-- what is sent on a connection at a command
pub answers-heard : (h : List Input) (l c : ℕ) (t : Node) (method : Method) → method_in t ≡ method_text method → IsAnsweredOnce (deeds h) (Heard c (Accepted t))
    → Answers (deeds h) l c (id_of_command t) method (texts_on l (out h (Heard c (Accepted t))))
answers-heard h l c t method named once = of (turn past i) refl
  where
    past : List Deed
    past = deeds h

    i : Input
    i = Heard c (Accepted t)

    of : (turned : Result Deed NotTaken) → turn past i ≡ turned → Answers past l c (id_of_command t) method (texts_on l (told past i turned))
    of (Ok d) e =
        done-answers past l c (id_of_command t) method d _
        (subst (λ r. IfOk r (λ x. HasOneReply (id_of_command t) method (items past (action_in (command_of t)) x))) e (once method named))
    of (Err refusal) e =
        refused-answers past l c (id_of_command t) method refusal (subst (IsErrorFor past l c (id_of_command t)) e
        (open-error past l c (id_of_command t) (is_open past c) _ (asked-error past l c (id_of_command t) (command_of t))))

-- ---- other inputs

-- it is no text and no other message of a connection
abbrev pub IsUnheard : Input → Type 0
IsUnheard (Heard c verdict) = ⊥
IsUnheard (NotText c) = ⊥
IsUnheard i = ⊤

module _ (h : List Input) (l : ℕ) where
  abbrev past : List Deed
  past = deeds h

  abbrev b : Bool
  b = is_open past l

  of-opening : (c : ℕ) (resource : List ℕ) (s : Option (Option ℕ)) → AreEvents b (texts_on l (told past (Open c resource) (opening past c s)))
  of-opening c resource None = no-events b
  of-opening c resource (Some s) = may (may_open past c)
    where
      may : (m : Bool) → AreEvents b (texts_on l (told past (Open c resource) (if m then Ok (Opened c s) else Err (Denied c))))
      may true = no-events b
      may false = no-events b

  of-drop : (c : ℕ) (m : Bool) → AreEvents b (texts_on l (told past (Drop c) (if m then Ok (Dropped c) else Err (Lost c))))
  of-drop c true = no-events b
  of-drop c false = no-events b

  of-page : (action : Action) (r : Result Act ErrorCode) → AreEvents b (texts_on l (told past (OfPage action) (in_page r)))
  of-page action (Ok act) = events-flat b l (sent_unasked past) (unasked-events past l) (items past (Some action) (Did act))
  of-page action (Err code) = no-events b

  -- what is sent at an input that is no message: events
  pub events-unheard : (i : Input) → IsUnheard i → AreEvents b (texts_on l (out h i))
  events-unheard (At n) is = no-events b
  events-unheard (Open c resource) is = of-opening c resource (session_of_resource past resource)
  events-unheard (Drop c) is = of-drop c (is_open past c)
  events-unheard (OfPage action) is = of-page action (browser.outcome (acts past) action)
  events-unheard (Heard c verdict) is = absurd is
  events-unheard (NotText c) is = absurd is

  -- ---- a connection that is not open stays so, until it is opened

  -- the deed does not open it
  abbrev NotOpening : Deed → Type 0
  NotOpening (Opened c s) = (l == c) ≡ false
  NotOpening (Began c) = (l == c) ≡ false
  NotOpening d = ⊤

  closed-still : (s : ℕ) (attachment : Attachment) → not (is_shut attachment) ≡ false → not (is_shut (if is_for s attachment then Shut else attachment)) ≡ false
  closed-still s Shut e = refl
  closed-still s Alone e = e
  closed-still s (SpeaksFor t) e = cc

  dropped-still : (attachment : Attachment) (m : Bool) → not (is_shut attachment) ≡ false → not (is_shut (if m then Shut else attachment)) ≡ false
  dropped-still attachment true e = refl
  dropped-still attachment false e = e

  stays : (d : Deed) → NotOpening d → b ≡ false → is_open (d ∷ past) l ≡ false
  stays (Opened c s) apart e = rw apart e
  stays (Began c) apart e = rw apart e
  stays (Dropped c) apart e = dropped-still (attachment_of past l) (l == c) e
  stays (Ended s) apart e = closed-still s (attachment_of past l) e
  stays d apart e = e

  stays-turned : (turned : Result Deed NotTaken) → IfOk turned NotOpening → b ≡ false → is_open (with_turn past turned) l ≡ false
  stays-turned (Ok d) apart e = stays d apart e
  stays-turned (Err refusal) apart e = e

  bound : {A B : Type 0} (P : B → Type 0) (r : Result A ErrorCode) (f : A → Result B ErrorCode) → ((x : A) → IfOk (f x) P) → IfOk (r >>= f) P
  bound P (Ok x) f each = each x
  bound P (Err code) f each = tt

  -- no command opens another connection than its own
  outcome-apart : (c : ℕ) → (l == c) ≡ false → (attachment : Attachment) (command : Command) → IfOk (outcome past c attachment command) NotOpening
  outcome-apart c apart Shut command = tt
  outcome-apart c apart Alone Status = tt
  outcome-apart c apart Alone (New request) =
      bound NotOpening (matching request) _ (λ fit. bound NotOpening (need (is_ready past) SessionNotCreated) _ (λ few. apart))
  outcome-apart c apart Alone command = tt
  outcome-apart c apart (SpeaksFor s) Status = tt
  outcome-apart c apart (SpeaksFor s) (New request) = tt
  outcome-apart c apart (SpeaksFor s) End = tt
  outcome-apart c apart (SpeaksFor s) (Subscribe names contexts users) =
      bound NotOpening (all_named names) _ (λ events. bound NotOpening (scope_asked (acts past) contexts users) _ (λ scope.
      bound NotOpening (need (nat_lt (length (subscriptions past s)) most_subscriptions) UnknownError) (λ few. Ok (Subscribed s events scope)) (λ few. tt)))
  outcome-apart c apart (SpeaksFor s) (UnsubscribeById ids) = bound NotOpening (subscriptions_named past s ids) _ (λ ns. tt)
  outcome-apart c apart (SpeaksFor s) (UnsubscribeByEvents names) = bound NotOpening (all_named names) _ (λ events.
      bound NotOpening (need (list_all (holds_globally past s) events) InvalidArgument) (λ held. Ok (Dismissed s events)) (λ held. tt))
  outcome-apart c apart (SpeaksFor s) (OfBrowser action) = did-apart (browser.outcome (acts past) action)
    where
      did-apart : (r : Result Act ErrorCode) → IfOk (did r) NotOpening
      did-apart (Ok act) = tt
      did-apart (Err code) = tt

  replied-apart : (c id : ℕ) (r : Result Deed ErrorCode) → IfOk r NotOpening → IfOk (replied c id r) NotOpening
  replied-apart c id (Ok d) is = is
  replied-apart c id (Err code) is = tt

  asked-apart : (c id : ℕ) → (l == c) ≡ false → (command : Option Command) → IfOk (asked past c id command) NotOpening
  asked-apart c id apart None = tt
  asked-apart c id apart (Some command) = replied-apart c id (outcome past c (attachment_of past c) command) (outcome-apart c apart (attachment_of past c) command)

  answered-apart : (c : ℕ) → (l == c) ≡ false → (v : Verdict) → IfOk (answered past c v) NotOpening
  answered-apart c apart (Accepted t) = asked-apart c (id_of_command t) apart (command_of t)
  answered-apart c apart (Refused id code) = tt

  open-apart : (c : ℕ) (m : Bool) (turned : Result Deed NotTaken) → IfOk turned NotOpening → IfOk (if m then turned else Err (Lost c)) NotOpening
  open-apart c true turned is = is
  open-apart c false turned is = tt

  opening-apart : (c : ℕ) → (l == c) ≡ false → (s : Option (Option ℕ)) → IfOk (opening past c s) NotOpening
  opening-apart c apart None = tt
  opening-apart c apart (Some s) = may (may_open past c)
    where
      may : (m : Bool) → IfOk (if m then Ok (Opened c s) else Err (Denied c)) NotOpening
      may true = apart
      may false = tt

  page-apart : (r : Result Act ErrorCode) → IfOk (in_page r) NotOpening
  page-apart (Ok act) = tt
  page-apart (Err code) = tt

  -- the input is of another connection, or of none
  abbrev pub IsApart : Input → Type 0
  IsApart (Open c resource) = (l == c) ≡ false
  IsApart (Heard c verdict) = (l == c) ≡ false
  IsApart i = ⊤

  pub stays-shut : (i : Input) → IsApart i → b ≡ false → is_open (deeds (i ∷ h)) l ≡ false
  stays-shut (At n) apart e = e
  stays-shut (Open c resource) apart e =
      stays-turned (opening past c (session_of_resource past resource)) (opening-apart c apart (session_of_resource past resource)) e
  stays-shut (Drop c) apart e = stays-turned (if_open past c (Ok (Dropped c))) (open-apart c (is_open past c) (Ok (Dropped c)) tt) e
  stays-shut (Heard c v) apart e =
      stays-turned (if_open past c (answered past c v)) (open-apart c (is_open past c) (answered past c v) (answered-apart c apart v)) e
  stays-shut (NotText c) apart e =
      stays-turned (if_open past c (answered past c (Refused None InvalidArgument)))
      (open-apart c (is_open past c) (answered past c (Refused None InvalidArgument)) tt) e
  stays-shut (OfPage action) apart e = stays-turned (in_page (browser.outcome (acts past) action)) (page-apart (browser.outcome (acts past) action)) e

-- Taking a text down on a link of the code: its meaning to the local end, and the note of it.
use Rattle.std.proofs.Common.{◌≡◌, ◌∙◌, ◌≤◌, ◌<◌, ◌^◌, ◌⊎◌, ℕ, suc, Bool, true, false, true≢false, not, cond, bytes_eq, List, []}
use Rattle.std.proofs.Common.{◌∷◌, ◌++◌, map, length, take, drop, filter, find, codes, Option, Some, None, option_and_then}
use Rattle.std.proofs.Common.{unwrap_or, Result, inl, inr, refl, sym, ap, ap₂, subst, arith, rules, tests, append-nil, lt-ltb}
use Rattle.std.specs.Prelude.{slice_get, slice_set, nat_lt, ◌&&◌, if◌then◌else◌, OnOk, string_bytes}
use Rattle.std.specs.Option.{option_or}
use Rattle.std.proofs.lemmas.List.{map-append}
use Rattle.std.proofs.lemmas.List.Elements.{filter-append}
use Rattle.std.proofs.lemmas.List.Folds.{find-append}
use Rattle.bidi_tree.specs.Node.{Node, null, get_of}
use Rattle.bidi_tree.specs.Kind.{text_in}
use Rattle.bidi_tree.specs.Text.{tree_of}
use Rattle.bidi_tree.specs.declared.number.JsUint.{JsUint}
use Rattle.bidi_shape.specs.WordLaws.{word_shape}
use Rattle.bidi_shape.specs.Name.{command_response, error_response, event as event_name, message as message_name}
use Rattle.bidi_shape.specs.Term.{Rows, Openness, required, exactly, map_of, row, rule}
use Rattle.bidi_shape.specs.Fits.{Fits}
use Rattle.bidi_shape.proofs.FitsLemmas.{exactly_kind, map_kind, map_inside, RowFits, row_inside, rule_inside, either_inside}
use Rattle.bidi_messages.specs.Event.{event_type_words}
use Rattle.bidi_messages.specs.Envelope.{envelope_inside}
use Rattle.bidi_methods.specs.EventName.{event_words, event_name_text}
use Rattle.bidi_methods.specs.EventData.{event_of}
use Rattle.bidi_params.specs.declared.error_code.ErrorCode.{ErrorCode}
use Rattle.bidi_methods.specs.declared.event_data.EventName.{EventName}
use Rattle.bidi_methods.specs.declared.event_data.EventData.{EventData}
use Rattle.bidi_messages.specs.declared.event.Event.{Event}
use Rattle.bidi_methods.specs.declared.result_data.ResultData.{ResultData}
use Rattle.bidi_methods.specs.declared.method.Method.{Method}
use Rattle.bidi_messages.specs.contracts.message.MessageShape.TheImpl.{ghosts}
use Rattle.bidi_messages.specs.contracts.event.EventShape.TheImpl as event
use Rattle.bidi_methods.specs.contracts.event_data.EventDataPayloadEventName.TheImpl as told
use Rattle.bidi_methods.specs.contracts.result_data.ResultDataPayloadMethod.TheImpl as results
use Rattle.bidi_methods.specs.Method.{result_of}
use Rattle.bidi_messages.specs.Message.{response_tree, error_tree}
use Rattle.bidi_messages.specs.Command.{id_in, method_in, params_in}
use Rattle.bidi_messages.specs.Reading.{IsMessageText}
use Rattle.bidi_messages.proofs.CommandLemmas.{apart, in_range}
use Rattle.bidi_messages.proofs.MessageLemmas.{method_in-event}
use Rattle.bidi_local.specs.Pending.{method_of, without}
use Rattle.bidi_local.specs.Received.{Meaning, Answer, Refusal, Event as Told, Means, settled, is_event as means_event, is_answer, is_refusal, asked_by}
use Rattle.bidi_local.specs.View.{Stands, sent_by, waiting_in, meaning_of}
use Rattle.bidi_local.specs.declared.received.Received.{Received}
use Rattle.bidi_local.specs.declared.received.Received.TheVariants as received
use Rattle.bidi_remote.specs.Replies.{IsEventText}
use Rattle.bidi_remote.proofs.ReplyLemmas.{one-method}
use Rattle.bidi_ledger.specs.declared.ledger.Entry.{Entry}
use Rattle.bidi_ledger.specs.declared.ledger.Fate.{Fate}
use Rattle.bidi_ledger.specs.declared.ledger.Fate.TheVariants as in_hand
use Rattle.bidi_link.specs.declared.link_end.LinkEnd.{LinkEnd}
use Rattle.bidi_link.specs.Spoken.{IsSound}
use Rattle.bidi_ledger.specs.Pairing.{Sending}
use Rattle.bidi_ledger.specs.Link as seen
use Rattle.bidi_ledger.specs.Link.{Link, is_event, is_reply_to, is_waiting, messages, event_in, events, fate_by, fate_with, fate_of, entries_from}
use Rattle.bidi_link.specs.Rows.{Agrees, waiting_among, AreUpward, with_down}
use Rattle.bidi_ledger.specs.Steps.{fate_seen, entry_seen, event_seen, EntriesAreWell, EventsAreWell}
use Rattle.bidi_link.proofs.LinkLemmas.{both_ok, entries-same, dropped, all_dropped}
use Rattle.bidi_link.proofs.LinkFateLemmas.{are_numbered, IsEntry, entry_at, entries-set, waiting-set, method_of-waiting}
use Rattle.bidi_link.proofs.LinkReplyLemmas.{tree_in, ResultOf, CodeOf, result_or_code, Replies, replies_alone}
use Rattle.bidi_link.proofs.LinkReplyLemmas.{replies_itself, reply_reads, ReadsAsEvent, event_reads, event_type_in}
use Rattle.bidi_link.proofs.LinkReplyLemmas.{is_event_text, events_reply, IsNext, next_event, next_reply, next_text}

-- ---- trees that fit a message, by their type

abbrev type_in : Node → List ℕ
type_in t = unwrap_or (option_and_then text_in (get_of (codes "type") t)) []

typed : (o : Option Node) (s : List ℕ) → RowFits required (exactly s) o → unwrap_or (option_and_then text_in o) [] ≡ s
typed (Some t) s fit = ap (λ u. unwrap_or (text_in u) []) (exactly_kind fit)
typed None s fit = absurd fit

typed_map : {t : Node} {s : List ℕ} {rows : Rows} {o : Openness} → Fits t (map_of (row (codes "type") required (exactly s) rows) o) → type_in t ≡ s
typed_map {t} {s} {rows} {o} fit =
    let is = map_kind fit in
    let inside = map_inside (subst (λ u. Fits u (map_of (row (codes "type") required (exactly s) rows) o)) is.1 fit) in
    ap type_in is.1 ∙ typed _ s (row_inside inside.0).0

response_type : (t : Node) → Fits t (rule command_response) → type_in t ≡ codes "success"
response_type t fit = typed_map (rule_inside fit)

error_type : (t : Node) → Fits t (rule error_response) → type_in t ≡ codes "error"
error_type t fit = typed_map (rule_inside fit)

event_is_typed : (t : Node) → Fits t (rule event_name) → type_in t ≡ codes "event"
event_is_typed t fit = typed_map (envelope_inside (codes "type") (word_shape event_type_words) event_words told.ghosts.payload (rule event_name) refl t fit).1

cases : {A B : Type 0} (P : Type 0) → A ⊎ B → (A → P) → (B → P) → P
cases P (inl a) f g = f a
cases P (inr b) f g = g b

differ : {s : List ℕ} (j k : List ℕ) → bytes_eq j k ≡ false → s ≡ j → s ≡ k → ⊥
differ j k unlike is so = apart j k unlike (sym is ∙ so)

fits_event : (t : Node) → Fits t (rule message_name) → type_in t ≡ codes "event" → Fits t (rule event_name)
fits_event t fit is =
    cases (Fits t (rule event_name)) (either_inside (rule_inside fit)) (λ f. absurd (differ (codes "success") (codes "event") refl (response_type t f) is))
    (λ f. cases (Fits t (rule event_name)) (either_inside f) (λ g. absurd (differ (codes "error") (codes "event") refl (error_type t g) is)) (λ g. g))

fits_response : (t : Node) → Fits t (rule message_name) → type_in t ≡ codes "success" → Fits t (rule command_response)
fits_response t fit is =
    cases (Fits t (rule command_response)) (either_inside (rule_inside fit)) (λ f. f)
    (λ f. cases (Fits t (rule command_response)) (either_inside f) (λ g. absurd (differ (codes "error") (codes "success") refl (error_type t g) is))
    (λ g. absurd (differ (codes "event") (codes "success") refl (event_is_typed t g) is)))

fits_error : (t : Node) → Fits t (rule message_name) → type_in t ≡ codes "error" → Fits t (rule error_response)
fits_error t fit is =
    cases (Fits t (rule error_response)) (either_inside (rule_inside fit)) (λ f. absurd (differ (codes "success") (codes "error") refl (response_type t f) is))
    (λ f. cases (Fits t (rule error_response)) (either_inside f) (λ g. g) (λ g. absurd (differ (codes "event") (codes "error") refl (event_is_typed t g) is)))

-- a text that is queued for the local end fits a message
fits_message : (s : List ℕ) (t : Node) → tree_of s ≡ Some t → IsMessageText ghosts.shape s → Fits t (rule message_name)
fits_message s t reads m =
    let same : Some m.0 ≡ Some t = sym m.3 ∙ reads in
    subst (λ u. Fits u (rule message_name)) (ap (λ o. unwrap_or o null) same) m.1

-- ---- one message more

abbrev with_next : Link → Link
with_next v = record v { downs = suc v.downs }

or_none : (o : Option Node) → option_or o None ≡ o
or_none None = refl
or_none (Some t) = refl

module _ (v : Link) (s : List ℕ) (more : take (suc v.downs) v.texts ≡ take v.downs v.texts ++ s ∷ []) where
  messages-next : messages (with_next v) ≡ messages v ++ tree_in s ∷ []
  messages-next = ap (map tree_in) more ∙ map-append tree_in (take v.downs v.texts) (s ∷ [])

  found-next : (id : ℕ) (b : Bool) → is_reply_to id (tree_in s) ≡ b
      → find (is_reply_to id) (messages (with_next v)) ≡ option_or (find (is_reply_to id) (messages v)) (cond b (Some (tree_in s)) None)
  found-next id b is =
      ap (find (is_reply_to id)) messages-next
      ∙ (find-append (is_reply_to id) (messages v) (tree_in s ∷ [])
      ∙ ap (λ d. option_or (find (is_reply_to id) (messages v)) (cond d (Some (tree_in s)) None)) is)

  -- a command to which it does not reply has the fate that it had
  fate-other : (id : ℕ) → is_reply_to id (tree_in s) ≡ false → fate_of v id ≡ fate_of (with_next v) id
  fate-other id is = ap (λ o. fate_with o v.is_cut) (sym (found-next id false is ∙ or_none (find (is_reply_to id) (messages v))))

  -- it decides the fate of the command to which it is the first reply
  fate-here : (id : ℕ) → find (is_reply_to id) (messages v) ≡ None → is_reply_to id (tree_in s) ≡ true → fate_of (with_next v) id ≡ fate_by (tree_in s)
  fate-here id none is = ap (λ o. fate_with o v.is_cut) (found-next id true is ∙ ap (λ o. option_or o (Some (tree_in s))) none)

  events-next : (b : Bool) → is_event (tree_in s) ≡ b → events (with_next v) ≡ events v ++ map event_in (cond b (tree_in s ∷ []) [])
  events-next b is =
      ap (λ ts. map event_in (filter is_event ts)) messages-next
      ∙ (ap (map event_in) (filter-append is_event (messages v) (tree_in s ∷ []) ∙ ap (λ d. filter is_event (messages v) ++ cond d (tree_in s ∷ []) []) is)
      ∙ map-append event_in (filter is_event (messages v)) (cond b (tree_in s ∷ []) []))

-- ---- the messages that were received

record ToldAs (r : Received) (n : EventName) (p : Node) (d : EventData) : Type 0 where
  is : r ≡ received.Event d
  kind : told.ghosts.payload.kind d ≡ n
  tree : told.ghosts.payload.tree_of d ≡ p

told_as : (r : Received) (n : EventName) (p : Node) → Told n p ≡ meaning_of r → (d : EventData) × ToldAs r n p d
told_as (received.Event d) n p is = (d, record { is = refl; kind = cc is; tree = cc is })
told_as (received.Answer id d) n p is = cc is
told_as (received.BadResult id) n p is = cc is
told_as (received.Refusal id code) n p is = cc is
told_as received.Stray n p is = cc is
told_as received.NotInProfile n p is = cc is
told_as received.NotJson n p is = cc is

record AnsweredAs (r : Received) (n : ℕ) (t : Node) (id : JsUint) (d : ResultData) : Type 0 where
  is : r ≡ received.Answer id d
  id_is : id.value ≡ n
  tree : results.ghosts.payload.tree_of d ≡ t

answered_as : (r : Received) (n : ℕ) (m : Method) (t : Node) → Answer n m t ≡ meaning_of r → (id : JsUint) × (d : ResultData) × AnsweredAs r n t id d
answered_as (received.Answer id d) n m t is = (id, d, record { is = refl; id_is = cc is; tree = cc is })
answered_as (received.Event d) n m t is = cc is
answered_as (received.BadResult id) n m t is = cc is
answered_as (received.Refusal id code) n m t is = cc is
answered_as received.Stray n m t is = cc is
answered_as received.NotInProfile n m t is = cc is
answered_as received.NotJson n m t is = cc is

record RefusedAs (r : Received) (n : ℕ) (code : ErrorCode) (id : JsUint) : Type 0 where
  is : r ≡ received.Refusal id code
  id_is : id.value ≡ n

refused_as : (r : Received) (n : ℕ) (code : ErrorCode) → Refusal n code ≡ meaning_of r → (id : JsUint) × RefusedAs r n code id
refused_as (received.Refusal id k) n code is = let same : k ≡ code = cc is in (id, record { is = ap (received.Refusal id) same; id_is = cc is })
refused_as (received.Event d) n code is = cc is
refused_as (received.Answer id d) n code is = cc is
refused_as (received.BadResult id) n code is = cc is
refused_as received.Stray n code is = cc is
refused_as received.NotInProfile n code is = cc is
refused_as received.NotJson n code is = cc is

two : {x y : List ℕ} {t u : Node} → x ≡ y → t ≡ u → ◌≡◌ {A = seen.Received} (record { method = x; params = t }) (record { method = y; params = u })
two p q = cc

-- an event of the code is that of its message
seen_in : (d : EventData) (n : EventName) (t : Node) → told.ghosts.payload.kind d ≡ n
    → told.ghosts.payload.tree_of d ≡ params_in t → method_in t ≡ event_name_text n → event_seen d ≡ event_in t
seen_in d n t kind tree method = two (ap event_name_text kind ∙ sym method) tree

-- ---- the link of the code

-- the parts of a link of the code that stay when a text is taken down
pub record IsKept (end new : LinkEnd) (rest : List (List ℕ)) : Type 0 where
  pub number : new.number ≡ end.number
  pub up : new.up ≡ end.up
  pub down : map string_bytes new.down.items ≡ rest
  pub is_cut : new.is_cut ≡ end.is_cut
  pub unsent : new.unsent ≡ end.unsent

-- the note of a message that was received
pub record IsNoted {E : Type 0} (end new : LinkEnd) (r : Received) (q : Result (Unit {0}) E) : Type 0 where
  pub answer : (p : ℕ) (e : Entry) (id : JsUint) (d : ResultData) → r ≡ received.Answer id d → id.value ≡ suc p → slice_get end.commands.items p ≡ Some e
      → OnOk q ((new.commands.items ≡ slice_set end.commands.items p (record e { fate = in_hand.Answered d })) × (new.events.items ≡ end.events.items))
  pub refusal : (p : ℕ) (e : Entry) (id : JsUint) (code : ErrorCode) → r ≡ received.Refusal id code → id.value ≡ suc p → slice_get end.commands.items p ≡ Some e
      → OnOk q ((new.commands.items ≡ slice_set end.commands.items p (record e { fate = in_hand.Refused code })) × (new.events.items ≡ end.events.items))
  pub event : (d : EventData) → r ≡ received.Event d → OnOk q ((new.commands.items ≡ end.commands.items) × (new.events.items ≡ end.events.items ++ d ∷ []))
  pub well : EntriesAreWell end.commands.items → EventsAreWell end.events.items → OnOk q (EntriesAreWell new.commands.items × EventsAreWell new.events.items)

module _ {E : Type 0} (end new : LinkEnd) (l : ℕ) (v : Link) (s : List ℕ) (rest : List (List ℕ)) (r : Received) (q : Result (Unit {0}) E)
    (a : Agrees end l v) (sound : IsSound v) (whole : v.is_cut ≡ false)
    (kept : IsKept end new rest) (noted : IsNoted end new r q) (here : drop v.downs v.texts ≡ s ∷ rest)
    (no_other : (m : Meaning) → Means (waiting_in end.local) s m → m ≡ meaning_of r)
    (settles : Stands new.local (sent_by end.local) (settled (waiting_in end.local) (meaning_of r))) where
  abbrev w : Link
  w = with_next v

  more : take (suc v.downs) v.texts ≡ take v.downs v.texts ++ s ∷ []
  more = (dropped v.downs v.texts s rest here).1

  -- the results and events that were noted before and are noted now are valid
  is_well : OnOk q (EntriesAreWell new.commands.items × EventsAreWell new.events.items)
  is_well = noted.well a.results_well a.events_well

  -- the parts that agree whatever was received
  agrees : EntriesAreWell new.commands.items × EventsAreWell new.events.items → map entry_seen new.commands.items ≡ entries_from 1 w v.commands
      → map event_seen new.events.items ≡ events w → settled (waiting_in end.local) (meaning_of r) ≡ waiting_among new.commands.items
      → Agrees new l w
  agrees well entries events waits = record {
    results_well = well.0;
    events_well = well.1;
    number = ap (λ x. x.value) kept.number ∙ a.number;
    entries = entries;
    events = events;
    not_sent = kept.unsent ∙ a.not_sent;
    is_cut = kept.is_cut ∙ a.is_cut;
    within = (dropped v.downs v.texts s rest here).2;
    carries = λ u. record {
      local = record { sent = settles.sent ∙ (a.carries whole).local.sent; waiting = settles.waiting ∙ waits };
      up = subst (λ x. AreUpward (suc v.ups) (drop v.ups v.commands) (map string_bytes x.items)) (sym kept.up) (a.carries whole).up;
      down = kept.down ∙ sym (dropped v.downs v.texts s rest here).0;
    };
    empty = λ u. absurd (true≢false (sym u ∙ whole));
  }

  -- an event
  of_event : (e : Event) → ReadsAsEvent s e → IsEventText s → IsMessageText ghosts.shape s → OnOk q (Agrees new l w)
  of_event e read is reads =
      let t = event.ghosts.shape.tree_of e in
      let typed_so : is_event (tree_in s) ≡ true = is_event_text s is reads in
      let tree : tree_in s ≡ t = ap (λ o. unwrap_or o null) read.reads in
      let n = event_of e.«data» in
      let fit = fits_event t (fits_message s t read.reads reads) (event_type_in e) in
      let is_meant = no_other (Told n (params_in t)) (means_event t n read.reads fit (method_in-event e)) in
      let is_told = told_as r n (params_in t) is_meant in
      both_ok q (noted.event is_told.0 is_told.1.is) is_well (λ z well.
      agrees well
      (ap (map entry_seen) z.0 ∙ (a.entries ∙ entries-same 1 v w v.commands (λ id. fate-other v s more id (events_reply id (tree_in s) typed_so))))
      (ap (map event_seen) z.1 ∙ (map-append event_seen end.events.items (is_told.0 ∷ [])
      ∙ (ap₂ {B = seen.Received} (λ xs x. xs ++ x ∷ []) a.events (seen_in is_told.0 n t is_told.1.kind is_told.1.tree (method_in-event e)
      ∙ ap event_in (sym tree)) ∙ sym (events-next v s more true typed_so))))
      (ap (settled (waiting_in end.local)) (sym is_meant) ∙ ((a.carries whole).local.waiting ∙ ap waiting_among (sym z.0))))

  -- a reply to the command at a place
  of_reply : (p : ℕ) (e : Entry) (f : Fate)
      → slice_get end.commands.items p ≡ Some e → Replies (suc p) (tree_in s) → find (is_reply_to (suc p)) (messages v) ≡ None
      → fate_seen f ≡ fate_by (tree_in s)
      → is_waiting (fate_seen f) ≡ false → settled (waiting_in end.local) (meaning_of r) ≡ without (waiting_in end.local) (suc p)
      → OnOk q ((new.commands.items ≡ slice_set end.commands.items p (record e { fate = f })) × (new.events.items ≡ end.events.items)) → OnOk q (Agrees new l w)
  of_reply p e f at replies none decides settled_so gone note =
      both_ok q note is_well (λ z well.
      agrees well
      (ap (map entry_seen) z.0 ∙ entries-set p 1 (suc p) v w f e end.commands.items v.commands (omega arith) a.entries at
      (decides ∙ sym (fate-here v s more (suc p) none (replies_itself (suc p) (tree_in s) replies)))
      (λ id apart. fate-other v s more id (replies_alone (suc p) id (tree_in s) replies (λ same. apart (sym same)))))
      (ap (map event_seen) z.1 ∙ (a.events ∙ (sym (append-nil (events v)) ∙ sym (events-next v s more false replies.no_event))))
      (gone ∙ (ap (λ ws. without ws (suc p)) (a.carries whole).local.waiting
      ∙ sym (ap waiting_among z.0 ∙ waiting-set p 1 (suc p) f e end.commands.items (omega arith)
      (are_numbered 1 v end.commands.items v.commands a.entries) at settled_so))))

  -- the command at a place waits
  asked : (p : ℕ) (c : Sending) (e : Entry) → slice_get end.commands.items p ≡ Some e
      → IsEntry v (suc p) c e → find (is_reply_to (suc p)) (messages v) ≡ None → method_of (waiting_in end.local) (suc p) ≡ Some e.method
  asked p c e at entry none =
      ap (λ ws. method_of ws (suc p)) (a.carries whole).local.waiting
      ∙ method_of-waiting p 1 (suc p) e end.commands.items (omega arith) (are_numbered 1 v end.commands.items v.commands a.entries) at
      (ap is_waiting (entry.fate ∙ ap₂ {B = Bool} fate_with none whole))

  -- a result settles the command, and is noted
  of_result : (p : ℕ) (e : Entry) (method : Method) → suc p < 2 ^ 53 → slice_get end.commands.items p ≡ Some e
      → e.method ≡ method → Replies (suc p) (tree_in s) → find (is_reply_to (suc p)) (messages v) ≡ None
      → method_of (waiting_in end.local) (suc p) ≡ Some e.method → IsMessageText ghosts.shape s → ResultOf (suc p) method s → OnOk q (Agrees new l w)
  of_result p e method small at same replies none waits reads is =
      let t = response_tree (suc p) is.outcome in
      let fit = fits_response t (fits_message s t is.reads reads) refl in
      let echoed = in_range (suc p) small in
      let id_is : id_in t ≡ suc p = ap (λ o. unwrap_or o 0) echoed in
      let is_asked : asked_by (waiting_in end.local) t ≡ Some e.method = ap (option_and_then (method_of (waiting_in end.local))) echoed ∙ waits in
      let is_meant = no_other (Answer (id_in t) e.method is.outcome)
      (is_answer t e.method is.reads fit is_asked (subst (λ m. Fits is.outcome (rule (result_of m))) (sym same) is.fits)) in
      let got = answered_as r (id_in t) e.method is.outcome is_meant in
      of_reply p e (in_hand.Answered got.1) at replies none (ap seen.Answered got.2.tree ∙ sym (ap (λ o. fate_by (unwrap_or o null)) is.reads)) refl
      (ap (settled (waiting_in end.local)) (sym is_meant) ∙ ap (without (waiting_in end.local)) id_is)
      (noted.answer p e got.0 got.1 got.2.is (got.2.id_is ∙ id_is) at)

  -- so does a code
  of_code : (p : ℕ) (e : Entry) → suc p < 2 ^ 53
      → slice_get end.commands.items p ≡ Some e → Replies (suc p) (tree_in s) → find (is_reply_to (suc p)) (messages v) ≡ None
      → method_of (waiting_in end.local) (suc p) ≡ Some e.method → IsMessageText ghosts.shape s → CodeOf (suc p) s → OnOk q (Agrees new l w)
  of_code p e small at replies none waits reads is =
      let t = error_tree (Some (suc p)) is.code in
      let fit = fits_error t (fits_message s t is.reads reads) refl in
      let echoed = in_range (suc p) small in
      let id_is : id_in t ≡ suc p = ap (λ o. unwrap_or o 0) echoed in
      let is_asked : asked_by (waiting_in end.local) t ≡ Some e.method = ap (option_and_then (method_of (waiting_in end.local))) echoed ∙ waits in
      let is_meant = no_other (Refusal (id_in t) is.code) (is_refusal t e.method is.code is.reads fit is_asked refl) in
      let got = refused_as r (id_in t) is.code is_meant in
      of_reply p e (in_hand.Refused is.code) at replies none (sym (ap (λ o. fate_by (unwrap_or o null)) is.reads)) refl
      (ap (settled (waiting_in end.local)) (sym is_meant) ∙ ap (without (waiting_in end.local)) id_is)
      (noted.refusal p e got.0 is.code got.1.is (got.1.id_is ∙ id_is) at)

  -- whatever the next text is
  of_next : IsMessageText ghosts.shape s → IsNext v.commands 0 v.ups (messages v) s → OnOk q (Agrees new l w)
  of_next reads (next_event is) = let e = event_reads s is reads in of_event e.0 e.1 is reads
  of_next reads (next_reply p c method after bound at named is none) =
      let small : suc p < 2 ^ 53 = omega (arith, bound, sound.taken, sound.ids) in
      let found = entry_at p 1 (suc p) v end.commands.items v.commands c (omega arith) a.entries at in
      let e = found.0 in
      let waits = asked p c e found.1 found.2 none in
      let replies = reply_reads (suc p) method small is in
      cases (OnOk q (Agrees new l w)) (result_or_code (suc p) method small is)
      (of_result p e method small found.1 (one-method e.method method (found.2.method ∙ named)) replies none waits reads)
      (of_code p e small found.1 replies none waits reads)

  -- the link of the code has the state after the text was taken down
  pub taken : OnOk q (Agrees new l (with_down v))
  taken =
      let next = next_text v.commands v.downs s rest sound.spoken (omega (arith, sound.taken, sound.ids)) sound.read_back here in
      let inside : nat_lt v.downs (length v.texts) ≡ true = lt-ltb v.downs (length v.texts) (dropped v.downs v.texts s rest here).2 in
      subst (λ x. OnOk q (Agrees new l x)) (sym (ap₂ {B = Bool} (λ b d. if not b && d then w else v) whole inside)) (of_next next.1 next.0)

past_all : (b d : Bool) (v w : Link) → (b ≡ false → d ≡ false) → (if not b && d then w else v) ≡ v
past_all true d v w f = refl
past_all false true v w f = absurd (true≢false (f refl))
past_all false false v w f = refl

-- with nothing on its way down nothing is taken down
pub with_down-none : (v : Link) → (v.is_cut ≡ false → drop v.downs v.texts ≡ []) → with_down v ≡ v
with_down-none v none =
    past_all v.is_cut (nat_lt v.downs (length v.texts)) v (with_next v)
    (λ whole. let all = all_dropped v.downs v.texts (none whole) in outside v.downs (length v.texts) all)
  where
    outside : (n m : ℕ) → m ≤ n → nat_lt n m ≡ false
    outside n m is = search (rules, tests)

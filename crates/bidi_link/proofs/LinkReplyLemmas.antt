-- The queued texts of a link by place: the command that each answers, and the message that it is read as.
use Rattle.std.proofs.Common.{◌≡◌, ◌∙◌, ◌≤◌, ◌<◌, ◌^◌, ◌⊎◌, inl, inr, ℕ, suc, zero, true, false, true≢false, not, cond}
use Rattle.std.proofs.Common.{nat_eq, List, [], ◌∷◌, map, length, get_or, take, drop, Option, Some, None}
use Rattle.std.proofs.Common.{option_and_then, unwrap_or, codes, find, refl, sym, ap, ap₂, subst, arith, rules}
use Rattle.std.specs.Prelude.{slice_get, ◌&&◌}
use Rattle.std.specs.Option.{option_eq}
use Rattle.std.specs.List.{AllByRecursion}
use Rattle.std.proofs.lemmas.Bool.{ne_eqb, eqb-true}
use Rattle.bidi_tree.specs.Node.{Node, null, put, get_of, text}
use Rattle.bidi_tree.specs.Kind.{text_in}
use Rattle.bidi_tree.specs.Text.{tree_of}
use Rattle.bidi_tree.proofs.MemberLemmas.{get_member-put}
use Rattle.bidi_tree.proofs.RoundTrip.{tree_of-compact_text}
use Rattle.bidi_shape.specs.Term.{rule}
use Rattle.bidi_shape.specs.Fits.{Fits}
use Rattle.bidi_shape.specs.ValueLaws.{others_of}
use Rattle.bidi_params.specs.declared.error_code.ErrorCode.{ErrorCode}
use Rattle.bidi_methods.specs.declared.method.Method.{Method}
use Rattle.bidi_messages.specs.declared.message.Message.{Message}
use Rattle.bidi_messages.specs.declared.message.Message.TheVariants as message
use Rattle.bidi_messages.specs.declared.event.Event.{Event}
use Rattle.bidi_messages.specs.contracts.message.MessageShape.TheImpl.{ghosts}
use Rattle.bidi_messages.specs.contracts.event.EventShape.TheImpl as event
use Rattle.bidi_methods.specs.contracts.event_data.EventDataPayloadEventName.TheImpl as told
use Rattle.bidi_methods.specs.EventName as names
use Rattle.bidi_methods.specs.EventData.{event_of}
use Rattle.bidi_messages.specs.Message.{response_tree, error_tree, error_text}
use Rattle.bidi_methods.specs.Method.{method_text, result_of}
use Rattle.bidi_messages.specs.Reading.{IsMessageText, IsEvent}
use Rattle.bidi_contexts.specs.Actions.{is_text}
use Rattle.bidi_handles.specs.Params.{number_if_at}
use Rattle.bidi_remote.specs.Replies.{IsEventText, IsReply, is_result, is_code}
use Rattle.bidi_ledger.specs.Pairing.{Sending}
use Rattle.bidi_ledger.specs.Link.{is_event, is_reply_to}
use Rattle.bidi_link.specs.Spoken.{AreSpoken, nothing, an_event, a_reply}

-- the tree of a text that is taken down
abbrev pub tree_in : List ℕ → Node
tree_in s = unwrap_or (tree_of s) null

-- ---- the messages that the texts are read as

-- an error reads back
pub error_reads : (id : ℕ) (code : ErrorCode) → id < 2 ^ 53 → tree_of (error_text (Some id) code) ≡ Some (error_tree (Some id) code)
error_reads id code small =
    tree_of-compact_text (error_tree (Some id) code)
    (((refl, (refl, (refl, tt))), ((refl, (refl, tt)), ((refl, tt), (tt, tt)))), (tt, (small, (tt, (tt, tt))))) (refl, omega arith)

-- it replies to the command of that id
pub record Replies (id : ℕ) (t : Node) : Type 0 where
  pub to : number_if_at "id" t ≡ Some id
  pub no_event : is_event t ≡ false

pub reply_reads : (id : ℕ) (method : Method) {s : List ℕ} → id < 2 ^ 53 → IsReply id method s → Replies id (tree_in s)
reply_reads id method small (is_result r fits reads) = subst (Replies id) (sym (ap (λ o. unwrap_or o null) reads)) (record { to = refl; no_event = refl })
reply_reads id method small (is_code code) =
    subst (Replies id) (sym (ap (λ o. unwrap_or o null) (error_reads id code small))) (record { to = refl; no_event = refl })

-- a reply is a result or a code
pub record ResultOf (id : ℕ) (method : Method) (s : List ℕ) : Type 0 where
  pub outcome : Node
  pub fits : Fits outcome (rule (result_of method))
  pub reads : tree_of s ≡ Some (response_tree id outcome)

pub record CodeOf (id : ℕ) (s : List ℕ) : Type 0 where
  pub code : ErrorCode
  pub reads : tree_of s ≡ Some (error_tree (Some id) code)

pub result_or_code : (id : ℕ) (method : Method) {s : List ℕ} → id < 2 ^ 53 → IsReply id method s → ResultOf id method s ⊎ CodeOf id s
result_or_code id method small (is_result r fits reads) = inl (record { outcome = r; fits = fits; reads = reads })
result_or_code id method small (is_code code) = inr (record { code = code; reads = error_reads id code small })

-- to no other
pub replies_alone : (id k : ℕ) (t : Node) → Replies id t → (id ≡ k → ⊥) → is_reply_to k t ≡ false
replies_alone id k t r apart =
    ap₂ {B = Option ℕ} (λ b o. not b && option_eq nat_eq o (Some k)) r.no_event r.to ∙ ne_eqb id k apart

pub replies_itself : (id : ℕ) (t : Node) → Replies id t → is_reply_to id t ≡ true
replies_itself id t r = ap₂ {B = Option ℕ} (λ b o. not b && option_eq nat_eq o (Some id)) r.no_event r.to ∙ same id
  where
    same : (n : ℕ) → nat_eq n n ≡ true
    same n = search rules

-- a reply to a command is no reply to another
replies_one : (id k : ℕ) (t : Node) → Replies id t → is_reply_to k t ≡ true → id ≡ k
replies_one id k t r is = eqb-true id k (sym (ap₂ {B = Option ℕ} (λ b o. not b && option_eq nat_eq o (Some k)) r.no_event r.to) ∙ is)

-- the text of an event is that of an event of the code
pub record ReadsAsEvent (s : List ℕ) (e : Event) : Type 0 where
  pub reads : tree_of s ≡ Some (event.ghosts.shape.tree_of e)

pub event_reads : (s : List ℕ) → IsEventText s → IsMessageText ghosts.shape s → (e : Event) × ReadsAsEvent s e
event_reads s is reads =
    let (m, well, so, tree) = reads.4 is.0 is.1 is.2 in
    by_message m (reads.3 ∙ ap Some (sym tree)) so
  where
    by_message : (m : Message) → tree_of s ≡ Some (ghosts.shape.tree_of m) → IsEvent m → (e : Event) × ReadsAsEvent s e
    by_message (message.Response r) tree not_so = absurd not_so
    by_message (message.Error r) tree not_so = absurd not_so
    by_message (message.Event e) tree so = (e, record { reads = tree })

pub event_typed : (e : Event) → is_event (event.ghosts.shape.tree_of e) ≡ true
event_typed e =
    ap (λ o. is_text "event" (option_and_then text_in o))
    (get_member-put (codes "type") (text (codes "event")) (put (codes "method") (text (names.event_name_text (event_of e.«data»)))
    (put (codes "params") (told.ghosts.payload.tree_of e.«data») (others_of e.ext))))

-- its type
pub event_type_in : (e : Event) → unwrap_or (option_and_then text_in (get_of (codes "type") (event.ghosts.shape.tree_of e))) [] ≡ codes "event"
event_type_in e =
    ap (λ o. unwrap_or (option_and_then text_in o) [])
    (get_member-put (codes "type") (text (codes "event")) (put (codes "method") (text (names.event_name_text (event_of e.«data»)))
    (put (codes "params") (told.ghosts.payload.tree_of e.«data») (others_of e.ext))))

pub is_event_text : (s : List ℕ) → IsEventText s → IsMessageText ghosts.shape s → is_event (tree_in s) ≡ true
is_event_text s is reads =
    let r = event_reads s is reads in
    ap (λ o. is_event (unwrap_or o null)) r.1.reads ∙ event_typed r.0

-- an event replies to none
pub events_reply : (k : ℕ) (t : Node) → is_event t ≡ true → is_reply_to k t ≡ false
events_reply k t is = ap (λ b. not b && option_eq nat_eq (number_if_at "id" t) (Some k)) is

-- ---- the texts on their way

pub spoken-bound : (cs : List Sending) {n m : ℕ} {ts : List (List ℕ)} → AreSpoken cs n m ts → n ≤ m
spoken-bound cs (nothing n m within) = within
spoken-bound cs (an_event n m s ts is rest) = spoken-bound cs rest
spoken-bound cs (a_reply n m p c method s ts after at named is rest) = omega (arith, after, spoken-bound cs rest)

passes : (k : ℕ) (t : Node) (ts : List Node) → is_reply_to k t ≡ false → find (is_reply_to k) ts ≡ None → find (is_reply_to k) (t ∷ ts) ≡ None
passes k t ts not_so none = ap (λ b. cond b (Some t) (find (is_reply_to k) ts)) not_so ∙ none

-- no text replies to a command that was not taken up
pub none_replies : (cs : List Sending) (d k : ℕ) {n m : ℕ} {ts : List (List ℕ)}
    → AreSpoken cs n m ts → m < 2 ^ 53 → AllByRecursion (IsMessageText ghosts.shape) ts → m < k
    → find (is_reply_to k) (map tree_in (take d ts)) ≡ None
none_replies cs zero k spoken small reads above = refl
none_replies cs (suc d) k (nothing n m within) small reads above = refl
none_replies cs (suc d) k (an_event n m s ts is rest) small reads above =
    passes k (tree_in s) (map tree_in (take d ts)) (events_reply k (tree_in s) (is_event_text s is reads.0)) (none_replies cs d k rest small reads.1 above)
none_replies cs (suc d) k (a_reply n m p c method s ts after at named is rest) small reads above =
    let bound = spoken-bound cs rest in
    passes k (tree_in s) (map tree_in (take d ts))
    (replies_alone (suc p) k (tree_in s) (reply_reads (suc p) method (omega (arith, bound, small)) is) (λ same. omega (arith, bound, above, same)))
    (none_replies cs d k rest small reads.1 above)

-- a reply among the texts answers a command after the first n, and among the first m
pub reply_among : (cs : List Sending) (j k : ℕ) (s : List ℕ) {n m : ℕ} {ts : List (List ℕ)}
    → AreSpoken cs n m ts → m < 2 ^ 53 → AllByRecursion (IsMessageText ghosts.shape) ts → j < length ts → get_or ts j s ≡ s
    → is_reply_to (suc k) (tree_in s) ≡ true → (n ≤ k) × (k < m)
reply_among cs j k s (nothing n m within) small reads inside at reply = absurd (omega (arith, inside))
reply_among cs zero k s (an_event n m u ts is rest) small reads inside at reply =
    absurd (true≢false (sym reply ∙ (ap (λ x. is_reply_to (suc k) (tree_in x)) (sym at) ∙ events_reply (suc k) (tree_in u) (is_event_text u is reads.0))))
reply_among cs zero k s (a_reply n m p c method u ts after found named is rest) small reads inside at reply =
    let bound = spoken-bound cs rest in
    let same = replies_one (suc p) (suc k) (tree_in u) (reply_reads (suc p) method (omega (arith, bound, small)) is)
    (ap (λ x. is_reply_to (suc k) (tree_in x)) at ∙ reply) in
    (omega (arith, after, same), omega (arith, bound, same))
reply_among cs (suc j) k s (an_event n m u ts is rest) small reads inside at reply = reply_among cs j k s rest small reads.1 (omega (arith, inside)) at reply
reply_among cs (suc j) k s (a_reply n m p c method u ts after found named is rest) small reads inside at reply =
    let later = reply_among cs j k s rest small reads.1 (omega (arith, inside)) at reply in
    (omega (arith, after, later.0), later.1)

-- the next text is that of an event, or it replies to a command to which no text before it did
pub data IsNext (cs : List Sending) (n m : ℕ) (before : List Node) (s : List ℕ) : Type 0 where
  next_event : IsEventText s → IsNext cs n m before s
  next_reply : (p : ℕ) (c : Sending) (method : Method) → n ≤ p → suc p ≤ m → slice_get cs p ≡ Some c → c.method ≡ method_text method → IsReply (suc p) method s
      → find (is_reply_to (suc p)) before ≡ None → IsNext cs n m before s

-- one more text before it
next_behind : (cs : List Sending) (n j m : ℕ) (t : Node) (before : List Node) (s : List ℕ)
    → n ≤ j → ((k : ℕ) → j < k → is_reply_to k t ≡ false) → IsNext cs j m before s → IsNext cs n m (t ∷ before) s
next_behind cs n j m t before s below others (next_event is) = next_event is
next_behind cs n j m t before s below others (next_reply p c method after bound at named is none) =
    next_reply p c method (omega (arith, below, after)) bound at named is (passes (suc p) t before (others (suc p) (omega (arith, after))) none)

pub next_text : (cs : List Sending) (d : ℕ) (s : List ℕ) (rest : List (List ℕ)) {n m : ℕ} {ts : List (List ℕ)}
    → AreSpoken cs n m ts → m < 2 ^ 53 → AllByRecursion (IsMessageText ghosts.shape) ts
    → drop d ts ≡ s ∷ rest → IsNext cs n m (map tree_in (take d ts)) s × IsMessageText ghosts.shape s
next_text cs zero s rest (nothing n m within) small reads is = cc
next_text cs (suc d) s rest (nothing n m within) small reads is = cc
next_text cs zero s rest (an_event n m u ts event more) small reads is =
    let same : u ≡ s = cc is in (next_event (subst IsEventText same event), subst (IsMessageText ghosts.shape) same reads.0)
next_text cs zero s rest (a_reply n m p c method u ts after at named reply more) small reads is =
    let same : u ≡ s = cc is in (
      next_reply p c method after (spoken-bound cs more) at named (subst (IsReply (suc p) method) same reply) refl,
      subst (IsMessageText ghosts.shape) same reads.0,
    )
next_text cs (suc d) s rest (an_event n m u ts event more) small reads is =
    let later = next_text cs d s rest more small reads.1 is in (
      next_behind cs n n m (tree_in u) (map tree_in (take d ts)) s (omega arith)
          (λ k above. events_reply k (tree_in u) (is_event_text u event reads.0)) later.0,
      later.1,
    )
next_text cs (suc d) s rest (a_reply n m p c method u ts after at named reply more) small reads is =
    let later = next_text cs d s rest more small reads.1 is in
    let bound = spoken-bound cs more in (
      next_behind cs n (suc p) m (tree_in u) (map tree_in (take d ts)) s (omega (arith, after))
          (λ k above. replies_alone (suc p) k (tree_in u) (reply_reads (suc p) method (omega (arith, bound, small)) reply)
          (λ same. omega (arith, above, same))) later.0,
      later.1,
    )

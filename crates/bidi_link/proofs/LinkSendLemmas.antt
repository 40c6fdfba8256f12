-- Sending a command on a link of the code: how many are pending, why it cannot be sent, and that it is pending afterwards.
use Rattle.std.proofs.Common.{◌≡◌, ◌∙◌, ◌<◌, ◌+◌, ◌-◌, ◌^◌, ℕ, suc, zero, min, Bool, true, false, true≢false, not, cond, List, [], ◌∷◌}
use Rattle.std.proofs.Common.{◌++◌, map, length, drop, filter, Option, Some, None, Err, refl, sym, ap, ap₂, subst, arith, rules, tests}
use Rattle.std.specs.Prelude.{nat_lt, nat_le, ◌&&◌, if◌then◌else◌, string_bytes}
use Rattle.std.proofs.lemmas.List.{length-map, length-append, length-drop, map-append}
use Rattle.bidi_local.specs.declared.local_end.LocalFault.{LocalFault}
use Rattle.bidi_local.specs.declared.local_end.LocalFault.TheVariants.{NoMemory, IdsUsedUp, TooManyPending, TooLong}
use Rattle.bidi_local.specs.Pending.{Pending, command_tree, command_text, refusal_of, IsAnswered}
use Rattle.bidi_local.specs.View.{Stands, sent_by, waiting_in}
use Rattle.bidi_methods.specs.declared.command_data.CommandData.{CommandData}
use Rattle.bidi_methods.specs.declared.method.Method.{Method}
use Rattle.bidi_methods.specs.Method.{method_text}
use Rattle.bidi_messages.specs.Verdict.{IsVerdict, Accepted}
use Rattle.bidi_methods.specs.contracts.command_data.CommandDataPayloadMethod.TheImpl as asks
use Rattle.bidi_tree.specs.declared.number.JsUint.{JsUint}
use Rattle.bidi_contexts.specs.Contexts.{up_to}
use Rattle.bidi_ledger.specs.declared.ledger.Entry.{Entry}
use Rattle.bidi_link.specs.declared.link_end.LinkEnd.{LinkEnd}
use Rattle.bidi_link.specs.Spoken.{IsSound}
use Rattle.bidi_ledger.specs.Pairing.{Sending}
use Rattle.bidi_ledger.specs.Link as seen
use Rattle.bidi_ledger.specs.Link.{Link, is_waiting, is_reply_to, messages, fate_with, fate_of, unsettled, entries_from, may_send}
use Rattle.bidi_link.specs.Rows.{Agrees, waiting_among, IsUpward, AreUpward, with_sending, sent_on}
use Rattle.bidi_ledger.specs.Steps.{fate_seen, entry_seen, event_seen, sending_of, FateIsWell, EntriesAreWell, EventsAreWell}
use Rattle.bidi_sessions.proofs.ListLemmas.{all-append}
use Rattle.bidi_link.proofs.LinkFateLemmas.{row, waits, same_head, same_tail}
use Rattle.bidi_link.proofs.LinkLemmas.{drop-append, entries-same}
use Rattle.bidi_link.proofs.LinkReplyLemmas.{none_replies}

-- ---- how many wait

-- so many numbers, from the first on
abbrev from : ℕ → ℕ → List ℕ
from k zero = []
from k (suc n) = k ∷ from (suc k) n

from-last : (k n : ℕ) → from k (suc n) ≡ from k n ++ (k + n) ∷ []
from-last k zero = ap (λ j. j ∷ []) (omega arith)
from-last k (suc n) = ap (λ ks. k ∷ ks) (from-last (suc k) n ∙ ap (λ j. from (suc k) n ++ j ∷ []) (omega arith))

up_to-from : (n : ℕ) → up_to n ≡ from 1 n
up_to-from zero = refl
up_to-from (suc n) = ap (λ ks. ks ++ suc n ∷ []) (up_to-from n) ∙ (ap (λ j. from 1 n ++ j ∷ []) (omega arith) ∙ sym (from-last 1 n))

counted : {A B : Type 0} (b d : Bool) (x : A) (xs : List A) (y : B) (ys : List B)
    → b ≡ d → length xs ≡ length ys → length (cond b (x ∷ xs) xs) ≡ length (cond d (y ∷ ys) ys)
counted true true x xs y ys e is = ap suc is
counted true false x xs y ys e is = absurd (true≢false e)
counted false true x xs y ys e is = absurd (true≢false (sym e))
counted false false x xs y ys e is = is

waiting-from : (k : ℕ) (v : Link) (es : List Entry) (cs : List Sending) → map entry_seen es ≡ entries_from k v cs
    → length (filter (λ e. is_waiting (fate_seen e.fate)) es) ≡ length (filter (λ id. is_waiting (fate_of v id)) (from k (length cs)))
waiting-from k v [] [] is = refl
waiting-from k v [] (c ∷ cs) is = cc
waiting-from k v (e ∷ es) [] is = cc
waiting-from k v (e ∷ es) (c ∷ cs) is =
    counted (is_waiting (fate_seen e.fate)) (is_waiting (fate_of v k)) e (filter (λ x. is_waiting (fate_seen x.fate)) es) k
    (filter (λ id. is_waiting (fate_of v id)) (from (suc k) (length cs)))
    (ap (λ x. is_waiting x.fate) (same_head is)) (waiting-from (suc k) v es cs (same_tail is))

-- the local end has as many pending commands as the link
pub waiting-unsettled : (v : Link) (es : List Entry) → map entry_seen es ≡ entries_from 1 v v.commands → length (waiting_among es) ≡ length (unsettled v)
waiting-unsettled v es is =
    length-map (filter (λ e. is_waiting (fate_seen e.fate)) es) (λ e. (e.id.value, e.method))
    ∙ (waiting-from 1 v es v.commands is ∙ ap (λ ks. length (filter (λ id. is_waiting (fate_of v id)) ks)) (sym (up_to-from (length v.commands))))

-- ---- why a command is not sent

-- the first cause that holds, by numbers
abbrev pub cause : ℕ → ℕ → ℕ → Option LocalFault
cause n w t = if nat_le (2 ^ 53 - 1) n then Some IdsUsedUp else if nat_le 1024 w then Some TooManyPending else if nat_lt 1048576 t then Some TooLong else None

abbrev pub may : ℕ → ℕ → ℕ → Bool
may n w t = nat_lt w 1024 && nat_le t 1048576 && nat_lt (suc n) (2 ^ 53)

abbrev chosen : Bool → Bool → Bool → Option LocalFault
chosen a b c = if a then Some IdsUsedUp else if b then Some TooManyPending else if c then Some TooLong else None

below : (w k : ℕ) → nat_lt w k ≡ not (nat_le k w)
below w k = search (rules, tests)

within : (t k : ℕ) → nat_le t k ≡ not (nat_lt k t)
within t k = search (rules, tests)

last : (n : ℕ) → nat_lt (suc n) (2 ^ 53) ≡ not (nat_le (2 ^ 53 - 1) n)
last n = search (rules, tests)

may-not : (n w t : ℕ) → may n w t ≡ (not (nat_le 1024 w) && not (nat_lt 1048576 t) && not (nat_le (2 ^ 53 - 1) n))
may-not n w t =
    ap₂ {B = Bool} (λ x y. x && y) (ap₂ {B = Bool} (λ x y. x && y) (below w 1024) (within t 1048576)) (last n)

by_bools : (a b c : Bool) → chosen a b c ≡ None → (not b && not c && not a) ≡ true
by_bools true b c e = cc
by_bools false true c e = cc
by_bools false false true e = cc
by_bools false false false e = refl

by_fault : (a b c : Bool) (f : LocalFault) → chosen a b c ≡ Some f → (not b && not c && not a) ≡ false
by_fault true true true f e = refl
by_fault true true false f e = refl
by_fault true false true f e = refl
by_fault true false false f e = refl
by_fault false true true f e = refl
by_fault false true false f e = refl
by_fault false false true f e = refl
by_fault false false false f e = cc

pub may-none : (n w t : ℕ) → cause n w t ≡ None → may n w t ≡ true
may-none n w t e = may-not n w t ∙ by_bools (nat_le (2 ^ 53 - 1) n) (nat_le 1024 w) (nat_lt 1048576 t) e

pub may-fault : (n w t : ℕ) (f : LocalFault) → cause n w t ≡ Some f → may n w t ≡ false
may-fault n w t f e = may-not n w t ∙ by_fault (nat_le (2 ^ 53 - 1) n) (nat_le 1024 w) (nat_lt 1048576 t) f e

-- ---- one more command

pub entries_from-last : (k : ℕ) (v : Link) (cs : List Sending) (c : Sending) (n : ℕ) → n ≡ k + length cs
    → entries_from k v (cs ++ c ∷ []) ≡ entries_from k v cs ++ record { id = n; method = c.method; fate = fate_of v n } ∷ []
entries_from-last k v [] c n place = ap (λ j. record { id = j; method = c.method; fate = fate_of v j } ∷ []) (omega (arith, place))
entries_from-last k v (d ∷ cs) c n place =
    ap {B = List seen.Entry} (λ ys. record { id = k; method = d.method; fate = fate_of v k } ∷ ys)
    (entries_from-last (suc k) v cs c n (omega (arith, place)))

pub upward-last : (id : ℕ) (cs : List Sending) (ss : List (List ℕ)) (c : Sending) (s : List ℕ) (n : ℕ)
    → n ≡ id + length cs → AreUpward id cs ss → IsUpward n c s → AreUpward id (cs ++ c ∷ []) (ss ++ s ∷ [])
upward-last id [] [] c s n place up is = (subst (λ j. IsUpward j c s) (omega (arith, place)) is, tt)
upward-last id [] (x ∷ ss) c s n place up is = absurd up
upward-last id (d ∷ cs) [] c s n place up is = absurd up
upward-last id (d ∷ cs) (x ∷ ss) c s n place up is = (up.0, upward-last (suc id) cs ss c s n (omega (arith, place)) up.1 is)

waiting-last : (es : List Entry) (e : Entry) → is_waiting (fate_seen e.fate) ≡ true → waiting_among (es ++ e ∷ []) ≡ waiting_among es ++ row e ∷ []
waiting-last [] e is = waits e [] true is
waiting-last (x ∷ es) e is = by_case (is_waiting (fate_seen x.fate)) refl (waiting-last es e is)
  where
    by_case : (b : Bool) → is_waiting (fate_seen x.fate) ≡ b → waiting_among (es ++ e ∷ []) ≡ waiting_among es ++ row e ∷ []
        → waiting_among (x ∷ (es ++ e ∷ [])) ≡ waiting_among (x ∷ es) ++ row e ∷ []
    by_case true waiting rest = waits x (es ++ e ∷ []) true waiting ∙ (ap (λ ws. row x ∷ ws) rest ∙ ap (λ ws. ws ++ row e ∷ []) (sym (waits x es true waiting)))
    by_case false settled rest = waits x (es ++ e ∷ []) false settled ∙ (rest ∙ ap (λ ws. ws ++ row e ∷ []) (sym (waits x es false settled)))

-- ---- the link of the code

-- the local end has sent that many commands, and may send this one if the link may
same_may : (v : Link) (es : List Entry) (d : CommandData) (sent : ℕ) (waiting : Pending)
    → map entry_seen es ≡ entries_from 1 v v.commands → sent ≡ length v.commands → waiting ≡ waiting_among es
    → may sent (length waiting) (length (command_text sent (asks.ghosts.payload.kind d) (asks.ghosts.payload.tree_of d))) ≡ may_send v (sending_of d)
same_may v es d sent waiting entries count is =
    ap (λ n. may n (length waiting) (length (command_text n (asks.ghosts.payload.kind d) (asks.ghosts.payload.tree_of d)))) count
    ∙ ap (λ w. may (length v.commands) w (length (command_text (length v.commands) (asks.ghosts.payload.kind d) (asks.ghosts.payload.tree_of d))))
    (ap length is ∙ waiting-unsettled v es entries)

pub may_send-none : (v : Link) (es : List Entry) (d : CommandData) (sent : ℕ) (waiting : Pending)
    → map entry_seen es ≡ entries_from 1 v v.commands → sent ≡ length v.commands → waiting ≡ waiting_among es
    → refusal_of sent waiting (command_text sent (asks.ghosts.payload.kind d) (asks.ghosts.payload.tree_of d)) ≡ None → may_send v (sending_of d) ≡ true
may_send-none v es d sent waiting entries count is none =
    sym (same_may v es d sent waiting entries count is)
    ∙ may-none sent (length waiting) (length (command_text sent (asks.ghosts.payload.kind d) (asks.ghosts.payload.tree_of d))) none

pub may_send-fault : (v : Link) (es : List Entry) (d : CommandData) (sent : ℕ) (waiting : Pending) (f : LocalFault)
    → map entry_seen es ≡ entries_from 1 v v.commands → sent ≡ length v.commands → waiting ≡ waiting_among es
    → refusal_of sent waiting (command_text sent (asks.ghosts.payload.kind d) (asks.ghosts.payload.tree_of d)) ≡ Some f → may_send v (sending_of d) ≡ false
may_send-fault v es d sent waiting f entries count is fault =
    sym (same_may v es d sent waiting entries count is)
    ∙ may-fault sent (length waiting) (length (command_text sent (asks.ghosts.payload.kind d) (asks.ghosts.payload.tree_of d))) f fault

pub sent_on-true : (v : Link) (c : Sending) → v.is_cut ≡ false → may_send v c ≡ true → sent_on v c ≡ record v { commands = v.commands ++ c ∷ [] }
sent_on-true v c whole sends =
    ap (λ b. if b then v else with_sending v c) whole
    ∙ ap (λ b. if b then record v { commands = v.commands ++ c ∷ [] } else record v { not_sent = suc v.not_sent }) sends

pub sent_on-false : (v : Link) (c : Sending) → v.is_cut ≡ false → may_send v c ≡ false → sent_on v c ≡ record v { not_sent = suc v.not_sent }
sent_on-false v c whole sends =
    ap (λ b. if b then v else with_sending v c) whole
    ∙ ap (λ b. if b then record v { commands = v.commands ++ c ∷ [] } else record v { not_sent = suc v.not_sent }) sends

-- no reply to the next command was taken down
next_waits : (v : Link) → IsSound v → v.is_cut ≡ false → fate_of v (suc (length v.commands)) ≡ seen.Waiting
next_waits v sound whole =
    ap₂ {B = Bool} fate_with (none_replies v.commands v.downs (suc (length v.commands)) sound.spoken (omega (arith, sound.taken, sound.ids))
    sound.read_back (omega (arith, sound.taken))) whole

-- the parts of a link of the code that stay when a command is sent
pub record IsRest (end new : LinkEnd) : Type 0 where
  pub number : new.number ≡ end.number
  pub down : new.down ≡ end.down
  pub is_cut : new.is_cut ≡ end.is_cut
  pub events : new.events ≡ end.events

pub sends : (end new : LinkEnd) (l : ℕ) (v : Link) (d : CommandData) (e : Entry) (s : List ℕ)
    → Agrees end l v → IsSound v → v.is_cut ≡ false → IsRest end new → new.unsent ≡ end.unsent
    → new.commands.items ≡ end.commands.items ++ e ∷ [] → map string_bytes new.up.items ≡ map string_bytes end.up.items ++ s ∷ []
    → e.id.value ≡ suc (sent_by end.local) → e.method ≡ asks.ghosts.payload.kind d → fate_seen e.fate ≡ seen.Waiting → FateIsWell e.fate
    → s ≡ command_text (sent_by end.local) (asks.ghosts.payload.kind d) (asks.ghosts.payload.tree_of d)
    → IsVerdict s (Accepted (command_tree (suc (sent_by end.local)) (asks.ghosts.payload.kind d) (asks.ghosts.payload.tree_of d)))
    → Stands new.local (suc (sent_by end.local)) (waiting_in end.local ++ (suc (sent_by end.local), asks.ghosts.payload.kind d) ∷ [])
    → Agrees new l (record v { commands = v.commands ++ sending_of d ∷ [] })
sends end new l v d e s a sound whole rest unsent commands up has_id has_method waiting fate_well written accepted stands =
    let n = length v.commands in
    let c = sending_of d in
    let local = (a.carries whole).local in
    let id : e.id.value ≡ suc n = has_id ∙ ap suc local.sent in
    let entry : entry_seen e ≡ record { id = suc n; method = c.method; fate = fate_of v (suc n) } =
    three id (ap method_text has_method) (waiting ∙ sym (next_waits v sound whole)) in
    let upward : IsUpward (suc n) c s = record {
      text = written ∙ ap (λ k. command_text k (asks.ghosts.payload.kind d) (asks.ghosts.payload.tree_of d)) local.sent;
      accepted = subst (λ k. IsVerdict s (Accepted (command_tree (suc k) (asks.ghosts.payload.kind d) (asks.ghosts.payload.tree_of d)))) local.sent accepted;
      method = asks.ghosts.payload.kind d;
      named = refl;
    } in
    record {
      results_well = subst EntriesAreWell (sym commands) (all-append (λ e. FateIsWell e.fate) end.commands.items (e ∷ []) a.results_well (fate_well, tt));
      events_well = subst (λ x. EventsAreWell x.items) (sym rest.events) a.events_well;
      number = ap (λ x. x.value) rest.number ∙ a.number;
      entries = ap (map entry_seen) commands ∙ (map-append entry_seen end.commands.items (e ∷ []) ∙ (ap₂ {B = seen.Entry} (λ ys y. ys ++ y ∷ []) a.entries entry
          ∙ (sym (entries_from-last 1 v v.commands c (suc n) (omega arith))
          ∙ entries-same 1 v (record v { commands = v.commands ++ c ∷ [] }) (v.commands ++ c ∷ []) (λ k. refl))));
      events = ap (λ x. map event_seen x.items) rest.events ∙ a.events;
      not_sent = unsent ∙ a.not_sent;
      is_cut = rest.is_cut ∙ a.is_cut;
      within = a.within;
      carries = λ u. record {
        local = record {
          sent = stands.sent ∙ (ap suc local.sent ∙ (let m : suc n ≡ length (v.commands ++ c ∷ []) = simp length-append (omega arith) in m));
          waiting =
              stands.waiting
              ∙ (ap₂ {B = ℕ × Method} (λ ws w. ws ++ w ∷ []) local.waiting (ap₂ {B = Method} (λ (x : ℕ) (m : Method). (x, m)) (sym has_id) (sym has_method))
              ∙ (sym (waiting-last end.commands.items e (ap is_waiting waiting)) ∙ ap waiting_among (sym commands)));
        };
        up =
            subst (AreUpward (suc v.ups) (drop v.ups (v.commands ++ c ∷ []))) (sym up)
            (subst (λ cs. AreUpward (suc v.ups) cs (map string_bytes end.up.items ++ s ∷ [])) (sym (drop-append v.ups v.commands (c ∷ []) sound.taken))
            (upward-last (suc v.ups) (drop v.ups v.commands) (map string_bytes end.up.items) c s (suc n)
            (omega (arith, length-drop v.ups v.commands, sound.taken)) (a.carries whole).up upward));
        down = ap (λ x. map string_bytes x.items) rest.down ∙ (a.carries whole).down;
      };
      empty = λ u. absurd (true≢false (sym u ∙ whole));
    }
  where
    three : {x y : ℕ} {i j : List ℕ} {f g : seen.Fate}
        → x ≡ y → i ≡ j → f ≡ g → ◌≡◌ {A = seen.Entry} (record { id = x; method = i; fate = f }) (record { id = y; method = j; fate = g })
    three p q r = cc

pub counts : (end new : LinkEnd) (l : ℕ) (v : Link)
    → Agrees end l v → v.is_cut ≡ false → IsRest end new → new.commands ≡ end.commands → new.up ≡ end.up → new.unsent ≡ suc end.unsent
    → Stands new.local (sent_by end.local) (waiting_in end.local) → Agrees new l (record v { not_sent = suc v.not_sent })
counts end new l v a whole rest commands up unsent stands =
    let local = (a.carries whole).local in
    record {
      results_well = subst (λ x. EntriesAreWell x.items) (sym commands) a.results_well;
      events_well = subst (λ x. EventsAreWell x.items) (sym rest.events) a.events_well;
      number = ap (λ x. x.value) rest.number ∙ a.number;
      entries = ap (λ x. map entry_seen x.items) commands ∙ (a.entries ∙ entries-same 1 v (record v { not_sent = suc v.not_sent }) v.commands (λ k. refl));
      events = ap (λ x. map event_seen x.items) rest.events ∙ a.events;
      not_sent = unsent ∙ ap suc a.not_sent;
      is_cut = rest.is_cut ∙ a.is_cut;
      within = a.within;
      carries = λ u. record {
        local = record { sent = stands.sent ∙ local.sent; waiting = stands.waiting ∙ (local.waiting ∙ ap (λ x. waiting_among x.items) (sym commands)) };
        up = subst (λ x. AreUpward (suc v.ups) (drop v.ups v.commands) (map string_bytes x.items)) (sym up) (a.carries whole).up;
        down = ap (λ x. map string_bytes x.items) rest.down ∙ (a.carries whole).down;
      };
      empty = λ u. absurd (true≢false (sym u ∙ whole));
    }

-- a fault other than `NoMemory` is the refusal itself
pub refused_for : (f : LocalFault) (o : Option LocalFault) → (f ≡ NoMemory → ⊥) → IsAnswered {A = JsUint × Unit {0}} (Err f) o → o ≡ Some f
refused_for NoMemory o not_so is = absurd (not_so refl)
refused_for IdsUsedUp o not_so is = is
refused_for TooManyPending o not_so is = is
refused_for TooLong o not_so is = is

-- a count below the limit is exact
pub counted_on : (n m x : ℕ) → n ≡ m → m < 2 ^ 63 → x ≡ min (n + 1) (2 ^ 64 - 1) → x ≡ suc n
counted_on n m x same short is = omega (arith, same, short, is)

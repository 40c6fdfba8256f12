-- The texts for a link stay sound as more is sent, taken up and handed to the remote end.
use Rattle.std.proofs.Common.{◌≡◌, ◌∙◌, ◌≤◌, ◌<◌, ℕ, suc, zero, Bool, true, false, List, [], ◌∷◌, ◌++◌, length, Some, refl, sym, ap, subst, arith}
use Rattle.std.specs.Prelude.{◌==◌, slice_get, if◌then◌else◌}
use Rattle.std.specs.List.{AllByRecursion}
use Rattle.bidi_methods.specs.declared.method.Method.{Method}
use Rattle.bidi_methods.specs.Method.{method_text}
use Rattle.bidi_messages.specs.Reading.{IsMessageText}
use Rattle.bidi_messages.specs.contracts.message.MessageShape.TheImpl.{ghosts}
use Rattle.bidi_remote.specs.Replies.{IsEventText}
use Rattle.bidi_remote.specs.Machine.Sent.{Sent, Text, Close, Opened, Denied, Lost, NoEffect, texts_on, text_on}
use Rattle.bidi_remote.specs.Machine.Messages.{AllReadBack, ReadsBack}
use Rattle.bidi_sessions.proofs.ListLemmas.{all-append}
use Rattle.bidi_remote.proofs.RouteLemmas.{AreEvents, MayReply, no_reply, one_reply, Answers, events-append}
use Rattle.bidi_remote.specs.Machine.History.{Deed}
use Rattle.bidi_remote.specs.Machine.Connections.{is_open}
use Rattle.bidi_ledger.specs.Pairing.{Sending}
use Rattle.bidi_link.specs.Spoken.{AreSpoken, nothing, an_event, a_reply}

get-before : (cs ds : List Sending) (p : ℕ) (c : Sending) → slice_get cs p ≡ Some c → slice_get (cs ++ ds) p ≡ Some c
get-before [] ds p c e = cc
get-before (x ∷ cs) ds zero c e = e
get-before (x ∷ cs) ds (suc p) c e = get-before cs ds p c e

-- an item at a place of the first ones
pub get-first : (cs ds : List Sending) (p : ℕ) (c : Sending) → p < length cs → slice_get (cs ++ ds) p ≡ Some c → slice_get cs p ≡ Some c
get-first [] ds p c within e = absurd (omega (arith, within))
get-first (x ∷ cs) ds zero c within e = e
get-first (x ∷ cs) ds (suc p) c within e = get-first cs ds p c (omega (arith, within)) e

-- more commands
pub spoken-sent : (cs ds : List Sending) {n m : ℕ} {ts : List (List ℕ)} → AreSpoken cs n m ts → AreSpoken (cs ++ ds) n m ts
spoken-sent cs ds (nothing n m within) = nothing n m within
spoken-sent cs ds (an_event n m s ts is more) = an_event n m s ts is (spoken-sent cs ds more)
spoken-sent cs ds (a_reply n m p c method s ts after at named is more) =
    a_reply n m p c method s ts after (get-before cs ds p c at) named is (spoken-sent cs ds more)

-- more may be taken up
pub spoken-up : (cs : List Sending) (k : ℕ) {n m : ℕ} {ts : List (List ℕ)} → m ≤ k → AreSpoken cs n m ts → AreSpoken cs n k ts
spoken-up cs k more (nothing n m within) = nothing n k (omega (arith, within, more))
spoken-up cs k more (an_event n m s ts is rest) = an_event n k s ts is (spoken-up cs k more rest)
spoken-up cs k more (a_reply n m p c method s ts after at named is rest) = a_reply n k p c method s ts after at named is (spoken-up cs k more rest)

-- events follow
pub spoken-events : (cs : List Sending) (n : ℕ) (us : List (List ℕ)) → AllByRecursion IsEventText us → AreSpoken cs n n us
spoken-events cs n [] all = nothing n n (omega arith)
spoken-events cs n (u ∷ us) all = an_event n n u us all.0 (spoken-events cs n us all.1)

-- fewer were answered before
spoken-from : (cs : List Sending) (n : ℕ) {m k : ℕ} {us : List (List ℕ)} → n ≤ m → AreSpoken cs m k us → AreSpoken cs n k us
spoken-from cs n below (nothing m k within) = nothing n k (omega (arith, below, within))
spoken-from cs n below (an_event m k u us is rest) = an_event n k u us is (spoken-from cs n below rest)
spoken-from cs n below (a_reply m k p c method u us after at named is rest) = a_reply n k p c method u us (omega (arith, below, after)) at named is rest

-- one after another
pub spoken-append : (cs : List Sending) (k : ℕ) (us : List (List ℕ)) {n m : ℕ} {ts : List (List ℕ)}
    → AreSpoken cs n m ts → AreSpoken cs m k us → AreSpoken cs n k (ts ++ us)
spoken-append cs k us (nothing n m within) more = spoken-from cs n within more
spoken-append cs k us (an_event n m s ts is rest) more = an_event n k s (ts ++ us) is (spoken-append cs k us rest more)
spoken-append cs k us (a_reply n m p c method s ts after at named is rest) more =
    a_reply n k p c method s (ts ++ us) after at named is (spoken-append cs k us rest more)

one-spoken : (cs : List Sending) (u : ℕ) (c : Sending) (method : Method) (l d : ℕ) (past : List Deed)
    → slice_get cs u ≡ Some c → c.method ≡ method_text method → {rs : List (List ℕ)} → MayReply past l d (suc u) method rs
    → AreSpoken cs u (suc u) rs
one-spoken cs u c method l d past at named no_reply = nothing u (suc u) (omega arith)
one-spoken cs u c method l d past at named (one_reply s same is) =
    a_reply u (suc u) u c method s [] (omega arith) at named is (nothing (suc u) (suc u) (omega arith))

-- the texts that are sent at a command, on the connection that asked
pub spoken-answers : (cs : List Sending) (u : ℕ) (c : Sending) (method : Method) (l d : ℕ) (past : List Deed) (ts : List (List ℕ))
    → slice_get cs u ≡ Some c → c.method ≡ method_text method
    → Answers past l d (suc u) method ts → AreSpoken cs u (suc u) ts
spoken-answers cs u c method l d past ts at named a =
    subst (AreSpoken cs u (suc u)) (sym a.is)
    (spoken-append cs (suc u) (a.reply ++ a.after) (spoken-events cs u a.before a.events.each)
    (spoken-append cs (suc u) a.after (one-spoken cs u c method l d past at named a.replies) (spoken-events cs (suc u) a.after a.later.each)))

none-elsewhere : (l d id : ℕ) (method : Method) (past : List Deed) {rs : List (List ℕ)} → (l ≡ d → ⊥) → MayReply past l d id method rs → rs ≡ []
none-elsewhere l d id method past apart no_reply = refl
none-elsewhere l d id method past apart (one_reply s same is) = absurd (apart same)

-- and on another connection
pub events-answers : (l d id : ℕ) (method : Method) (past : List Deed) (ts : List (List ℕ))
    → (l ≡ d → ⊥) → Answers past l d id method ts → AreEvents (is_open past l) ts
events-answers l d id method past ts apart a =
    subst (AreEvents (is_open past l)) (sym (a.is ∙ ap (λ rs. a.before ++ (rs ++ a.after)) (none-elsewhere l d id method past apart a.replies)))
    (events-append (is_open past l) a.before a.after a.events a.later)

-- ---- reading back

-- the texts on one connection read back
pub read-on : (l : ℕ) (all : List Sent) → AllReadBack all → AllByRecursion (IsMessageText ghosts.shape) (texts_on l all)
read-on l [] reads = tt
read-on l (x ∷ all) reads = all-append (IsMessageText ghosts.shape) (text_on l x) (texts_on l all) (one x reads.0) (read-on l all reads.1)
  where
    one-if : (b : Bool) (s : List ℕ) → IsMessageText ghosts.shape s → AllByRecursion (IsMessageText ghosts.shape) (if b then s ∷ [] else [])
    one-if true s is = (is, tt)
    one-if false s is = tt

    one : (x : Sent) → ReadsBack x → AllByRecursion (IsMessageText ghosts.shape) (text_on l x)
    one (Text c s) is = one-if (l == c) s is
    one (Close c) is = tt
    one (Opened c) is = tt
    one (Denied c) is = tt
    one (Lost c) is = tt
    one NoEffect is = tt

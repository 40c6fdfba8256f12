-- What the machine does at each input, where it is known how the connection stands and what its command comes to.
use Rattle.std.proofs.Common.{◌≡◌, ◌∙◌, ℕ, false, List, ◌++◌, map, flat_map, refl, ap, ap₂, Ok, Err, Some, None}
use Rattle.bidi_tree.specs.Node.{Node}
use Rattle.bidi_params.specs.declared.error_code.ErrorCode.TheVariants.{InvalidArgument}
use Rattle.bidi_messages.specs.Verdict.{Verdict, Accepted}
use Rattle.bidi_browser.specs.Occurs.{Item, Happens, Replies}
use Rattle.bidi_remote.specs.Machine.Commands.{Command, command_of, id_of_command}
use Rattle.bidi_remote.specs.Machine.History.{Drop, Heard, NotText, Deed, Dropped, Subscribed}
use Rattle.bidi_remote.specs.Machine.Connections.{Attachment, Shut, is_shut, attachment_of, connections_of}
use Rattle.bidi_remote.specs.Machine.Outcome.{Lost, Error, replied, answered, asked, outcome, turn}
use Rattle.bidi_remote.specs.Machine.Sent.{Text, items, announced, closed, sent_to, action_in, told}
use Rattle.bidi_active.specs.Written.{Written}
use Rattle.bidi_remote.specs.State.EventTexts.{written}
use Rattle.bidi_remote.specs.State.Turns.{announced_by, sent_of_item, sent_for, to_subscriber}
use Rattle.bidi_sessions.proofs.ListLemmas.{flat_map-map, flat_map-same}

-- ---- what a connection hears, by how it stands

pub heard-shut : (past : List Deed) (c : ℕ) (v : Verdict) → attachment_of past c ≡ Shut → turn past (Heard c v) ≡ Err (Lost c)
heard-shut past c v e = rw e refl

pub heard-open : (past : List Deed) (c : ℕ) (v : Verdict) → is_shut (attachment_of past c) ≡ false → turn past (Heard c v) ≡ answered past c v
heard-open past c v e = rw e refl

pub no_text-shut : (past : List Deed) (c : ℕ) → attachment_of past c ≡ Shut → turn past (NotText c) ≡ Err (Lost c)
no_text-shut past c e = rw e refl

pub no_text-open : (past : List Deed) (c : ℕ) → is_shut (attachment_of past c) ≡ false → turn past (NotText c) ≡ Err (Error c None InvalidArgument)
no_text-open past c e = rw e refl

pub drop-shut : (past : List Deed) (c : ℕ) → attachment_of past c ≡ Shut → turn past (Drop c) ≡ Err (Lost c)
drop-shut past c e = rw e refl

pub drop-open : (past : List Deed) (c : ℕ) → is_shut (attachment_of past c) ≡ false → turn past (Drop c) ≡ Ok (Dropped c)
drop-open past c e = rw e refl

-- ---- what a command comes to

-- a tree that asks this, on a connection that stands so
pub asked-is : (past : List Deed) (c : ℕ) (t : Node) (s : Attachment) (x : Command)
    → attachment_of past c ≡ s → command_of t ≡ Some x → answered past c (Accepted t) ≡ replied c (id_of_command t) (outcome past c s x)
asked-is past c t s x stands asks = ap (asked past c (id_of_command t)) asks ∙ ap (λ u. replied c (id_of_command t) (outcome past c u x)) stands

-- ---- what is sent for a turn

announced-told : (past : List Deed) (d : Deed) → to_subscriber past d (map written (announced_by past d)) ≡ announced past d
announced-told past (Subscribed s es scope) =
    flat_map-map (λ w. map (λ c. Text c w.text) (connections_of past s)) written (announced_by past (Subscribed s es scope))
announced-told past d = refl

-- of a command, what the machine tells
pub told-for : (past : List Deed) (c : ℕ) (t : Node) (d : Deed) (ws : List Written) (all : List Item)
    → ws ≡ map written (announced_by past d) → all ≡ items past (action_in (command_of t)) d
    → sent_for past (Some (c, id_of_command t)) d ws all ≡ told past (Heard c (Accepted t)) (Ok d)
told-for past c t d ws all same_announced same_items =
    ap₂ (λ xs ys. xs ++ (ys ++ closed past d)) (ap (to_subscriber past d) same_announced ∙ announced-told past d)
    (flat_map-same _ _ all (λ item. one item) ∙ ap (flat_map (sent_to past c (id_of_command t))) same_items)
  where
    one : (item : Item) → sent_of_item past (Some (c, id_of_command t)) item ≡ sent_to past c (id_of_command t) item
    one (Happens o) = refl
    one (Replies result) = refl

-- The texts that are carried down on a link: events, and the replies to its commands in order, each once. Defined by this project.
use Rattle.std.specs.Prelude.{◌≡◌, ℕ, suc, ◌<◌, ◌≤◌, ◌^◌, List, [], ◌∷◌, slice_get, length, Some}
use Rattle.std.specs.List.{AllByRecursion}
use Rattle.bidi_methods.specs.declared.method.Method.{Method}
use Rattle.bidi_methods.specs.Method.{method_text}
use Rattle.bidi_messages.specs.Reading.{IsMessageText}
use Rattle.bidi_messages.specs.contracts.message.MessageShape.TheImpl.{ghosts}
use Rattle.bidi_remote.specs.Replies.{IsEventText, IsReply}
use Rattle.bidi_ledger.specs.Pairing.{Sending}
use Rattle.bidi_ledger.specs.Link.{Link}
use Rattle.bidi_tree.specs.Number.{IsJsUint}

-- The texts are those of events and of replies to some of these commands, in the order of the commands: those after the first n, and among
-- the first m. A result fits the rule of its command's method.
pub data AreSpoken (commands : List Sending) : ℕ → ℕ → List (List ℕ) → Type 0 where
  nothing : (n m : ℕ) → n ≤ m → AreSpoken commands n m []
  an_event : (n m : ℕ) (s : List ℕ) (ts : List (List ℕ)) → IsEventText s → AreSpoken commands n m ts → AreSpoken commands n m (s ∷ ts)
  a_reply : (n m p : ℕ) (c : Sending) (method : Method) (s : List ℕ) (ts : List (List ℕ))
      → n ≤ p → slice_get commands p ≡ Some c → c.method ≡ method_text method
      → IsReply (suc p) method s → AreSpoken commands (suc p) m ts → AreSpoken commands n m (s ∷ ts)

-- all texts for a link are events, and replies to the commands that were taken up, each once and in order; each reads back as a message
pub record IsSound (v : Link) : Type 0 where
  pub spoken : AreSpoken v.commands 0 v.ups v.texts
  pub read_back : AllByRecursion (IsMessageText ghosts.shape) v.texts
  pub taken : v.ups ≤ length v.commands
  pub ids : IsJsUint (length v.commands)

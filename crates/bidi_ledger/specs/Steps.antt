-- The steps of both ends and the ledger of the code, as contracts see them. Defined by this project.
use Rattle.std.specs.Prelude.{◌≡◌, List, [], ◌∷◌, map, string_bytes, ⊤}
use Rattle.std.specs.List.{AllByRecursion}
use Rattle.bidi_methods.specs.declared.command_data.CommandData.{CommandData}
use Rattle.bidi_methods.specs.declared.event_data.EventData.{EventData}
use Rattle.bidi_methods.specs.contracts.command_data.CommandDataPayloadMethod.TheImpl as asks
use Rattle.bidi_methods.specs.contracts.event_data.EventDataPayloadEventName.TheImpl as told
use Rattle.bidi_methods.specs.contracts.result_data.ResultDataPayloadMethod.TheImpl as results
use Rattle.bidi_params.specs.ErrorCode.{error_code_text}
use Rattle.bidi_methods.specs.EventName.{event_name_text}
use Rattle.bidi_methods.specs.Method.{method_text}
use Rattle.bidi_sessions.specs.Step as step
use Rattle.bidi_remote.specs.Machine.History as remote
use Rattle.bidi_sessions.specs.View.{page_of}
use Rattle.bidi_remote.specs.Machine.History.{Input}
use Rattle.bidi_ledger.specs.declared.pair_step.PairStep.{PairStep}
use Rattle.bidi_ledger.specs.declared.pair_step.PairStep.TheVariants as in_hand
use Rattle.bidi_ledger.specs.declared.ledger.Ledger as declared_ledger
use Rattle.bidi_ledger.specs.declared.ledger.Account as declared_account
use Rattle.bidi_ledger.specs.declared.ledger.Entry as declared_entry
use Rattle.bidi_ledger.specs.declared.ledger.Fate as declared_fate
use Rattle.bidi_ledger.specs.declared.ledger.Fate.TheVariants as fate_in_hand
use Rattle.bidi_ledger.specs.Pairing.{Sending}
use Rattle.bidi_ledger.specs.Link.{Fate, Answered, Refused, Lost, Waiting, Entry, Received, Account}
use Rattle.bidi_ledger.specs.Ledger.{PairInput, Opens, Sends, Up, Down, Cuts, Direct}

-- ---- steps

-- a command of the code, by its method and its params
abbrev pub sending_of : CommandData → Sending
sending_of d = record { method = method_text (asks.ghosts.payload.kind d); params = asks.ghosts.payload.tree_of d }

-- this input is that of a step which goes to the remote end unchanged
abbrev pub IsDirect : step.Step → PairInput → Type 0
IsDirect x p = (i : Input) × remote.IsHeardAs x i × (p ≡ Direct i)

-- this input is that of the step of the code
abbrev pub IsHeardAs : PairStep → PairInput → Type 0
IsHeardAs (in_hand.Open l resource) p = p ≡ Opens l.value (string_bytes resource)
IsHeardAs (in_hand.Send l d) p = p ≡ Sends l.value (sending_of d)
IsHeardAs (in_hand.Up l) p = p ≡ Up l.value
IsHeardAs (in_hand.Down l) p = p ≡ Down l.value
IsHeardAs (in_hand.Cut l) p = p ≡ Cuts l.value
IsHeardAs (in_hand.At n) p = IsDirect (step.At n.value) p
IsHeardAs (in_hand.Page page) p = IsDirect (step.Page (page_of page)) p

-- each input is that of the step at the same place
abbrev pub AreHeardAs : List PairStep → List PairInput → Type 0
AreHeardAs [] [] = ⊤
AreHeardAs [] (p ∷ inputs) = ⊥
AreHeardAs (x ∷ steps) [] = ⊥
AreHeardAs (x ∷ steps) (p ∷ inputs) = IsHeardAs x p × AreHeardAs steps inputs

-- if the step sends a command, the command is valid
abbrev pub IsWell : PairStep → Type 0
IsWell (in_hand.Send l d) = asks.ghosts.payload.well d
IsWell x = ⊤

-- each command that these steps send is valid
abbrev pub AreWell : List PairStep → Type 0
AreWell steps = AllByRecursion IsWell steps

-- ---- the ledger

-- a fate of the code
abbrev pub fate_seen : declared_fate.Fate → Fate
fate_seen (fate_in_hand.Answered result) = Answered (results.ghosts.payload.tree_of result)
fate_seen (fate_in_hand.Refused code) = Refused (error_code_text code)
fate_seen fate_in_hand.Lost = Lost
fate_seen fate_in_hand.Waiting = Waiting

-- an entry of the code
abbrev pub entry_seen : declared_entry.Entry → Entry
entry_seen e = record { id = e.id.value; method = method_text e.method; fate = fate_seen e.fate }

-- an event of the code, by its method and its params
abbrev pub event_seen : EventData → Received
event_seen d = record { method = event_name_text (told.ghosts.payload.kind d); params = told.ghosts.payload.tree_of d }

-- an account of the code
abbrev pub account_seen : declared_account.Account → Account
account_seen p = record { link = p.link.value; entries = map entry_seen p.commands.items; events = map event_seen p.events.items; not_sent = p.unsent }

-- the accounts of a ledger of the code
abbrev pub accounts_of : declared_ledger.Ledger → List Account
accounts_of l = map account_seen l.accounts.items

-- ---- the results and events of a ledger are valid

-- the result of an answered command is valid
abbrev pub FateIsWell : declared_fate.Fate → Type 0
FateIsWell (fate_in_hand.Answered result) = results.ghosts.payload.well result
FateIsWell fate = ⊤

-- each result in these entries is valid
abbrev pub EntriesAreWell : List declared_entry.Entry → Type 0
EntriesAreWell entries = AllByRecursion (λ e. FateIsWell e.fate) entries

-- each of these events is valid
abbrev pub EventsAreWell : List EventData → Type 0
EventsAreWell events = AllByRecursion told.ghosts.payload.well events

-- each result and each event of the account is valid
abbrev pub AccountIsWell : declared_account.Account → Type 0
AccountIsWell p = EntriesAreWell p.commands.items × EventsAreWell p.events.items

-- each result and each event of the ledger is valid
abbrev pub LedgerIsWell : declared_ledger.Ledger → Type 0
LedgerIsWell l = AllByRecursion AccountIsWell l.accounts.items

-- Worked examples of the ledger.
use Prim.Native.String.{String}
use Rattle.std.specs.Prelude.{◌≡◌, refl, ℕ, List, [], ◌∷◌, codes, unwrap_or}
use Rattle.bidi_tree.specs.Node.{Node, null}
use Rattle.bidi_tree.specs.Text.{tree_of}
use Rattle.bidi_handles.proofs.Spelling.{said}
use Rattle.machine_facts.proofs.Rows.{machine_on_literals}
use Rattle.bidi_ledger.specs.Link.{Fate, Answered, Refused, Lost, Waiting, Entry, Received, Account}
use Rattle.bidi_ledger.specs.Ledger.{PairInput, Opens, Sends, Up, Down, Cuts, ledger}

-- the tree of a JSON text
abbrev pub tree : String → Node
tree s = unwrap_or (tree_of (said s)) null

abbrev pub open_link : ℕ → PairInput
open_link l = Opens l (codes "/session")

abbrev pub send : ℕ → String → String → PairInput
send l method params = Sends l (record { method = codes method; params = tree params })

-- an entry, an event and an account of the ledger
abbrev pub entry : ℕ → String → Fate → Entry
entry id method fate = record { id = id; method = codes method; fate = fate }

abbrev pub event : String → String → Received
event method params = record { method = codes method; params = tree params }

abbrev pub account : ℕ → List Entry → List Received → ℕ → Account
account l entries events not_sent = record { link = l; entries = entries; events = events; not_sent = not_sent }

pub answered_command_and_one_that_a_cut_lost :
    ledger (open_link 1 ∷ open_link 2 ∷ send 1 "session.status" "{}" ∷ send 2 "session.status" "{}" ∷ Up 1 ∷ Up 2 ∷ Down 1 ∷ Cuts 2 ∷ [])
    ≡ account 1 (entry 1 "session.status" (Answered (tree "{'message':'ready','ready':true}")) ∷ []) [] 0
    ∷ account 2 (entry 1 "session.status" Lost ∷ []) [] 0 ∷ []
unfolding machine_on_literals
answered_command_and_one_that_a_cut_lost = refl

pub refused_command :
    ledger (open_link 1 ∷ send 1 "session.end" "{}" ∷ Up 1 ∷ Down 1 ∷ [])
    ≡ account 1 (entry 1 "session.end" (Refused (codes "invalid session id")) ∷ []) [] 0 ∷ []
unfolding machine_on_literals
refused_command = refl

-- the announcement is carried down before the reply, which waits
pub event_before_a_reply_that_waits :
    ledger (open_link 1 ∷ send 1 "session.new" "{'capabilities':{}}"
    ∷ Up 1 ∷ send 1 "session.subscribe" "{'events':['browsingContext.contextCreated']}" ∷ Up 1 ∷ Down 1 ∷ Down 1 ∷ [])
    ≡ account 1
    (entry 1 "session.new" (Answered
    (tree "{'capabilities':{'acceptInsecureCerts':false,'browserName':'memory-browser','browserVersion':'1.0','platformName':'none','setWindowRect':false,'userAgent':'memory-browser/1.0'},'sessionId':'$s1'}"))
    ∷ entry 2 "session.subscribe" Waiting ∷ [])
    (event "browsingContext.contextCreated"
    "{'children':null,'clientWindow':'$w1','context':'$c1','originalOpener':null,'parent':null,'url':'about:blank','userContext':'default'}" ∷ []) 0 ∷ []
unfolding machine_on_literals
event_before_a_reply_that_waits = refl

pub text_on_a_closed_connection_leaves_its_command_waiting :
    ledger (open_link 1 ∷ send 1 "session.new" "{'capabilities':{}}"
    ∷ send 1 "session.end" "{}" ∷ send 1 "session.status" "{}" ∷ Up 1 ∷ Up 1 ∷ Up 1 ∷ Down 1 ∷ Down 1 ∷ Down 1 ∷ [])
    ≡ account 1
    (entry 1 "session.new" (Answered
    (tree "{'capabilities':{'acceptInsecureCerts':false,'browserName':'memory-browser','browserVersion':'1.0','platformName':'none','setWindowRect':false,'userAgent':'memory-browser/1.0'},'sessionId':'$s1'}"))
    ∷ entry 2 "session.end" (Answered (tree "{}"))
    ∷ entry 3 "session.status" Waiting ∷ []) [] 0 ∷ []
unfolding machine_on_literals
text_on_a_closed_connection_leaves_its_command_waiting = refl

-- nothing is sent, and nothing counts as unsent
pub send_after_a_cut_does_nothing :
    ledger (open_link 1 ∷ Cuts 1 ∷ send 1 "session.status" "{}" ∷ Up 1 ∷ []) ≡ account 1 [] [] 0 ∷ []
unfolding machine_on_literals
send_after_a_cut_does_nothing = refl

pub number_that_became_a_link_makes_no_other :
    ledger (open_link 1 ∷ Cuts 1 ∷ open_link 1 ∷ send 1 "session.status" "{}" ∷ []) ≡ account 1 [] [] 0 ∷ []
unfolding machine_on_literals
number_that_became_a_link_makes_no_other = refl

pub denied_number_may_be_opened_again :
    ledger (Opens 1 (codes "/x") ∷ send 1 "session.status" "{}" ∷ open_link 1 ∷ []) ≡ account 1 [] [] 0 ∷ []
unfolding machine_on_literals
denied_number_may_be_opened_again = refl

pub denied_number_is_no_link : ledger (Opens 1 (codes "/x") ∷ []) ≡ []
unfolding machine_on_literals
denied_number_is_no_link = refl

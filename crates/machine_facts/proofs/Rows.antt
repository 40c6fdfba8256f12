-- How the worked examples are written: what a remote end sends at a step, after the steps before it in order.
use Prim.Native.String.{String}
use Rattle.std.specs.Prelude.{ℕ, List, [], ◌∷◌, ◌++◌, map, reverse, codes, decimal, ⊤}
use Rattle.serde_json.proofs.OnLiterals.{serde_json_on_literals}
use Rattle.bidi_contexts.proofs.OnLiterals.{browser_on_literals}
use Rattle.bidi_handles.proofs.Spelling.{said}
use Rattle.bidi_scripts.specs.declared.log_entry.Level.{Level}
use Rattle.bidi_sessions.specs.Step.{Step, Open, Text, Page, Frame, Unframe, Log, TableRow}
use Rattle.bidi_remote.specs.Machine.Sent as sent
use Rattle.bidi_remote.specs.Machine.Sent.{Sent, out}
use Rattle.machine_facts.proofs.Hearing.{heard}

-- what a fact unfolds to compute the machine on literals
unfoldable pub machine_on_literals : ⊤
unfolding browser_on_literals serde_json_on_literals
machine_on_literals = tt

-- what is sent at a step, after these steps
abbrev pub after : List Step → Step → List Sent
after steps step = out (reverse (map heard steps)) (heard step)

-- ---- steps

abbrev pub ask_on : ℕ → String → Step
ask_on c s = Text c (said s)

abbrev pub ask : String → Step
ask = ask_on 1

abbrev pub frame : String → String → Step
frame c url = Page (Frame (said c) (codes url))

abbrev pub unframe : String → Step
unframe c = Page (Unframe (said c))

abbrev pub log : String → Level → String → Step
log c level s = Page (Log (said c) level (codes s))

abbrev pub value : String → Step
value s = Page (TableRow (said s))

abbrev pub open_session : Step
open_session = Open 1 (codes "/session")

abbrev pub new_session : Step
new_session = ask "{'id':0,'method':'session.new','params':{'capabilities':{}}}"

-- connection 1 has made session 1
abbrev pub begun : List Step
begun = open_session ∷ new_session ∷ []

-- ---- what is sent

-- the response to a command
abbrev pub success : ℕ → ℕ → String → Sent
success c id result = sent.Text c (said "{'id':" ++ decimal id ++ said ",'result':" ++ said result ++ said ",'type':'success'}")

abbrev pub refusal : ℕ → ℕ → String → Sent
refusal c id code =
    sent.Text c (said "{'error':'" ++ codes code ++ said "','id':" ++ decimal id ++ said ",'message':'" ++ codes code ++ said "','type':'error'}")

abbrev pub event : ℕ → String → String → Sent
event c method params = sent.Text c (said "{'method':'" ++ codes method ++ said "','params':" ++ said params ++ said ",'type':'event'}")

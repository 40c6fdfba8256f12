-- What became of a step, as the code says it.
use Rattle.std.specs.Prelude.{◌≡◌, ℕ, List, Result, Ok, Err, Vec, map}
use Rattle.std.specs.declared.alloc.Global.{Global}
use Rattle.bidi_sessions.specs.declared.step.Sent as declared
use Rattle.bidi_remote.specs.declared.remote_end.RemoteFault.{RemoteFault}
use Rattle.bidi_remote.specs.Machine.Sent.{Sent}
use Rattle.bidi_sessions.specs.View.{sent_of}
use Rattle.bidi_scripted.specs.declared.scripted_end.Taken.{Taken}
use Rattle.bidi_scripted.specs.declared.scripted_end.Taken.TheVariants as code

-- what became of a step that was handed on, if the remote end gives this for it
abbrev pub handed : Result (Vec declared.Sent Global) RemoteFault → Result Taken RemoteFault
handed (Ok sent) = Ok (code.HandedOn sent)
handed (Err fault) = Err fault

-- The remote end sends this.
abbrev pub IsOfMachine : List Sent → Taken → Type 0
IsOfMachine sent (code.HandedOn all) = map sent_of all.items ≡ sent
IsOfMachine sent t = ⊥

-- This is sent in place of what the remote end would send.
abbrev pub IsOfTest : List Sent → Taken → Type 0
IsOfTest sent (code.Answered all) = map sent_of all.items ≡ sent
IsOfTest sent t = ⊥

-- The command is held, and got this number.
abbrev pub IsHeldAs : ℕ → Taken → Type 0
IsHeldAs number (code.Held n) = n ≡ number
IsHeldAs number t = ⊥

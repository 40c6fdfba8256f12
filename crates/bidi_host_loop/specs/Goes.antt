-- What the calls of a host do to it. Defined by this project.
use Rattle.std.specs.Prelude.{◌≡◌, ℕ, List, ◌++◌, Result, OnOk, map, string_bytes}
use Rattle.bidi_scripted.specs.declared.scripted_end.ScriptedEnd.{ScriptedEnd}
use Rattle.bidi_host_loop.specs.Deeds.{Deed}
use Rattle.bidi_host_loop.specs.Runs.{Runs, opening_lines}
use Rattle.bidi_host_loop.specs.declared.hosting.Hosted.{Hosted}

-- all that came and was done, in order
abbrev pub deeds_in : Hosted → List Deed
deeds_in host = host.edge.account.deeds

-- the lines of the page
abbrev pub lines_of : Hosted → List (List ℕ)
lines_of host = map string_bytes host.page.items

-- the lines that the host plays for each new browser
abbrev pub opening_of : Hosted → List (List ℕ)
opening_of host = opening_lines host.manners.is_lenient (lines_of host)

-- the host has come here from this end and these deeds
abbrev pub HasRun : ScriptedEnd → List Deed → Hosted → Type 0
HasRun first before host = Runs host.manners.is_lenient (opening_of host) first before host.host.end (deeds_in host)

-- after an Ok, the host has gone on from wherever it has come
abbrev pub GoesOn : {A E : Type 0} → Hosted → Hosted → Result A E → Type 0
GoesOn old new result = (first : ScriptedEnd) (before : List Deed) → HasRun first before old → OnOk result (HasRun first before new)

-- the host had come to its end before these last deeds, which came just now
pub record Owes (first : ScriptedEnd) (before last : List Deed) (host : Hosted) : Type 0 where
  pub done : List Deed
  pub runs : Runs host.manners.is_lenient (opening_of host) first before host.host.end done
  pub came : deeds_in host ≡ done ++ last

-- after an Ok, the host has met what came just now
abbrev pub Meets : {A E : Type 0} → List Deed → Hosted → Hosted → Result A E → Type 0
Meets last old new result = (first : ScriptedEnd) (before : List Deed) → Owes first before last old → OnOk result (HasRun first before new)

-- the manners and the lines of the page are the same
abbrev pub Keeps : Hosted → Hosted → Type 0
Keeps old new = (new.manners.is_lenient ≡ old.manners.is_lenient) × (new.page ≡ old.page)

-- the manners, the page and the end are the same, and these deeds were done
abbrev pub Does : List Deed → Hosted → Hosted → Type 0
Does deeds old new = Keeps old new × (new.host.end ≡ old.host.end) × (deeds_in new ≡ deeds_in old ++ deeds)

-- the manners, the page, the end and the deeds are the same
abbrev pub Rests : Hosted → Hosted → Type 0
Rests old new = Keeps old new × (new.host.end ≡ old.host.end) × (deeds_in new ≡ deeds_in old)

-- The host has gone on by such a step.
pub record By (step : ScriptedEnd → ScriptedEnd → List Deed → Type 0) (old new : Hosted) : Type 0 where
  pub keeps : Keeps old new
  pub more : List Deed
  pub goes : step old.host.end new.host.end more
  pub adds : deeds_in new ≡ deeds_in old ++ more

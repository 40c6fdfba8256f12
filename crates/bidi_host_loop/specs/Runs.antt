-- How a host comes from one state to another, and what it does on the way. Defined by this project.
use Rattle.std.specs.Prelude.{◌≡◌, ℕ, Bool, true, false, List, [], ◌∷◌, ◌++◌, codes, string_bytes}
use Rattle.bidi_sessions.specs.Step.{Drop, NotText, Open, Text}
use Rattle.bidi_remote.specs.Machine.History.{Input}
use Rattle.bidi_remote.specs.Machine.Connections.{is_open}
use Rattle.bidi_remote.specs.Machine.Outcome.{deeds}
use Rattle.bidi_remote.specs.State.Stands.{StandsFor}
use Rattle.bidi_scripted.specs.Script.{no_script}
use Rattle.bidi_scripted.specs.View.{script_of}
use Rattle.bidi_scripted.specs.declared.scripted_end.ScriptedEnd.{ScriptedEnd}
use Rattle.bidi_script_lines.specs.Outcomes.{outcome_of}
use Rattle.bidi_script_lines.specs.ScriptLines.{Line, Plain, script_line_of}
use Rattle.bidi_script_lines.specs.ScriptPlayers.{HasPlayedScript}
use Rattle.bidi_recorder.specs.Hosting.{IsSaidAs, IsTaken, SaysNoPageLine, Stays}
use Rattle.bidi_recorder.specs.PageLines.{is_said_by_pages}
use Rattle.bidi_recorder.specs.declared.host.Recorded.{Recorded}
use Rattle.bidi_host_loop.specs.Deeds as deed
use Rattle.bidi_host_loop.specs.Deeds.{Deed, going_out}

-- the end is new: it has played no lines, and its script is empty
abbrev pub IsNew : ScriptedEnd → Type 0
IsNew end = HasPlayedScript end [] [] × (script_of end.script ≡ no_script)

-- what is done for a line that this end took: it is written to the record, and then what it brings about is done, in order
abbrev pub block : ScriptedEnd → Recorded → List Deed
block end t = deed.Wrote (string_bytes t.line) ∷ going_out (script_of end.script) (outcome_of t.outcome)

-- The line is taken, and this is done for it.
abbrev pub Takes : Line → ScriptedEnd → ScriptedEnd → List Deed → Type 0
Takes l old new more = (t : Recorded) × IsTaken l old new t × (more ≡ block new t)

-- The text of a client is taken. A lenient host may ease it first.
abbrev pub Hears : Bool → ℕ → List ℕ → ScriptedEnd → ScriptedEnd → List Deed → Type 0
Hears is_lenient conn text old new more = (eased : List ℕ) × (said : List ℕ) × (is_lenient ≡ false → eased ≡ text) × IsSaidAs conn eased said
    × Takes (Plain (Text conn said)) old new more

-- the connection is open, or it is not
abbrev pub HasOpen : Bool → ℕ → ScriptedEnd → Type 0
HasOpen truth conn end = (h : List Input) → StandsFor end.end h → is_open (deeds h) conn ≡ truth

-- the command by which a host ends the session of a connection that is gone
abbrev pub session_end : List ℕ
session_end = codes "{\"id\":0,\"method\":\"session.end\",\"params\":{}}"

-- A connection is gone: the remote end is told if the connection is still open there.
pub data Loses (conn : ℕ) : ScriptedEnd → ScriptedEnd → List Deed → Type 0 where
  -- it is closed
  is_closed : (end : ScriptedEnd) → HasOpen false conn end → Loses conn end end []
  -- it is open, and dropped
  drops : (old new : ScriptedEnd) (more : List Deed) → HasOpen true conn old → Takes (Plain (Drop conn)) old new more → Loses conn old new more
  -- before that its session is ended
  ends : (old mid new : ScriptedEnd) (more rest : List Deed) → Hears false conn session_end old mid more → Loses conn mid new rest → Loses conn old new (more ++ rest)

-- A line that a page may say is taken.
abbrev pub TakesPageLine : List ℕ → ScriptedEnd → ScriptedEnd → List Deed → Type 0
TakesPageLine text old new more = (l : Line) × (is_said_by_pages l ≡ true) × (text ≡ script_line_of l) × Takes l old new more

-- These lines of a page are taken, one after another.
pub data Plays : List (List ℕ) → ScriptedEnd → ScriptedEnd → List Deed → Type 0 where
  no_lines : (end : ScriptedEnd) → Plays [] end end []
  one_more : (text : List ℕ) (lines : List (List ℕ)) (old mid new : ScriptedEnd) (done more : List Deed) → TakesPageLine text old mid done
      → Plays lines mid new more → Plays (text ∷ lines) old new (done ++ more)

-- the line by which a lenient host makes all names known
abbrev pub names_first : Bool → List (List ℕ)
names_first true = codes "names *" ∷ []
names_first false = []

-- the lines that a host, lenient or not, plays for each new browser: that line, and then those of the page
abbrev pub opening_lines : Bool → List (List ℕ) → List (List ℕ)
opening_lines is_lenient page = names_first is_lenient ++ page

-- A page, or standard input, says a text to a host that plays these lines for each new browser.
pub data Says (opening : List (List ℕ)) (text : List ℕ) : ScriptedEnd → ScriptedEnd → List Deed → Type 0 where
  -- a line of a page is taken
  a_line : (old new : ScriptedEnd) (more : List Deed) → TakesPageLine text old new more → Says opening text old new more
  -- any other text does nothing
  no_line : (old new : ScriptedEnd) → SaysNoPageLine text → Stays old new → Says opening text old new []
  -- `end` ends the host
  the_end : (end : ScriptedEnd) → text ≡ codes "end" → Says opening text end end []
  -- `reset` makes a new browser, continues the record in the next file, and plays the lines for it
  a_reset : (old fresh new : ScriptedEnd) (more : List Deed) → text ≡ codes "reset" → IsNew fresh → Plays opening fresh new more
      → Says opening text old new (deed.Restarted ∷ more)

-- A handshake is answered as the remote end answers the connection with this number.
pub data Admits (place conn : ℕ) : ScriptedEnd → ScriptedEnd → List Deed → Type 0 where
  -- it is open
  is_admitted : (end : ScriptedEnd) → HasOpen true conn end → Admits place conn end end (deed.Admitted place conn ∷ [])
  -- it is not
  is_turned_away : (end : ScriptedEnd) → HasOpen false conn end → Admits place conn end end (deed.Denied place ∷ [])

-- The handshake of a page is answered.
pub data AdmitsPage (place : ℕ) : ScriptedEnd → ScriptedEnd → List Deed → Type 0 where
  -- it opens its connection
  is_page : (end : ScriptedEnd) → AdmitsPage place end end (deed.AdmittedPage place ∷ [])
  -- there are too many
  is_full : (end : ScriptedEnd) → AdmitsPage place end end (deed.Denied place ∷ [])

-- A handshake asks for a resource.
pub data Asks (place : ℕ) (resource : List ℕ) : ScriptedEnd → ScriptedEnd → List Deed → Type 0 where
  -- that of a page is no matter of the remote end
  a_page : (old new : ScriptedEnd) (more : List Deed) → resource ≡ codes "/page" → AdmitsPage place old new more → Asks place resource old new more
  -- a test has it refused
  is_refused : (end : ScriptedEnd) (status : ℕ) → Asks place resource end end (deed.Refused place status ∷ [])
  -- the remote end is asked to open a connection
  opens : (conn : ℕ) (old mid new : ScriptedEnd) (more rest : List Deed) → Takes (Plain (Open conn resource)) old mid more
      → Admits place conn mid new rest → Asks place resource old new (more ++ rest)

-- A command is heard on a connection of the host's own, which is dropped then.
pub data Commands (is_lenient : Bool) (conn : ℕ) : ScriptedEnd → ScriptedEnd → List Deed → Type 0 where
  heard_and_dropped : (command : List ℕ) (old mid new : ScriptedEnd) (more rest : List Deed) → Hears is_lenient conn command old mid more
      → Loses conn mid new rest → Commands is_lenient conn old new (more ++ rest)

-- A call is carried out, by a command on a connection of the host's own.
pub data Calls (is_lenient : Bool) : ScriptedEnd → ScriptedEnd → List Deed → Type 0 where
  -- it asks for no command
  no_command : (end : ScriptedEnd) → Calls is_lenient end end []
  -- the connection is denied
  is_denied : (conn : ℕ) (resource : List ℕ) (old new : ScriptedEnd) (more : List Deed) → Takes (Plain (Open conn resource)) old new more
      → Calls is_lenient old new more
  -- the connection is opened for the command
  is_made : (conn : ℕ) (resource : List ℕ) (old mid new : ScriptedEnd) (more rest : List Deed) → Takes (Plain (Open conn resource)) old mid more
      → Commands is_lenient conn mid new rest → Calls is_lenient old new (more ++ rest)

-- A host, lenient or not, that plays these lines for each new browser, whose end was the first, with some deeds done, comes to another end, with more
-- deeds done.
pub data Runs (is_lenient : Bool) (opening : List (List ℕ)) (first : ScriptedEnd) (before : List Deed) : ScriptedEnd → List Deed → Type 0 where
  -- nothing has happened
  stays : Runs is_lenient opening first before first before
  -- the lines are played for the first browser
  plays : (old new : ScriptedEnd) (done more : List Deed) → Runs is_lenient opening first before old done → Plays opening old new more
      → Runs is_lenient opening first before new (done ++ more)
  -- a text of a client comes, and is taken
  hears : (old new : ScriptedEnd) (done more : List Deed) (conn : ℕ) (text : List ℕ) → Runs is_lenient opening first before old done
      → Hears is_lenient conn text old new more → Runs is_lenient opening first before new (done ++ deed.Heard conn text ∷ more)
  -- so is a binary message
  hears_bytes : (old new : ScriptedEnd) (done more : List Deed) (conn : ℕ) → Runs is_lenient opening first before old done
      → Takes (Plain (NotText conn)) old new more → Runs is_lenient opening first before new (done ++ deed.HeardBytes conn ∷ more)
  -- a connection ends
  loses : (old new : ScriptedEnd) (done more : List Deed) (conn : ℕ) → Runs is_lenient opening first before old done
      → Loses conn old new more → Runs is_lenient opening first before new (done ++ deed.Gone conn ∷ more)
  -- a page says a text, and is answered after all that this brings about
  says : (old new : ScriptedEnd) (done more : List Deed) (place : ℕ) (text answer : List ℕ) → Runs is_lenient opening first before old done
      → Says opening text old new more → Runs is_lenient opening first before new (done ++ deed.Said place text ∷ (more ++ deed.Answered place answer ∷ []))
  -- its binary messages are answered, and do nothing
  says_bytes : (end : ScriptedEnd) (done : List Deed) (place : ℕ) (answer : List ℕ) → Runs is_lenient opening first before end done
      → Runs is_lenient opening first before end (done ++ deed.SaidBytes place ∷ deed.Answered place answer ∷ [])
  -- a line of standard input is answered like the text of a page
  enters : (old new : ScriptedEnd) (done more : List Deed) (text answer : List ℕ) → Runs is_lenient opening first before old done
      → Says opening text old new more → Runs is_lenient opening first before new (done ++ deed.Entered text ∷ (more ++ deed.AnsweredInput answer ∷ []))
  -- bytes that are no line are answered, and do nothing
  enters_bytes : (end : ScriptedEnd) (done : List Deed) (answer : List ℕ) → Runs is_lenient opening first before end done
      → Runs is_lenient opening first before end (done ++ deed.EnteredBytes ∷ deed.AnsweredInput answer ∷ [])
  -- a handshake comes
  asks : (old new : ScriptedEnd) (done more : List Deed) (place : ℕ) (resource : List ℕ) → Runs is_lenient opening first before old done
      → Asks place resource old new more → Runs is_lenient opening first before new (done ++ deed.Asked place resource ∷ more)
  -- a call comes, and is replied to after all that it brings about
  calls : (old new : ScriptedEnd) (done more : List Deed) (place : ℕ) → Runs is_lenient opening first before old done
      → Calls is_lenient old new more → Runs is_lenient opening first before new (done ++ deed.Called place ∷ (more ++ deed.Replied place ∷ []))

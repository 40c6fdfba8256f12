-- The output of a run for its input, its status, and the line for a fault. Defined by this project.
use Rattle.std.specs.Prelude.{◌≡◌, ℕ, ◌+◌, ◌⊎◌, ◌&&◌, List, [], ◌++◌, Option, Some, None, Bool, false, codes, decimal, length, nat_lt, if◌then◌else◌}
use Rattle.std.specs.Io.KnownBytes.{Appends}
use Rattle.bidi_lines.specs.Devices.{AppendsBeginning}
use Rattle.bidi_lines.specs.Stops as stops
use Rattle.bidi_lines.specs.Stops.{StopsAt, StopsWhole}
use Rattle.bidi_lines.specs.declared.answering.LinesFault.{LinesFault}
use Rattle.bidi_lines.specs.declared.answering.LinesFault.TheVariants as lines
use Rattle.bidi_command_line.specs.declared.run.StreamRun.{StreamRun}
use Rattle.bidi_command_line.specs.declared.run.StreamRun.TheVariants as asked
use Rattle.bidi_command_line.specs.declared.run.BothOptions.{BothOptions}
use Rattle.bidi_show.specs.Listings.{ListsAll, listing_run}
use Rattle.bidi_show.specs.declared.showing.Listing.TheVariants.{All, RefusedAlone}
use Rattle.bidi_why.specs.Summary.{Entry}
use Rattle.bidi_why.specs.Telling.{TellsAll, TellsCounted, TellsLines, report_run}
use Rattle.bidi_why.specs.Conversing.{CountsConversation, StopsConversation, TellsConversation}
use Rattle.bidi_remarks.specs.declared.texts.Form.{Form}
use Rattle.bidi_remarks.specs.declared.texts.Form.TheVariants.{Words, Json}
use Rattle.bidi_play.specs.Plays.{PlaysAll, lines_fault, play_run}
use Rattle.bidi_play.specs.declared.playing.PlayFault.TheVariants as play
use Rattle.bidi_script_lines.specs.ScriptedPlays.{ScriptedPlaysAll, script_run}
use Rattle.bidi_reduce.specs.Reduces.{ReducesAll, reduce_run}
use Rattle.bidi_run.specs.ScriptReduces.{ReducesScript, reduce_script_run}
use Rattle.bidi_pair_lines.specs.Pairs.{PairsAll, pair_run}
use Rattle.bidi_serve.specs.declared.listening.ServeFault.TheVariants as serve
use Rattle.bidi_recorder.specs.declared.fault.HostingFault.TheVariants as host
use Rattle.bidi_run.specs.declared.faults.RunFault.{RunFault}
use Rattle.bidi_run.specs.declared.faults.RunFault.TheVariants.{Play, Pair, Listing, Serve, Host}

-- a run with this status has written a summary of the refused lines: a check with `--why` does so if there are any
abbrev pub sums_up : StreamRun → ℕ → Bool
sums_up (asked.Why o) status = nat_lt 0 status
sums_up (asked.Both o) status = o.is_why && nat_lt 0 status
sums_up run status = false

-- the form in which a check says why: JSON or words
abbrev pub form_of : Bool → Form
form_of is_json = if is_json then Json else Words

-- the form in which a check of a conversation says why, or None if it does not
abbrev pub both_form : BothOptions → Option Form
both_form o = if o.is_why then Some (form_of o.is_json) else None

-- A check with `--why` wrote its report of what it read, and the fact holds of how many lines it read and of how they are counted. No other run counts.
abbrev pub Counts : StreamRun → (ℕ → List Entry → Type 0) → List ℕ → List ℕ → Type 0
Counts (asked.Why o) P read wrote = TellsCounted (form_of o.is_json) o.side o.profile_only P read wrote
Counts (asked.Both o) P read wrote = CountsConversation (both_form o) o.profile_only P read wrote
Counts run P read wrote = ⊥

-- A run without a fault has worked on all of its input. Its status is 0, or 1 if a check found a line to refuse or a command without a reply.
abbrev pub Completes : StreamRun → ℕ → List ℕ → List ℕ → Type 0
Completes asked.Play status read wrote = (status ≡ 0) × PlaysAll read wrote
Completes asked.ScriptedPlay status read wrote = (status ≡ 0) × ScriptedPlaysAll read wrote
Completes asked.Pair status read wrote = (status ≡ 0) × PairsAll read wrote
Completes (asked.Reduce session) status read wrote = (status ≡ 0) × ReducesAll session read wrote
Completes (asked.ScriptedReduce session) status read wrote = (status ≡ 0) × ReducesScript session read wrote
Completes (asked.Show side) status read wrote = (status ≡ 0) × ListsAll All side read wrote
Completes (asked.Check side) status read wrote = (status ≡ (if nat_lt 0 (length wrote) then 1 else 0)) × ListsAll RefusedAlone side read wrote
Completes (asked.Why o) status read wrote = (status ≡ (if nat_lt 0 (length wrote) then 1 else 0)) × TellsAll (form_of o.is_json) o.side o.profile_only read wrote
Completes (asked.Both o) status read wrote = (some : Bool) × (status ≡ (if some then 1 else 0)) × TellsConversation (both_form o) o.profile_only some read wrote

-- nothing can be served or hosted over streams only

-- a run that met a fault met one of its own kind, which says what was read and written before it
abbrev pub Stops : StreamRun → RunFault → Bool → List ℕ → List ℕ → Type 0
Stops asked.Play (Play fault) at_end read wrote = StopsAt play_run (lines_fault fault) at_end read wrote
Stops asked.ScriptedPlay (Play fault) at_end read wrote = StopsAt script_run (lines_fault fault) at_end read wrote
Stops asked.Pair (Pair fault) at_end read wrote = StopsWhole pair_run PairsAll fault at_end read wrote
Stops (asked.Reduce session) (Play fault) at_end read wrote = StopsWhole reduce_run (ReducesAll session) (lines_fault fault) at_end read wrote
Stops (asked.ScriptedReduce session) (Play fault) at_end read wrote =
    StopsWhole reduce_script_run (ReducesScript session) (lines_fault fault) at_end read wrote
Stops (asked.Show side) (Listing fault) at_end read wrote = StopsAt (listing_run All side) fault at_end read wrote
Stops (asked.Check side) (Listing fault) at_end read wrote = StopsAt (listing_run RefusedAlone side) fault at_end read wrote
Stops (asked.Why o) (Listing fault) at_end read wrote = StopsAt (report_run (TellsLines (form_of o.is_json) o.side o.profile_only)) fault at_end read wrote
Stops (asked.Both o) (Listing fault) at_end read wrote = StopsConversation (both_form o) o.profile_only fault at_end read wrote
Stops run fault at_end read wrote = ⊥

-- the number of failed reads of the source: 1 if the fault is that of a read, and otherwise 0
abbrev pub failed_reads : RunFault → ℕ
failed_reads (Play fault) = stops.failed_reads (lines_fault fault)
failed_reads (Pair fault) = stops.failed_reads fault
failed_reads (Listing fault) = stops.failed_reads fault
failed_reads (Serve fault) = 0
failed_reads (Host fault) = 0

-- the number of failed writes of the sink: 1 if the fault is that of a write, and otherwise 0
abbrev pub failed_writes : RunFault → ℕ
failed_writes (Play fault) = stops.failed_writes (lines_fault fault)
failed_writes (Pair fault) = stops.failed_writes fault
failed_writes (Listing fault) = stops.failed_writes fault
failed_writes (Serve fault) = 0
failed_writes (Host fault) = 0

-- the status of a program that this fault ends: 2 for a bad line, and 3 otherwise
abbrev pub status_of : RunFault → ℕ
status_of (Play (play.BadLine n)) = 2
status_of (Pair (lines.BadLine n)) = 2
status_of (Listing (lines.BadLine n)) = 2
status_of (Host (host.BadLine n)) = 2
status_of fault = 3

-- the line for a fault of a run over lines, with its line feed; for a bad line, these words come after its number
abbrev pub fault_line : List ℕ → LinesFault → List ℕ
fault_line words lines.Read = codes "bidi: input cannot be read\n"
fault_line words lines.Write = codes "bidi: output cannot be written\n"
fault_line words (lines.BadLine n) = codes "bidi: line " ++ decimal n ++ words
fault_line words lines.NoMemory = codes "bidi: out of memory\n"
fault_line words lines.TooManyLines = codes "bidi: too many steps\n"
fault_line words lines.WornOut = codes "bidi: too many steps\n"

-- the line for the fault, with its line feed
abbrev pub line_of : RunFault → List ℕ
line_of (Play fault) = fault_line (codes " is no play line\n") (lines_fault fault)
line_of (Pair fault) = fault_line (codes " is no pair line\n") fault
line_of (Listing fault) = fault_line (codes " is no text line\n") fault
line_of (Serve serve.Listen) = codes "bidi: cannot listen\n"
line_of (Serve serve.NoMemory) = codes "bidi: out of memory\n"
line_of (Serve serve.WornOut) = codes "bidi: too many steps\n"
line_of (Host (host.BadLine n)) = codes "bidi: line " ++ decimal n ++ codes " is no line of a page\n"
line_of (Host host.Read) = codes "bidi: input cannot be read\n"
line_of (Host host.Answer) = codes "bidi: output cannot be written\n"
line_of (Host host.Write) = codes "bidi: record cannot be written\n"
line_of (Host host.Listen) = codes "bidi: cannot listen\n"
line_of (Host host.NoMemory) = codes "bidi: out of memory\n"
line_of (Host host.WornOut) = codes "bidi: too many steps\n"
line_of (Host host.Unsaid) = codes "bidi: a text cannot be recorded\n"

-- the line was written to a sink: whole, or a beginning of it if the sink failed
abbrev pub Tells : Option (List ℕ) → Option (List ℕ) → ℕ → ℕ → List ℕ → Type 0
Tells held held' failed failed' line = ((failed' ≡ failed) × Appends held held' line) ⊎ ((failed' ≡ failed + 1) × AppendsBeginning held held' line)

-- a line in two parts: if there is a number, `bidi: line N` comes before these words
abbrev pub with_number : Option ℕ → List ℕ → List ℕ
with_number None words = words
with_number (Some n) words = codes "bidi: line " ++ decimal n ++ words

-- The meaning of a command line's arguments, as `clap` reads them. The command line is this project's own.
use Rattle.std.specs.Prelude.{◌≡◌, ◌≢◌, ◌⊎◌, ◌≤◌, ℕ, Bool, true, false, not, ◌==◌, ◌&&◌, IsTrue, nat_lt, nat_le, List, [], ◌∷◌, ◌++◌, length, ⊤}
use Rattle.std.specs.Prelude.{Option, Some, None, option_and_then, option_map, unwrap_or, if◌then◌else◌, codes, map, string_bytes}
use Rattle.std.specs.Option.{option_map_or}
use Rattle.std.specs.Char.{digit_value}
use Rattle.std.specs.Str.Parse.{digits_value, without_leading_plus}
use Rattle.std.specs.Str.{bytes_eq}
use Rattle.std.specs.Borrow.{Bor}
use Rattle.clap.specs.Words.{App, IsAmong, Kinds, Row, Rule, Shape, Text, fault_of, first_of, new_app, new_rule, subcommand_of, with_rule, with_subcommand}
use Rattle.clap.specs.declared.builder.action.ArgAction.TheVariants.{SetTrue}
use Rattle.clap.specs.declared.error.kind.ErrorKind.{ErrorKind}
use Rattle.clap.specs.declared.error.kind.ErrorKind.TheVariants.{DisplayHelp, DisplayVersion, OutOfMemory}
use Rattle.bidi_command_line.specs.declared.fault.LineFault.{LineFault}
use Rattle.bidi_command_line.specs.declared.fault.LineFault.TheVariants.{Help, Usage, NoMemory}
use Rattle.bidi_command_line.specs.declared.run.Run.{Run}
use Rattle.bidi_command_line.specs.declared.run.Run.TheVariants.{Stream, Serve, Host}
use Rattle.bidi_command_line.specs.declared.run.StreamRun.{StreamRun}
use Rattle.bidi_command_line.specs.declared.run.StreamRun.TheVariants.{Play, ScriptedPlay, Pair, Reduce, ScriptedReduce, Show, Check, Why, Both}
use Rattle.bidi_command_line.specs.declared.run.ServeOptions.{ServeOptions}
use Rattle.bidi_command_line.specs.declared.run.HostOptions.{HostOptions}
use Rattle.bidi_command_line.specs.declared.files.HostFiles.{HostFiles}
use Rattle.bidi_lines.specs.declared.side.Side.{Side}
use Rattle.bidi_lines.specs.declared.side.Side.TheVariants.{Local, Remote}

-- the settings: the program's name is not among the arguments, a subcommand is required, and there is no subcommand `help`
abbrev pub with_settings : Shape → Shape
with_settings s = record s { no_binary_name = true; disable_help_subcommand = true; subcommand_required = true }

-- the flag of this name, which takes no value
abbrev pub flag_rule : Text → Rule
flag_rule name = record (new_rule name) { long = Some name; action = Some SetTrue }

-- the subcommand `play`, with its flag
abbrev pub play_shape : Shape
play_shape = (with_rule (new_app (codes "play")) (flag_rule (codes "scripted"))).top

-- the subcommand `pair`, which has no arguments
abbrev pub pair_shape : Shape
pair_shape = (new_app (codes "pair")).top

-- the option of this name, which takes one value
abbrev pub value_rule : Text → Rule
value_rule name = record (new_rule name) { long = Some name; value_names = 1 }

-- the option of this name, which takes one value and is required
abbrev pub option_rule : Text → Rule
option_rule name = record (value_rule name) { required = true }

-- the subcommand `reduce`, with its option `--session` and its flag
abbrev pub reduce_shape : Shape
reduce_shape = (with_rule (with_rule (new_app (codes "reduce")) (option_rule (codes "session"))) (flag_rule (codes "scripted"))).top

-- the input file of a subcommand: an argument without a name, which may be left out
abbrev pub file_rule : Rule
file_rule = record (new_rule (codes "file")) { value_names = 1 }

-- the subcommand `show`, with its option `--from` and its file
abbrev pub show_shape : Shape
show_shape = (with_rule (with_rule (new_app (codes "show")) (option_rule (codes "from"))) file_rule).top

-- the subcommand `check`, with `--from` and `--both`, which say whose messages it reads
abbrev pub check_app : App
check_app = with_rule (with_rule (new_app (codes "check")) (value_rule (codes "from"))) (flag_rule (codes "both"))

-- the subcommand `check`, with all its options and its file
abbrev pub check_shape : Shape
check_shape =
    (with_rule (with_rule (with_rule (with_rule check_app (flag_rule (codes "why"))) (flag_rule (codes "json"))) (flag_rule (codes "profile-only")))
    file_rule).top

-- the subcommand `serve`, with its three options
abbrev pub serve_shape : Shape
serve_shape =
    (with_rule (with_rule (with_rule (new_app (codes "serve")) (option_rule (codes "port"))) (option_rule (codes "connections")))
    (option_rule (codes "messages"))).top

-- the port of `host` if none is given
abbrev pub default_port : Text
default_port = codes "9222"

-- the option `--port` of `host`
abbrev pub port_rule : Rule
port_rule = record (value_rule (codes "port")) { defaults = default_port ∷ [] }

-- the most MiB that `host` buffers if no number is given
abbrev pub default_buffered : Text
default_buffered = codes "1024"

-- the option `--max-buffered` of `host`
abbrev pub buffered_rule : Rule
buffered_rule = record (value_rule (codes "max-buffered")) { defaults = default_buffered ∷ [] }

-- the subcommand `host`, with the options for its port and its input
abbrev pub host_app : App
host_app = with_rule (with_rule (with_rule (new_app (codes "host")) port_rule) (value_rule (codes "page"))) (flag_rule (codes "stdin"))

-- the subcommand `host`, with all its options
abbrev pub host_shape : Shape
host_shape =
    (with_rule (with_rule (with_rule (with_rule (with_rule host_app (value_rule (codes "record"))) (flag_rule (codes "end-sessions"))) (flag_rule (codes "lenient")))
    (flag_rule (codes "once"))) buffered_rule).top

-- the program's command without any subcommand
abbrev pub bare_app : App
bare_app = record { top = with_settings (new_app (codes "bidi")).top; subs = [] }

-- the program's command with all subcommands but `host`
abbrev pub app_without_host : App
app_without_host =
    with_subcommand (with_subcommand (with_subcommand (with_subcommand (with_subcommand (with_subcommand bare_app play_shape) pair_shape) reduce_shape)
    show_shape) check_shape) serve_shape

-- the program's command, which requires one of its subcommands
abbrev pub bidi_app : App
bidi_app = with_subcommand app_without_host host_shape

-- the arguments, as strings of bytes
abbrev pub line_of : List (Bor (List ℕ)) → List Text
line_of words = map (λ word. word.now) words

-- the faults that `clap` finds in the arguments; there are none if it accepts them
abbrev pub faults_of : List Text → Kinds
faults_of line = fault_of bidi_app line

-- the end of this name, `local` or `remote`
abbrev pub side_named : Text → Option Side
side_named text = if bytes_eq text (codes "local") then Some Local else (if bytes_eq text (codes "remote") then Some Remote else None)

-- the end that the option `--from` names
abbrev pub side_in : List Row → Option Side
side_in rows = option_and_then side_named (first_of (codes "from") rows)

-- each byte is a decimal digit
abbrev pub all_digits : Text → Bool
all_digits [] = true
all_digits (c ∷ cs) = nat_lt (digit_value c) 10 && all_digits cs

-- one or more decimal digits, and nothing else
abbrev pub is_numeral : Text → Bool
is_numeral ds = nat_lt 0 (length ds) && all_digits ds

-- the number that a string of digits writes, with or without a plus before it, if it is within these bounds
-- example: `1001` within 1 and 1000 is none
abbrev pub number_within : ℕ → ℕ → Text → Option ℕ
number_within least most text =
    let ds = without_leading_plus text in
    let n = digits_value 10 ds in
    if is_numeral ds && (nat_le least n && nat_le n most) then Some n else None

-- the number that an option gives, if it is within these bounds
abbrev pub number_in : Text → ℕ → ℕ → List Row → Option ℕ
number_in name least most rows = option_and_then (number_within least most) (first_of name rows)

-- the greatest number of a session that `--session` takes
abbrev pub greatest_session : ℕ
greatest_session = 4294967295

-- the greatest port
abbrev pub greatest_port : ℕ
greatest_port = 65535

-- the most connections that `serve` takes in its life
abbrev pub most_served : ℕ
most_served = 1000

-- the most messages that `serve` takes in its life
abbrev pub most_messages : ℕ
most_messages = 100000

-- the most MiB that `host` may be told to buffer
abbrev pub most_buffered_mib : ℕ
most_buffered_mib = 65536

-- the number of the session that the option `--session` gives
abbrev pub session_in : List Row → Option ℕ
session_in rows = number_in (codes "session") 0 greatest_session rows

-- the string is `true`, which is what `clap` has for a flag that is given
abbrev pub is_true : Text → Bool
is_true text = bytes_eq text (codes "true")

-- the flag of this name is given
abbrev pub is_given : Text → List Row → Bool
is_given name rows = option_map_or is_true (first_of name rows) false

-- the run of `check`, from the value of `--from` and from which flags are given; either `--from` or `--both` is given, `--json` needs
-- `--why`, and `--profile-only` needs `--why` or `--both`
abbrev pub checked : Option Text → Bool → Bool → Bool → Bool → Option StreamRun
checked (Some end) false true is_json profile_only =
    option_map (λ side. Why (record { side = side; is_json = is_json; profile_only = profile_only })) (side_named end)
checked (Some end) false false false false = option_map Check (side_named end)
checked None true true is_json profile_only = Some (Both (record { is_why = true; is_json = is_json; profile_only = profile_only }))
checked None true false false profile_only = Some (Both (record { is_why = false; is_json = false; profile_only = profile_only }))
checked end is_both is_why is_json profile_only = None

-- the run that the options of `check` ask for
abbrev pub checking_in : List Row → Option StreamRun
checking_in rows =
    checked (first_of (codes "from") rows) (is_given (codes "both") rows) (is_given (codes "why") rows) (is_given (codes "json") rows)
    (is_given (codes "profile-only") rows)

-- the options of `serve`, if all three numbers are valid
abbrev pub served : Option ℕ → Option ℕ → Option ℕ → Option ServeOptions
served (Some port) (Some connections) (Some messages) = Some (record { port = port; connections = connections; messages = messages })
served port connections messages = None

-- the options of `serve` that the arguments give
abbrev pub serving_in : List Row → Option ServeOptions
serving_in rows = served (number_in (codes "port") 0 greatest_port rows) (number_in (codes "connections") 1 most_served rows) (number_in (codes "messages") 1 most_messages rows)

-- the options of `host`, if both numbers are valid
abbrev pub hosted : Option ℕ → Bool → Bool → Bool → Bool → Option ℕ → Option HostOptions
hosted (Some port) reads_input ends_sessions is_lenient ends_after_last (Some most) =
    Some (record { port = port; reads_input = reads_input; ends_sessions = ends_sessions; is_lenient = is_lenient; ends_after_last = ends_after_last; most_buffered = most })
hosted port reads_input ends_sessions is_lenient ends_after_last most = None

-- the options of `host` that the arguments give
abbrev pub hosting_in : List Row → Option HostOptions
hosting_in rows =
    hosted (number_in (codes "port") 0 greatest_port rows) (is_given (codes "stdin") rows) (is_given (codes "end-sessions") rows) (is_given (codes "lenient") rows)
    (is_given (codes "once") rows) (number_in (codes "max-buffered") 1 most_buffered_mib rows)

-- the run of the subcommand of this name, given the values of its options
abbrev pub run_named : Text → Bool → Option Side → Option ℕ → Option StreamRun → Option ServeOptions → Option HostOptions → Option Run
run_named name is_scripted side session checking serving hosting =
    if bytes_eq name (codes "play") then Some (Stream (if is_scripted then ScriptedPlay else Play))
    else (if bytes_eq name (codes "pair") then Some (Stream Pair)
    else (if bytes_eq name (codes "reduce") then option_map (λ n. Stream (if is_scripted then ScriptedReduce n else Reduce n)) session
    else (if bytes_eq name (codes "show") then option_map (λ s. Stream (Show s)) side
    else (if bytes_eq name (codes "check") then option_map Stream checking
    else (if bytes_eq name (codes "serve") then option_map Serve serving
    else (if bytes_eq name (codes "host") then option_map Host hosting else None))))))

-- the run of the subcommand that was found with its options
abbrev pub run_in : Option (Text × List Row) → Option Run
run_in None = None
run_in (Some (name, rows)) = run_named name (is_given (codes "scripted") rows) (side_in rows) (session_in rows) (checking_in rows) (serving_in rows) (hosting_in rows)

-- the file that an argument of this name gives
abbrev pub file_in : Text → Option (Text × List Row) → Option Text
file_in name met = option_and_then (λ p. first_of name p.1) met

-- the files are those that the options `--page` and `--record` give
abbrev pub AreFilesIn : Option (Text × List Row) → HostFiles → Type 0
AreFilesIn met files =
    (option_map string_bytes files.page_file ≡ file_in (codes "page") met) × (option_map string_bytes files.record_file ≡ file_in (codes "record") met)

-- the file of this name; `-` means standard input and is no file
abbrev pub file_named : Text → Option Text
file_named name = if bytes_eq name (codes "-") then None else Some name

-- the file that a subcommand reads instead of standard input, if its last argument names one
abbrev pub input_in : Option (Text × List Row) → Option Text
input_in met = option_and_then file_named (file_in (codes "file") met)

-- `clap` accepts the arguments, and reads them as this run
abbrev pub IsReadAs : List Text → Run → Type 0
IsReadAs line run = (faults_of line ≡ []) × (run_in (subcommand_of bidi_app line) ≡ Some run)

-- the arguments ask for the run; for `play` and `pair` they are exactly the name, `--scripted` if the play is scripted, and after
-- them the `--` that ends the options, or nothing
abbrev pub AsksFor : List Text → Run → Type 0
AsksFor line (Stream Play) = (line ≡ codes "play" ∷ []) ⊎ (line ≡ codes "play" ∷ codes "--" ∷ [])
AsksFor line (Stream ScriptedPlay) =
    (line ≡ codes "play" ∷ codes "--scripted" ∷ []) ⊎ (line ≡ codes "play" ∷ codes "--scripted" ∷ codes "--" ∷ [])
AsksFor line (Stream Pair) = (line ≡ codes "pair" ∷ []) ⊎ (line ≡ codes "pair" ∷ codes "--" ∷ [])
AsksFor line (Stream (Reduce session)) = IsReadAs line (Stream (Reduce session))
AsksFor line (Stream (ScriptedReduce session)) = IsReadAs line (Stream (ScriptedReduce session))
AsksFor line (Stream (Show side)) = IsReadAs line (Stream (Show side))
AsksFor line (Stream (Check side)) = IsReadAs line (Stream (Check side))
AsksFor line (Stream (Why options)) = IsReadAs line (Stream (Why options))
AsksFor line (Stream (Both options)) = IsReadAs line (Stream (Both options))
AsksFor line (Serve serving) = IsReadAs line (Serve serving)
AsksFor line (Host hosting) = IsReadAs line (Host hosting)

-- the name of an end
abbrev pub side_text : Side → Text
side_text Local = codes "local"
side_text Remote = codes "remote"

-- the arguments that give the option of this name its value: two arguments, or one with `=` in it
abbrev pub Gives : Text → Text → List Text → Type 0
Gives name value words = (words ≡ (codes "--" ++ name) ∷ value ∷ []) ⊎ (words ≡ ((codes "--" ++ name) ++ 61 ∷ value) ∷ [])

-- the arguments that give the option of this name this number, which is within these bounds
abbrev pub GivesNumber : Text → ℕ → ℕ → ℕ → List Text → Type 0
GivesNumber name least most n words = (value : Text) × (number_within least most value ≡ Some n) × Gives name value words

-- the argument that gives the option of this name its value, or none if there is no value
abbrev pub value_words : Text → Option Text → List Text
value_words name None = []
value_words name (Some value) = ((codes "--" ++ name) ++ 61 ∷ value) ∷ []

-- the argument that is the flag of this name, or none if the flag is not given
abbrev pub flag_words : Text → Bool → List Text
flag_words name is_given = if is_given then (codes "--" ++ name) ∷ [] else []

-- the string names a file without a `--` before it: it is `-`, or does not begin with `-`
abbrev pub is_name : Text → Bool
is_name (b ∷ c ∷ rest) = not (b == 45)
is_name name = true

-- the argument that names a file, or none
abbrev pub FileWords : List Text → Type 0
FileWords words = (words ≡ []) ⊎ ((name : Text) × IsTrue (is_name name) × (words ≡ name ∷ []))

-- the arguments of `host` without `--max-buffered`; each of its other options may be given, in this order
abbrev pub SaysHost : HostOptions → List Text → Type 0
SaysHost h line =
    (port : Option Text) × (page : Option Text) × (record_file : Option Text)
    × (number_within 0 greatest_port (unwrap_or port default_port) ≡ Some h.port) × (number_within 1 most_buffered_mib default_buffered ≡ Some h.most_buffered)
    × (line ≡ codes "host" ∷ value_words (codes "port") port ++ value_words (codes "page") page ++ flag_words (codes "stdin") h.reads_input
    ++ value_words (codes "record") record_file ++ flag_words (codes "end-sessions") h.ends_sessions ++ flag_words (codes "lenient") h.is_lenient
    ++ flag_words (codes "once") h.ends_after_last)

-- the arguments of `host` with `--max-buffered` and no other option
abbrev pub SaysBuffered : HostOptions → List Text → Type 0
SaysBuffered h line =
    (value : Text) × (number_within 1 most_buffered_mib value ≡ Some h.most_buffered)
    × (number_within 0 greatest_port default_port ≡ Some h.port)
    × (h ≡ record { port = h.port; reads_input = false; ends_sessions = false; is_lenient = false; ends_after_last = false; most_buffered = h.most_buffered })
    × (line ≡ codes "host" ∷ value_words (codes "max-buffered") (Some value))

-- these arguments are a usual way to ask for the run, with its options in this order
abbrev pub IsSaidBy : Run → List Text → Type 0
IsSaidBy (Stream Play) line = line ≡ codes "play" ∷ []
IsSaidBy (Stream ScriptedPlay) line = line ≡ codes "play" ∷ codes "--scripted" ∷ []
IsSaidBy (Stream Pair) line = line ≡ codes "pair" ∷ []
IsSaidBy (Stream (Reduce session)) line = (words : List Text) × GivesNumber (codes "session") 0 greatest_session session words × (line ≡ codes "reduce" ∷ words)
IsSaidBy (Stream (ScriptedReduce session)) line =
    (words : List Text) × GivesNumber (codes "session") 0 greatest_session session words × (line ≡ codes "reduce" ∷ words ++ codes "--scripted" ∷ [])
IsSaidBy (Stream (Show side)) line =
    (words : List Text) × (file : List Text) × Gives (codes "from") (side_text side) words × FileWords file × (line ≡ codes "show" ∷ words ++ file)
IsSaidBy (Stream (Check side)) line =
    (words : List Text) × (file : List Text) × Gives (codes "from") (side_text side) words × FileWords file × (line ≡ codes "check" ∷ words ++ file)
IsSaidBy (Stream (Why o)) line =
    (words : List Text) × (file : List Text) × Gives (codes "from") (side_text o.side) words × FileWords file
    × (line ≡ codes "check" ∷ words ++ codes "--why" ∷ flag_words (codes "json") o.is_json ++ flag_words (codes "profile-only") o.profile_only ++ file)
IsSaidBy (Stream (Both o)) line =
    (file : List Text) × (IsTrue o.is_json → IsTrue o.is_why) × FileWords file
    × (line ≡ codes "check" ∷ codes "--both" ∷ flag_words (codes "why") o.is_why ++ flag_words (codes "json") o.is_json
    ++ flag_words (codes "profile-only") o.profile_only ++ file)
IsSaidBy (Serve s) line =
    (port : Text) × (connections : Text) × (messages : Text)
    × (number_within 0 greatest_port port ≡ Some s.port)
    × (number_within 1 most_served connections ≡ Some s.connections)
    × (number_within 1 most_messages messages ≡ Some s.messages)
    × ((line ≡ codes "serve" ∷ codes "--port" ∷ port ∷ codes "--connections" ∷ connections ∷ codes "--messages" ∷ messages ∷ [])
    ⊎ (line ≡ codes "serve" ∷ (codes "--port=" ++ port) ∷ (codes "--connections=" ++ connections) ∷ (codes "--messages=" ++ messages) ∷ []))
IsSaidBy (Host h) line = SaysHost h line ⊎ SaysBuffered h line

-- the numbers of the run are within their bounds
abbrev pub IsWithinBounds : Run → Type 0
IsWithinBounds (Stream (Reduce session)) = session ≤ greatest_session
IsWithinBounds (Stream (ScriptedReduce session)) = session ≤ greatest_session
IsWithinBounds (Serve s) = (s.port ≤ greatest_port) × (1 ≤ s.connections) × (s.connections ≤ most_served) × (1 ≤ s.messages) × (s.messages ≤ most_messages)
IsWithinBounds (Host h) = (h.port ≤ greatest_port) × (1 ≤ h.most_buffered) × (h.most_buffered ≤ most_buffered_mib)
IsWithinBounds run = ⊤

-- the fault means that help or the version was asked for
abbrev pub IsRequest : ErrorKind → Type 0
IsRequest kind = (kind ≡ DisplayHelp) ⊎ (kind ≡ DisplayVersion)

-- the fault means that the arguments are wrong
abbrev pub IsMistake : ErrorKind → Type 0
IsMistake kind = (kind ≢ DisplayHelp) × (kind ≢ DisplayVersion) × (kind ≢ OutOfMemory)

-- the fault is of the right kind: `Help` for a request, and `Usage` for wrong arguments
abbrev pub Causes : ErrorKind → LineFault → Type 0
Causes kind (Help text) = IsRequest kind
Causes kind (Usage text) = IsMistake kind
Causes kind NoMemory = ⊤

-- a refusal has its cause: a fault that `clap` finds, or options that have no valid value or do not go together
abbrev pub IsRefusedFor : List Text → LineFault → Type 0
IsRefusedFor line (Help text) = (kind : ErrorKind) × IsAmong kind (faults_of line) × IsRequest kind
IsRefusedFor line (Usage text) =
    ((kind : ErrorKind) × IsAmong kind (faults_of line) × IsMistake kind) ⊎ ((faults_of line ≡ []) × (run_in (subcommand_of bidi_app line) ≡ None))
IsRefusedFor line NoMemory = ⊤

-- From the faults that `clap` finds, and from its reading, to the answer for a command line.
use Rattle.std.proofs.Common.{◌≡◌, ℕ, Bool, true, List, [], ◌∷◌, codes, refl, sym, subst, inl, inr, Some, None}
use Rattle.std.specs.Prelude.{Box, Option, option_map}
use Rattle.std.specs.Box.{box_value}
use Rattle.clap.specs.Words.{HasKind, Kinds, Row, Text, is_simple, is_simple_and_free, kind_of, subcommand_of, subcommand_rows}
use Rattle.clap.specs.declared.parser.matches.ArgMatches.TheViews.{out-SubCommand}
use Rattle.clap.specs.declared.parser.matches.SubCommand.{SubCommand}
use Rattle.clap.specs.declared.error.Error.{Error}
use Rattle.clap.specs.declared.error.kind.ErrorKind.{ErrorKind}
use Rattle.clap.specs.declared.error.kind.ErrorKind.TheVariants.{InvalidValue, OutOfMemory}
use Rattle.clap.proofs.OnLiterals.{clap_on_literals}
use Rattle.bidi_command_line.specs.declared.fault.LineFault.{LineFault}
use Rattle.bidi_command_line.specs.declared.fault.LineFault.TheVariants.{Help, Usage, NoMemory}
use Rattle.bidi_command_line.specs.declared.run.Run.{Run}
use Rattle.bidi_command_line.specs.declared.run.Run.TheVariants.{Stream, Serve, Host}
use Rattle.bidi_command_line.specs.declared.run.StreamRun.{StreamRun}
use Rattle.bidi_command_line.specs.declared.run.StreamRun.TheVariants.{Play, ScriptedPlay, Pair, Reduce, ScriptedReduce, Show, Check, Why, Both}
use Rattle.bidi_command_line.specs.declared.run.ServeOptions.{ServeOptions}
use Rattle.bidi_command_line.specs.declared.run.HostOptions.{HostOptions}
use Rattle.bidi_lines.specs.declared.side.Side.{Side}
use Rattle.bidi_command_line.specs.CommandLine.{AsksFor, Causes, IsReadAs, IsRefusedFor, IsRequest, bidi_app, faults_of, run_in, run_named}
use Rattle.bidi_command_line.proofs.PlayLines.{play_lines, scripted_lines, pair_lines}

-- the command is one whose faults clap lists, and whose reading it states
pub is_listed : is_simple_and_free bidi_app ≡ true
unfolding clap_on_literals
is_listed = refl

pub is_read : is_simple bidi_app ≡ true
unfolding clap_on_literals
is_read = refl

reads_name : IsReadAs (codes "play" ∷ []) (Stream Play)
unfolding clap_on_literals
reads_name = (refl, refl)

reads_mark : IsReadAs (codes "play" ∷ codes "--" ∷ []) (Stream Play)
unfolding clap_on_literals
reads_mark = (refl, refl)

reads_scripted : IsReadAs (codes "play" ∷ codes "--scripted" ∷ []) (Stream ScriptedPlay)
unfolding clap_on_literals
reads_scripted = (refl, refl)

reads_scripted_mark : IsReadAs (codes "play" ∷ codes "--scripted" ∷ codes "--" ∷ []) (Stream ScriptedPlay)
unfolding clap_on_literals
reads_scripted_mark = (refl, refl)

reads_pair : IsReadAs (codes "pair" ∷ []) (Stream Pair)
unfolding clap_on_literals
reads_pair = (refl, refl)

reads_pair_mark : IsReadAs (codes "pair" ∷ codes "--" ∷ []) (Stream Pair)
unfolding clap_on_literals
reads_pair_mark = (refl, refl)

-- clap reads a line that asks for a run as that run
pub asked_read : (line : List Text) (run : Run) → AsksFor line run → IsReadAs line run
asked_read line (Stream Play) (inl e) = subst (λ l. IsReadAs l (Stream Play)) (sym e) reads_name
asked_read line (Stream Play) (inr e) = subst (λ l. IsReadAs l (Stream Play)) (sym e) reads_mark
asked_read line (Stream ScriptedPlay) (inl e) = subst (λ l. IsReadAs l (Stream ScriptedPlay)) (sym e) reads_scripted
asked_read line (Stream ScriptedPlay) (inr e) = subst (λ l. IsReadAs l (Stream ScriptedPlay)) (sym e) reads_scripted_mark
asked_read line (Stream Pair) (inl e) = subst (λ l. IsReadAs l (Stream Pair)) (sym e) reads_pair
asked_read line (Stream Pair) (inr e) = subst (λ l. IsReadAs l (Stream Pair)) (sym e) reads_pair_mark
asked_read line (Stream (Reduce session)) asks = asks
asked_read line (Stream (ScriptedReduce session)) asks = asks
asked_read line (Stream (Show side)) asks = asks
asked_read line (Stream (Check side)) asks = asks
asked_read line (Stream (Why o)) asks = asks
asked_read line (Stream (Both o)) asks = asks
asked_read line (Serve s) asks = asks
asked_read line (Host h) asks = asks

-- and a line that clap reads as a run asks for it
pub read_asked : (line : List Text) (run : Run) → IsReadAs line run → AsksFor line run
read_asked line (Stream Play) read = play_lines line read.0 read.1
read_asked line (Stream ScriptedPlay) read = scripted_lines line read.0 read.1
read_asked line (Stream Pair) read = pair_lines line read.0 read.1
read_asked line (Stream (Reduce session)) read = read
read_asked line (Stream (ScriptedReduce session)) read = read
read_asked line (Stream (Show side)) read = read
read_asked line (Stream (Check side)) read = read
read_asked line (Stream (Why o)) read = read
read_asked line (Stream (Both o)) read = read
read_asked line (Serve s) read = read
read_asked line (Host h) read = read

-- a want of memory is no request
no_request : (kind : ErrorKind) → kind ≡ OutOfMemory → IsRequest kind → ⊥
no_request kind memory (inl h) = cc
no_request kind memory (inr h) = cc

-- a refusal that the error causes has its cause among the faults
pub refused : (line : List Text) (error : Error) (fault : LineFault) → HasKind (faults_of line) error → Causes (kind_of error) fault → IsRefusedFor line fault
refused line error NoMemory kind cause = tt
refused line error (Help text) (inl memory) cause = absurd (no_request (kind_of error) memory cause)
refused line error (Help text) (inr among) cause = (kind_of error, among, cause)
refused line error (Usage text) (inl memory) cause = absurd (cause.2 memory)
refused line error (Usage text) (inr among) cause = inl (kind_of error, among, cause)

-- so has one for an option that names no end
pub refused_end : (line : List Text) (fault : LineFault)
    → Causes InvalidValue fault → faults_of line ≡ [] → run_in (subcommand_of bidi_app line) ≡ None → IsRefusedFor line fault
refused_end line NoMemory cause takes none = tt
refused_end line (Help text) (inl h) takes none = absurd cc
refused_end line (Help text) (inr h) takes none = absurd cc
refused_end line (Usage text) cause takes none = inr (takes, none)

-- if `clap` has no fault to list, the fault is a failed allocation, and is reported as one
pub no_memory : (faults : Kinds) (error : Error) (fault : LineFault) → faults ≡ [] → HasKind faults error → Causes (kind_of error) fault → fault ≡ NoMemory
no_memory faults error NoMemory none kind cause = refl
no_memory [] error (Help text) none (inl memory) cause = absurd (no_request (kind_of error) memory cause)
no_memory [] error (Usage text) none (inl memory) cause = absurd (cause.2 memory)
no_memory [] error (Help text) none (inr among) cause = absurd among
no_memory [] error (Usage text) none (inr among) cause = absurd among
no_memory (k ∷ ks) error fault none kind cause = absurd cc

-- equal options have the same run
pub same_run : (run other : Run) → Some run ≡ Some other → run ≡ other
same_run run other e = cc

-- no run is none
pub no_run : (run : Run) → (let none : Option Run = None in none) ≡ Some run → ⊥
no_run run e = cc

-- the subcommand that was met, from its name and its rows
pub met : {Z : Type 0} (sub : Option (Box SubCommand Z)) (name : Text) (rows : List Row)
    → Some name ≡ option_map (λ b. (out-SubCommand (box_value b)).name.now) sub
    → Some rows ≡ option_map (λ p. p.1) (subcommand_rows sub) → subcommand_rows sub ≡ Some (name, rows)
met None name rows named found = absurd cc
met (Some b) name rows named found = cc

-- equal options give the same run
pub named-same : (name : Text) (is_scripted is_scripted' : Bool) (side side' : Option Side) (session session' : Option ℕ) (checking checking' : Option StreamRun)
    (serving serving' : Option ServeOptions) (hosting hosting' : Option HostOptions)
    → is_scripted ≡ is_scripted' → side ≡ side' → session ≡ session' → checking ≡ checking' → serving ≡ serving' → hosting ≡ hosting'
    → run_named name is_scripted side session checking serving hosting ≡ run_named name is_scripted' side' session' checking' serving' hosting'
named-same name is_scripted is_scripted' side side' session session' checking checking' serving serving' hosting hosting' f p q c r h =
    λ i. run_named name (f i) (p i) (q i) (c i) (r i) (h i)

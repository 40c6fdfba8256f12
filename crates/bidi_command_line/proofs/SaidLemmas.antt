-- The words that are given for a run: `clap` accepts them, and reads that run from them.
use Rattle.std.proofs.Common.{◌≡◌, ◌∙◌, ℕ, Bool, true, false, List, [], ◌∷◌, ◌++◌, codes, refl, sym, ap, subst, inl, inr, arith, bytes_eq, Some, None}
use Rattle.std.specs.Prelude.{◌==◌, ◌&&◌, if◌then◌else◌, IsTrue, Option, option_map, nat_lt}
use Rattle.std.specs.Char.{digit_value}
use Rattle.std.proofs.lemmas.Bool.Decides.{nat_tests}
use Rattle.clap.specs.Lexer.{long_of, short_of}
use Rattle.clap.specs.Words.{Text, subcommand_of}
use Rattle.clap.proofs.OnLiterals.{clap_on_literals}
use Rattle.bidi_command_line.specs.declared.run.Run.{Run}
use Rattle.bidi_command_line.specs.declared.run.Run.TheVariants.{Stream, Serve, Host}
use Rattle.bidi_command_line.specs.declared.run.StreamRun.TheVariants.{Play, ScriptedPlay, Pair, Reduce, ScriptedReduce, Show, Check, Why, Both}
use Rattle.bidi_lines.specs.declared.side.Side.{Side}
use Rattle.bidi_lines.specs.declared.side.Side.TheVariants.{Local, Remote}
use Rattle.bidi_command_line.proofs.FileLemmas.{MayName, with_file}
use Rattle.bidi_command_line.proofs.HostWords.{host_reads}
use Rattle.bidi_command_line.specs.CommandLine.{AsksFor, FileWords, Gives, GivesNumber, IsReadAs, IsSaidBy, bidi_app, faults_of}
use Rattle.bidi_command_line.specs.CommandLine.{checked, flag_words, hosted, is_name, number_within, run_in, served, side_named, side_text, value_words}

-- The same words, by what `clap` asks of them: a value that stands alone begins with no `-`.
data Given (name : Text) : Text → List Text → Type 0 where
  apart : (b : ℕ) (value : Text) → (b == 45) ≡ false → Given name (b ∷ value) ((codes "--" ++ name) ∷ (b ∷ value) ∷ [])
  joined : (value : Text) → Given name value (((codes "--" ++ name) ++ 61 ∷ value) ∷ [])

-- a word that begins with no `-` names no option, and is not the mark that ends them
no_long : (b : ℕ) (value : Text) → (b == 45) ≡ false → long_of (b ∷ value) ≡ None
no_long b value e = rw (e) refl

no_short : (b : ℕ) (value : Text) → (b == 45) ≡ false → short_of (b ∷ value) ≡ None
no_short b value e = rw (e) refl

no_mark : (b : ℕ) (value : Text) → (b == 45) ≡ false → bytes_eq (b ∷ value) (codes "--") ≡ false
no_mark b value e = rw (e) refl

-- a number begins with no `-`
no_digit : (c : ℕ) → (c == 45) ≡ true → nat_lt (digit_value c) 10 ≡ false
no_digit c e = grind (arith, nat_tests, e)

no_number : (least most n : ℕ) → number_within least most [] ≡ Some n → ⊥
no_number least most n e = cc

no_minus : (least most n b : ℕ) (value : Text) (minus : Bool) → (b == 45) ≡ minus → number_within least most (b ∷ value) ≡ Some n → (b == 45) ≡ false
no_minus least most n b value false e number = e
no_minus least most n b value true e number = absurd (negative number)
  where
    plus : (b == 43) ≡ false
    plus = grind (arith, nat_tests, e)

    digit : nat_lt (digit_value b) 10 ≡ false
    digit = no_digit b e

    hidden : (x y : Bool) (n : ℕ) → (if (x && false) && y then Some n else None) ≡ None
    hidden true y n = refl
    hidden false y n = refl

    nothing : (n : ℕ) → (let none : Option ℕ = None in none) ≡ Some n → ⊥
    nothing n e = cc

    negative : number_within least most (b ∷ value) ≡ Some n → ⊥
    negative is = nothing n (sym (rw (plus, digit) (hidden _ _ _)) ∙ is)

-- so the text of a number, where it stands alone, begins with another byte
data Plain : Text → Type 0 where
  plain : (b : ℕ) (value : Text) → (b == 45) ≡ false → Plain (b ∷ value)

plain_number : (least most n : ℕ) (value : Text) → number_within least most value ≡ Some n → Plain value
plain_number least most n [] number = absurd (no_number least most n number)
plain_number least most n (b ∷ value) number = plain b value (no_minus least most n b value (b == 45) refl number)

-- the words that give a number
given_plain : (name value : Text) → Plain value → Given name value ((codes "--" ++ name) ∷ value ∷ [])
given_plain name value (plain b rest e) = apart b rest e

given_number : (name : Text) (least most n : ℕ) (words : List Text) → (g : GivesNumber name least most n words) → Given name g.0 words
given_number name least most n words (value, number, inl e) = subst (Given name value) (sym e) (given_plain name value (plain_number least most n value number))
given_number name least most n words (value, number, inr e) = subst (Given name value) (sym e) (joined value)

-- and so does the name of an end
given_side : (side : Side) (words : List Text) → Gives (codes "from") (side_text side) words → Given (codes "from") (side_text side) words
given_side Local words (inl e) = subst (Given (codes "from") (side_text Local)) (sym e) (apart 108 (codes "ocal") refl)
given_side Remote words (inl e) = subst (Given (codes "from") (side_text Remote)) (sym e) (apart 114 (codes "emote") refl)
given_side side words (inr e) = subst (Given (codes "from") (side_text side)) (sym e) (joined (side_text side))

-- `clap` accepts the line, and reads the values from it
abbrev Reads : List Text → Option Run → Type 0
Reads line run = (faults_of line ≡ []) × (run_in (subcommand_of bidi_app line) ≡ run)

reduce_reads : {value : Text} {words : List Text} → Given (codes "session") value words → Reads (codes "reduce" ∷ words) (option_map (λ n. Stream (Reduce n)) (number_within 0 4294967295 value))
unfolding clap_on_literals
reduce_reads (apart b value e) =
    let l = no_long b value e in let s = no_short b value e in let q = no_mark b value e in
    (rw (q, l, s) refl, rw (q, l, s) refl)
reduce_reads (joined value) = (refl, refl)

reduce_flagged : {value : Text} {words : List Text} → Given (codes "session") value words
    → Reads (codes "reduce" ∷ words ++ codes "--scripted" ∷ []) (option_map (λ n. Stream (ScriptedReduce n)) (number_within 0 4294967295 value))
unfolding clap_on_literals
reduce_flagged (apart b value e) =
    let l = no_long b value e in let s = no_short b value e in let q = no_mark b value e in
    (rw (q, l, s) refl, rw (q, l, s) refl)
reduce_flagged (joined value) = (refl, refl)

-- the name of a file is not that of an option, and is not `--`
is_file_word : (name : Text) → IsTrue (is_name name) → (bytes_eq name (codes "--") ≡ false) × (long_of name ≡ None) × (short_of name ≡ None)
is_file_word [] is = (refl, refl, refl)
is_file_word (b ∷ []) is = of (b == 45) refl
  where
    of : (minus : Bool) → (b == 45) ≡ minus → (bytes_eq (b ∷ []) (codes "--") ≡ false) × (long_of (b ∷ []) ≡ None) × (short_of (b ∷ []) ≡ None)
    of true e = (rw (e) refl, rw (e) refl, rw (e) refl)
    of false e = (no_mark b [] e, no_long b [] e, no_short b [] e)
is_file_word (b ∷ c ∷ rest) is =
    let e : (b == 45) ≡ false = grind (arith, nat_tests, is) in
    (no_mark b (c ∷ rest) e, no_long b (c ∷ rest) e, no_short b (c ∷ rest) e)

-- The word of a file, by what `clap` asks of it, where there is one.
data File : List Text → Type 0 where
  unnamed : File []
  named : (name : Text) → bytes_eq name (codes "--") ≡ false → long_of name ≡ None → short_of name ≡ None → File (name ∷ [])

read_with_file : {args : List Text} {run : Option Run} (name : Text) → IsTrue (is_name name) → MayName args name run → Reads (codes "check" ∷ args ++ name ∷ []) run
read_with_file {args = args} {run = run} name is may =
    let word = is_file_word name is in
    with_file args name run word.0 word.1 word.2 may

file_is : (words : List Text) → FileWords words → File words
file_is words (inl e) = subst File (sym e) unnamed
file_is words (inr (name, is, e)) =
    let word = is_file_word name is in
    subst File (sym e) (named name word.0 word.1 word.2)

show_reads : {value : Text} {words file : List Text}
    → Given (codes "from") value words → File file → Reads (codes "show" ∷ words ++ file) (option_map (λ s. Stream (Show s)) (side_named value))
unfolding clap_on_literals
show_reads (apart b value e) unnamed =
    let l = no_long b value e in let s = no_short b value e in let q = no_mark b value e in
    (rw (q, l, s) refl, rw (q, l, s) refl)
show_reads (apart b value e) (named name q2 l2 s2) =
    let l = no_long b value e in let s = no_short b value e in let q = no_mark b value e in
    (rw (q) (rw (l) (rw (s) (rw (q2) (rw (l2) (rw (s2) refl))))), rw (q) (rw (l) (rw (s) (rw (q2) (rw (l2) (rw (s2) refl))))))
show_reads (joined value) unnamed = (refl, refl)
show_reads (joined value) (named name q l s) = (rw (q) (rw (l) (rw (s) refl)), rw (q) (rw (l) (rw (s) refl)))

check_reads : {value : Text} {words file : List Text}
    → Given (codes "from") value words → File file → Reads (codes "check" ∷ words ++ file) (option_map Stream (checked (Some value) false false false false))
unfolding clap_on_literals
check_reads (apart b value e) unnamed =
    let l = no_long b value e in let s = no_short b value e in let q = no_mark b value e in
    (rw (q, l, s) refl, rw (q, l, s) refl)
check_reads (apart b value e) (named name q2 l2 s2) =
    let l = no_long b value e in let s = no_short b value e in let q = no_mark b value e in
    (rw (q) (rw (l) (rw (s) (rw (q2) (rw (l2) (rw (s2) refl))))), rw (q) (rw (l) (rw (s) (rw (q2) (rw (l2) (rw (s2) refl))))))
check_reads (joined value) unnamed = (refl, refl)
check_reads (joined value) (named name q l s) = (rw (q) (rw (l) (rw (s) refl)), rw (q) (rw (l) (rw (s) refl)))

-- the flags after the option
why_reads : {value : Text} {words : List Text} (json profile : Bool) → Given (codes "from") value words
    → Reads (codes "check" ∷ words ++ codes "--why" ∷ flag_words (codes "json") json ++ flag_words (codes "profile-only") profile ++ [])
    (option_map Stream (checked (Some value) false true json profile))
unfolding clap_on_literals
why_reads true true (apart b value e) =
    let l = no_long b value e in let s = no_short b value e in let q = no_mark b value e in
    (rw (q, l, s) refl, rw (q, l, s) refl)
why_reads true true (joined value) = (refl, refl)
why_reads true false (apart b value e) =
    let l = no_long b value e in let s = no_short b value e in let q = no_mark b value e in
    (rw (q, l, s) refl, rw (q, l, s) refl)
why_reads true false (joined value) = (refl, refl)
why_reads false true (apart b value e) =
    let l = no_long b value e in let s = no_short b value e in let q = no_mark b value e in
    (rw (q, l, s) refl, rw (q, l, s) refl)
why_reads false true (joined value) = (refl, refl)
why_reads false false (apart b value e) =
    let l = no_long b value e in let s = no_short b value e in let q = no_mark b value e in
    (rw (q, l, s) refl, rw (q, l, s) refl)
why_reads false false (joined value) = (refl, refl)

-- a file may come after them
why_apart : (side : Side) (json profile : Bool) (name : Text)
    → MayName (codes "--from" ∷ side_text side ∷ codes "--why" ∷ flag_words (codes "json") json ++ flag_words (codes "profile-only") profile) name
    (option_map Stream (checked (Some (side_text side)) false true json profile))
unfolding clap_on_literals
why_apart Local true true name = record { stands = refl; free = refl; ends = refl; reads = refl }
why_apart Local true false name = record { stands = refl; free = refl; ends = refl; reads = refl }
why_apart Local false true name = record { stands = refl; free = refl; ends = refl; reads = refl }
why_apart Local false false name = record { stands = refl; free = refl; ends = refl; reads = refl }
why_apart Remote true true name = record { stands = refl; free = refl; ends = refl; reads = refl }
why_apart Remote true false name = record { stands = refl; free = refl; ends = refl; reads = refl }
why_apart Remote false true name = record { stands = refl; free = refl; ends = refl; reads = refl }
why_apart Remote false false name = record { stands = refl; free = refl; ends = refl; reads = refl }

why_joined : (value : Text) (json profile : Bool) (name : Text)
    → MayName (((codes "--from") ++ 61 ∷ value) ∷ codes "--why" ∷ flag_words (codes "json") json ++ flag_words (codes "profile-only") profile) name
    (option_map Stream (checked (Some value) false true json profile))
unfolding clap_on_literals
why_joined value true true name = record { stands = refl; free = refl; ends = refl; reads = refl }
why_joined value true false name = record { stands = refl; free = refl; ends = refl; reads = refl }
why_joined value false true name = record { stands = refl; free = refl; ends = refl; reads = refl }
why_joined value false false name = record { stands = refl; free = refl; ends = refl; reads = refl }

-- `clap` reads these words, the flags and the file as the run
abbrev WhySays : List Text → Side → Bool → Bool → Text → Type 0
WhySays words side json profile name =
    Reads (codes "check" ∷ words ++ codes "--why" ∷ flag_words (codes "json") json ++ flag_words (codes "profile-only") profile ++ name ∷ [])
    (option_map Stream (checked (Some (side_text side)) false true json profile))

why_named : {words : List Text} (side : Side) (json profile : Bool) (name : Text) → IsTrue (is_name name) → Gives (codes "from") (side_text side) words
    → WhySays words side json profile name
why_named side true true name is (inl e) =
    subst (λ w. WhySays w side true true name) (sym e)
    (read_with_file name is (why_apart side true true name))
why_named side true true name is (inr e) =
    subst (λ w. WhySays w side true true name) (sym e)
    (read_with_file name is (why_joined (side_text side) true true name))
why_named side true false name is (inl e) =
    subst (λ w. WhySays w side true false name) (sym e)
    (read_with_file name is (why_apart side true false name))
why_named side true false name is (inr e) =
    subst (λ w. WhySays w side true false name) (sym e)
    (read_with_file name is (why_joined (side_text side) true false name))
why_named side false true name is (inl e) =
    subst (λ w. WhySays w side false true name) (sym e)
    (read_with_file name is (why_apart side false true name))
why_named side false true name is (inr e) =
    subst (λ w. WhySays w side false true name) (sym e)
    (read_with_file name is (why_joined (side_text side) false true name))
why_named side false false name is (inl e) =
    subst (λ w. WhySays w side false false name) (sym e)
    (read_with_file name is (why_apart side false false name))
why_named side false false name is (inr e) =
    subst (λ w. WhySays w side false false name) (sym e)
    (read_with_file name is (why_joined (side_text side) false false name))

-- the option, the flags and the file
why_said : {words file : List Text} (side : Side) (json profile : Bool) → Gives (codes "from") (side_text side) words → FileWords file
    → Reads (codes "check" ∷ words ++ codes "--why" ∷ flag_words (codes "json") json ++ flag_words (codes "profile-only") profile ++ file)
    (option_map Stream (checked (Some (side_text side)) false true json profile))
why_said {words = words} side json profile gives (inl e) =
    subst
    (λ f. Reads (codes "check" ∷ words ++ codes "--why" ∷ flag_words (codes "json") json ++ flag_words (codes "profile-only") profile ++ f)
    (option_map Stream (checked (Some (side_text side)) false true json profile)))
    (sym e) (why_reads json profile (given_side side words gives))
why_said {words = words} side json profile gives (inr (name, is, e)) =
    subst
    (λ f. Reads (codes "check" ∷ words ++ codes "--why" ∷ flag_words (codes "json") json ++ flag_words (codes "profile-only") profile ++ f)
    (option_map Stream (checked (Some (side_text side)) false true json profile)))
    (sym e) (why_named side json profile name is gives)

-- only the flags
both_reads : (why json profile : Bool)
    → Reads (codes "check" ∷ codes "--both" ∷ flag_words (codes "why") why ++ flag_words (codes "json") json ++ flag_words (codes "profile-only") profile ++ [])
    (option_map Stream (checked None true why json profile))
unfolding clap_on_literals
both_reads true true true = (refl, refl)
both_reads true true false = (refl, refl)
both_reads true false true = (refl, refl)
both_reads true false false = (refl, refl)
both_reads false true true = (refl, refl)
both_reads false true false = (refl, refl)
both_reads false false true = (refl, refl)
both_reads false false false = (refl, refl)

-- a file may come after them
both_names : (why json profile : Bool) (name : Text)
    → MayName (codes "--both" ∷ flag_words (codes "why") why ++ flag_words (codes "json") json ++ flag_words (codes "profile-only") profile) name
    (option_map Stream (checked None true why json profile))
unfolding clap_on_literals
both_names true true true name = record { stands = refl; free = refl; ends = refl; reads = refl }
both_names true true false name = record { stands = refl; free = refl; ends = refl; reads = refl }
both_names true false true name = record { stands = refl; free = refl; ends = refl; reads = refl }
both_names true false false name = record { stands = refl; free = refl; ends = refl; reads = refl }
both_names false true true name = record { stands = refl; free = refl; ends = refl; reads = refl }
both_names false true false name = record { stands = refl; free = refl; ends = refl; reads = refl }
both_names false false true name = record { stands = refl; free = refl; ends = refl; reads = refl }
both_names false false false name = record { stands = refl; free = refl; ends = refl; reads = refl }

both_named : (why json profile : Bool) (name : Text) → IsTrue (is_name name)
    → Reads
    (codes "check" ∷ codes "--both" ∷ flag_words (codes "why") why ++ flag_words (codes "json") json ++ flag_words (codes "profile-only") profile ++ name ∷ [])
    (option_map Stream (checked None true why json profile))
both_named true true true name is = read_with_file name is (both_names true true true name)
both_named true true false name is = read_with_file name is (both_names true true false name)
both_named true false true name is = read_with_file name is (both_names true false true name)
both_named true false false name is = read_with_file name is (both_names true false false name)
both_named false true true name is = read_with_file name is (both_names false true true name)
both_named false true false name is = read_with_file name is (both_names false true false name)
both_named false false true name is = read_with_file name is (both_names false false true name)
both_named false false false name is = read_with_file name is (both_names false false false name)

-- the flags and the file
both_said : {file : List Text} (why json profile : Bool) → FileWords file
    → Reads
    (codes "check" ∷ codes "--both" ∷ flag_words (codes "why") why ++ flag_words (codes "json") json ++ flag_words (codes "profile-only") profile ++ file)
    (option_map Stream (checked None true why json profile))
both_said why json profile (inl e) =
    subst
    (λ f. Reads (codes "check" ∷ codes "--both" ∷ flag_words (codes "why") why ++ flag_words (codes "json") json ++ flag_words (codes "profile-only") profile ++ f)
    (option_map Stream (checked None true why json profile)))
    (sym e) (both_reads why json profile)
both_said why json profile (inr (name, is, e)) =
    subst
    (λ f. Reads (codes "check" ∷ codes "--both" ∷ flag_words (codes "why") why ++ flag_words (codes "json") json ++ flag_words (codes "profile-only") profile ++ f)
    (option_map Stream (checked None true why json profile)))
    (sym e) (both_named why json profile name is)

serve_reads : {p c m : Text} → Plain p → Plain c → Plain m
    → Reads (codes "serve" ∷ codes "--port" ∷ p ∷ codes "--connections" ∷ c ∷ codes "--messages" ∷ m ∷ [])
    (option_map Serve (served (number_within 0 65535 p) (number_within 1 1000 c) (number_within 1 100000 m)))
unfolding clap_on_literals
serve_reads (plain b1 v1 e1) (plain b2 v2 e2) (plain b3 v3 e3) =
    let l1 = no_long b1 v1 e1 in let s1 = no_short b1 v1 e1 in let q1 = no_mark b1 v1 e1 in
    let l2 = no_long b2 v2 e2 in let s2 = no_short b2 v2 e2 in let q2 = no_mark b2 v2 e2 in
    let l3 = no_long b3 v3 e3 in let s3 = no_short b3 v3 e3 in let q3 = no_mark b3 v3 e3 in (
      rw (q1) (rw (l1) (rw (s1) (rw (q2) (rw (l2) (rw (s2) (rw (q3) (rw (l3) (rw (s3) refl)))))))),
      rw (q1) (rw (l1) (rw (s1) (rw (q2) (rw (l2) (rw (s2) (rw (q3) (rw (l3) (rw (s3) refl)))))))),
    )

serve_reads_joined : (p c m : Text) → Reads (codes "serve" ∷ (codes "--port=" ++ p) ∷ (codes "--connections=" ++ c) ∷ (codes "--messages=" ++ m) ∷ [])
    (option_map Serve (served (number_within 0 65535 p) (number_within 1 1000 c) (number_within 1 100000 m)))
unfolding clap_on_literals
serve_reads_joined p c m = (refl, refl)

-- only `--max-buffered`
buffered_reads : (value : Text) → Reads (codes "host" ∷ value_words (codes "max-buffered") (Some value))
    (option_map Host (hosted (Some 9222) false false false false (number_within 1 65536 value)))
unfolding clap_on_literals
buffered_reads value = (refl, refl)

-- a line that `clap` reads as this run, under another name
read_as : (line other : List Text) (run : Run) (found : Option Run) → line ≡ other → found ≡ Some run → Reads other found → IsReadAs line run
read_as line other run found same is reads = subst (λ l. IsReadAs l run) (sym same) (reads.0, reads.1 ∙ is)

side_is : (side : Side) → side_named (side_text side) ≡ Some side
side_is Local = refl
side_is Remote = refl

-- `--both` asks for both ends, if `--json` comes with `--why`
both_is : (why json profile : Bool) → (IsTrue json → IsTrue why)
    → checked None true why json profile ≡ Some (Both (record { is_why = why; is_json = json; profile_only = profile }))
both_is true json profile goes = refl
both_is false true profile goes = let given : false ≡ true = goes refl in cc
both_is false false profile goes = refl

-- clap reads the words that are given for a run as that run
pub said_asks : (line : List Text) (run : Run) → IsSaidBy run line → AsksFor line run
said_asks line (Stream Play) e = inl e
said_asks line (Stream ScriptedPlay) e = inl e
said_asks line (Stream Pair) e = inl e
said_asks line (Stream (Reduce session)) (words, gives, e) =
    read_as line (codes "reduce" ∷ words) (Stream (Reduce session)) _ e (ap (option_map (λ n. Stream (Reduce n))) gives.1)
    (reduce_reads (given_number (codes "session") 0 4294967295 session words gives))
said_asks line (Stream (ScriptedReduce session)) (words, gives, e) =
    read_as line (codes "reduce" ∷ words ++ codes "--scripted" ∷ []) (Stream (ScriptedReduce session)) _ e (ap (option_map (λ n. Stream (ScriptedReduce n))) gives.1)
    (reduce_flagged (given_number (codes "session") 0 4294967295 session words gives))
said_asks line (Stream (Show side)) (words, file, gives, names, e) =
    read_as line (codes "show" ∷ words ++ file) (Stream (Show side)) _ e (ap (option_map (λ s. Stream (Show s))) (side_is side))
    (show_reads (given_side side words gives) (file_is file names))
said_asks line (Stream (Check side)) (words, file, gives, names, e) =
    read_as line (codes "check" ∷ words ++ file) (Stream (Check side)) _ e (ap (λ s. option_map Stream (option_map Check s)) (side_is side))
    (check_reads (given_side side words gives) (file_is file names))
said_asks line (Stream (Why o)) (words, file, gives, names, e) =
    read_as line _ (Stream (Why o)) _ e
    (ap (λ side. option_map Stream (option_map (λ s. Why (record { side = s; is_json = o.is_json; profile_only = o.profile_only })) side)) (side_is o.side))
    (why_said o.side o.is_json o.profile_only gives names)
said_asks line (Stream (Both o)) (file, goes, names, e) =
    read_as line _ (Stream (Both o)) _ e (ap (option_map Stream) (both_is o.is_why o.is_json o.profile_only goes))
    (both_said o.is_why o.is_json o.profile_only names)
said_asks line (Serve s) (p, c, m, port, connections, messages, inl e) =
    read_as line _ (Serve s) _ e (λ i. option_map Serve (served (port i) (connections i) (messages i)))
    (serve_reads (plain_number 0 65535 s.port p port) (plain_number 1 1000 s.connections c connections) (plain_number 1 100000 s.messages m messages))
said_asks line (Serve s) (p, c, m, port, connections, messages, inr e) =
    read_as line _ (Serve s) _ e (λ i. option_map Serve (served (port i) (connections i) (messages i))) (serve_reads_joined p c m)
said_asks line (Host h) (inl (port, page, record_file, number, most, e)) =
    read_as line _ (Host h) _ e (λ i. option_map Host (hosted (number i) h.reads_input h.ends_sessions h.is_lenient h.ends_after_last (most i)))
    (host_reads port page record_file h.reads_input h.ends_sessions h.is_lenient h.ends_after_last)
said_asks line (Host h) (inr (value, number, port, others, e)) =
    read_as line _ (Host h) _ e ((λ i. option_map Host (hosted (port i) false false false false (number i))) ∙ ap (λ o. Some (Host o)) (sym others))
    (buffered_reads value)

-- Numbers in a command line.
use Rattle.std.proofs.Common.{◌≡◌, ◌∙◌, ◌<◌, ◌≤◌, ◌^◌, ℕ, Bool, true, false, List, [], ◌∷◌, Some, None, Ok, Err, refl, sym, ap, arith, length, subst}
use Rattle.std.specs.Prelude.{Result, Option, ◌&&◌, nat_le, nat_lt, if◌then◌else◌}
use Rattle.std.specs.Char.{digit_value}
use Rattle.std.specs.Str.Parse.{AllDigits, IsNumeral, ParsesUnsigned, digits_value, without_leading_plus}
use Rattle.std.proofs.lemmas.Bool.Decides.{nat_tests}
use Rattle.std.specs.Prelude.{option_and_then, option_map}
use Rattle.std.specs.Prelude.{codes}
use Rattle.std.specs.Str.{bytes_eq}
use Rattle.clap.specs.Words.{Row, Text, first_of}
use Rattle.bidi_command_line.specs.declared.run.Run.{Run}
use Rattle.bidi_command_line.specs.declared.run.Run.TheVariants.{Stream, Serve, Host}
use Rattle.bidi_command_line.specs.declared.run.StreamRun.{StreamRun}
use Rattle.bidi_command_line.specs.declared.run.StreamRun.TheVariants.{Play, ScriptedPlay, Pair, Reduce, ScriptedReduce, Show, Check, Why, Both}
use Rattle.bidi_command_line.specs.declared.run.ServeOptions.{ServeOptions}
use Rattle.bidi_command_line.specs.declared.run.HostOptions.{HostOptions}
use Rattle.bidi_command_line.specs.CommandLine.{IsWithinBounds, all_digits, checked, checking_in, hosted, hosting_in, is_given, is_numeral, number_in}
use Rattle.bidi_command_line.specs.CommandLine.{number_within, run_in, served, serving_in, session_in, side_in, side_named}

-- both of two tests hold
both : (a b : Bool) → (a && b) ≡ true → (a ≡ true) × (b ≡ true)
both true b e = (refl, e)
both false b e = cc

-- the test of digits is right
told : (ds : List ℕ) → AllDigits 10 ds → all_digits ds ≡ true
told [] a = refl
told (c ∷ cs) a = let h = a.0 in let ih = told cs a.1 in grind (arith, nat_tests, h, ih)

are : (ds : List ℕ) → all_digits ds ≡ true → AllDigits 10 ds
are [] e = tt
are (c ∷ cs) e = let p = both (nat_lt (digit_value c) 10) (all_digits cs) e in let h = p.0 in (grind (arith, nat_tests, h), are cs p.1)

numeral : (ds : List ℕ) → IsNumeral 10 ds → is_numeral ds ≡ true
numeral ds a = let h = a.0 in let d = told ds a.1 in grind (arith, nat_tests, h, d)

is_one : (ds : List ℕ) → is_numeral ds ≡ true → IsNumeral 10 ds
is_one ds e = let p = both (nat_lt 0 (length ds)) (all_digits ds) e in let h = p.0 in (grind (arith, nat_tests, h), are ds p.1)

-- a text that is read as a number
pub number-parsed : {E : Type 0} (k least most n : ℕ) (bs : List ℕ) (r : Result ℕ E) → r ≡ Ok n → ParsesUnsigned k 10 bs r
    → number_within least most bs ≡ (if nat_le least n && nat_le n most then Some n else None)
number-parsed k least most n bs r is parses =
    let h = subst (ParsesUnsigned k 10 bs) is parses in
    let v = digits_value 10 (without_leading_plus bs) in
    ap (λ b. if b && (nat_le least v && nat_le v most) then Some v else None) (numeral (without_leading_plus bs) h.0.0)
    ∙ ap (λ x. if nat_le least x && nat_le x most then Some x else None) (sym h.1)

-- one that is not
pub number-refused : {E : Type 0} (k least most : ℕ) (bs : List ℕ) (r : Result ℕ E) (e : E)
    → r ≡ Err e → most < 2 ^ k → ParsesUnsigned k 10 bs r → number_within least most bs ≡ None
number-refused k least most bs r e is fits parses = of (is_numeral ds && (nat_le least v && nat_le v most)) refl
  where
    ds : List ℕ
    ds = without_leading_plus bs

    v : ℕ
    v = digits_value 10 ds

    of : (b : Bool) → (is_numeral ds && (nat_le least v && nat_le v most)) ≡ b → (if b then Some v else None) ≡ None
    of false none = refl
    of true some =
        let p = both (is_numeral ds) (nat_le least v && nat_le v most) some in
        let q = (both (nat_le least v) (nat_le v most) p.1).1 in
        let within : v ≤ most = grind (arith, nat_tests, q) in
        absurd (subst (ParsesUnsigned k 10 bs) is parses (is_one ds p.0, omega (arith, within, fits)))

-- equal numbers give equal options
pub served-same : (a a' b b' m m' : Option ℕ) → a ≡ a' → b ≡ b' → m ≡ m' → served a b m ≡ served a' b' m'
served-same a a' b b' m m' p q r =
    subst (λ x. served a b m ≡ served x b' m') p (subst (λ x. served a b m ≡ served a x m') q (subst (λ x. served a b m ≡ served a b x) r refl))

pub checked-same : (a a' : Option Text) (b b' c c' d d' e e' : Bool)
    → a ≡ a' → b ≡ b' → c ≡ c' → d ≡ d' → e ≡ e' → checked a b c d e ≡ checked a' b' c' d' e'
checked-same a a' b b' c c' d d' e e' p q r s t = λ i. checked (p i) (q i) (r i) (s i) (t i)

pub hosted-same : (a a' : Option ℕ) (b b' c c' d d' o o' : Bool) (e e' : Option ℕ)
    → a ≡ a' → b ≡ b' → c ≡ c' → d ≡ d' → o ≡ o' → e ≡ e' → hosted a b c d o e ≡ hosted a' b' c' d' o' e'
hosted-same a a' b b' c c' d d' o o' e e' p q r s u t = λ i. hosted (p i) (q i) (r i) (s i) (u i) (t i)

-- ---- bounds

-- a number that was found is within its bounds
within : (least most n : ℕ) (text : Text) → number_within least most text ≡ Some n → (least ≤ n) × (n ≤ most)
within least most n text e = of (is_numeral ds && (nat_le least v && nat_le v most)) refl e
  where
    ds : List ℕ
    ds = without_leading_plus text

    v : ℕ
    v = digits_value 10 ds

    of : (b : Bool) → (is_numeral ds && (nat_le least v && nat_le v most)) ≡ b → (if b then Some v else None) ≡ Some n → (least ≤ n) × (n ≤ most)
    of false none e = cc
    of true some e =
        let same : v ≡ n = cc in
        let p = (both (is_numeral ds) (nat_le least v && nat_le v most) some).1 in
        let q = both (nat_le least v) (nat_le v most) p in
        let low = q.0 in
        let high = q.1 in
        subst (λ x. (least ≤ x) × (x ≤ most)) same (grind (arith, nat_tests, low), grind (arith, nat_tests, high))

within_found : (least most n : ℕ) (text : Option Text) → option_and_then (number_within least most) text ≡ Some n → (least ≤ n) × (n ≤ most)
within_found least most n None e = cc
within_found least most n (Some text) e = within least most n text e

-- the options of `serve` have the numbers that were found
served-from : (a b m : Option ℕ) (s : ServeOptions) → served a b m ≡ Some s → (a ≡ Some s.port) × (b ≡ Some s.connections) × (m ≡ Some s.messages)
served-from (Some p) (Some k) (Some n) s e = (cc, cc, cc)
served-from None b m s e = cc
served-from (Some p) None m s e = cc
served-from (Some p) (Some k) None s e = cc

-- the options of `host` have the numbers that were found
hosted-from : (port : Option ℕ) (stdin sessions lenient once : Bool) (most : Option ℕ) (o : HostOptions)
    → hosted port stdin sessions lenient once most ≡ Some o → (port ≡ Some o.port) × (most ≡ Some o.most_buffered)
hosted-from (Some p) stdin sessions lenient once (Some n) o e = (cc, cc)
hosted-from (Some p) stdin sessions lenient once None o e = cc
hosted-from None stdin sessions lenient once most o e = cc

-- if a run was found, its numbers are within their bounds
abbrev AreWithin : Option Run → Type 0
AreWithin found = (run : Run) → found ≡ Some run → IsWithinBounds run

none_within : AreWithin None
none_within run e = cc

one_within : (one : Run) → IsWithinBounds one → AreWithin (Some one)
one_within one is run e = let same : one ≡ run = cc in subst IsWithinBounds same is

-- a run that is made of the numbers found has them within their bounds
made_within : {A : Type 0} (f : A → Run) (found : Option A) → ((x : A) → found ≡ Some x → IsWithinBounds (f x)) → AreWithin (option_map f found)
made_within f None is = none_within
made_within f (Some x) is = one_within (f x) (is x refl)

-- a run over streams that has no numbers is within them
streamed_within : {A : Type 0} (f : A → StreamRun) (found : Option A) → ((x : A) → IsWithinBounds (Stream (f x))) → AreWithin (option_map Stream (option_map f found))
streamed_within f None is = none_within
streamed_within f (Some x) is = one_within (Stream (f x)) (is x)

-- a run that checks has no numbers
checked_within : (end : Option Text) (both why json profile : Bool) → AreWithin (option_map Stream (checked end both why json profile))
checked_within None false why json profile = none_within
checked_within None true true json profile = one_within (Stream (Both (record { is_why = true; is_json = json; profile_only = profile }))) tt
checked_within None true false true profile = none_within
checked_within None true false false profile = one_within (Stream (Both (record { is_why = false; is_json = false; profile_only = profile }))) tt
checked_within (Some end) true why json profile = none_within
checked_within (Some end) false true json profile =
    streamed_within (λ side. Why (record { side = side; is_json = json; profile_only = profile })) (side_named end) (λ side. tt)
checked_within (Some end) false false true profile = none_within
checked_within (Some end) false false false true = none_within
checked_within (Some end) false false false false = streamed_within Check (side_named end) (λ side. tt)

reduced_within : (is_scripted : Bool) (rows : List Row) → AreWithin (option_map (λ n. Stream (if is_scripted then ScriptedReduce n else Reduce n)) (session_in rows))
reduced_within true rows =
    made_within (λ n. Stream (ScriptedReduce n)) (session_in rows) (λ n e. (within_found 0 4294967295 n (first_of (codes "session") rows) e).1)
reduced_within false rows = made_within (λ n. Stream (Reduce n)) (session_in rows) (λ n e. (within_found 0 4294967295 n (first_of (codes "session") rows) e).1)

served_within : (rows : List Row) → AreWithin (option_map Serve (serving_in rows))
served_within rows = made_within Serve (serving_in rows) (λ s e.
    let from = served-from (number_in (codes "port") 0 65535 rows) (number_in (codes "connections") 1 1000 rows)
    (number_in (codes "messages") 1 100000 rows) s e in
    let port = within_found 0 65535 s.port (first_of (codes "port") rows) from.0 in
    let connections = within_found 1 1000 s.connections (first_of (codes "connections") rows) from.1 in
    let messages = within_found 1 100000 s.messages (first_of (codes "messages") rows) from.2 in
    (port.1, connections.0, connections.1, messages.0, messages.1))

hosted_within : (rows : List Row) → AreWithin (option_map Host (hosting_in rows))
hosted_within rows = made_within Host (hosting_in rows) (λ o e.
    let from = hosted-from (number_in (codes "port") 0 65535 rows) (is_given (codes "stdin") rows) (is_given (codes "end-sessions") rows)
    (is_given (codes "lenient") rows) (is_given (codes "once") rows) (number_in (codes "max-buffered") 1 65536 rows) o e in
    let port = within_found 0 65535 o.port (first_of (codes "port") rows) from.0 in
    let most = within_found 1 65536 o.most_buffered (first_of (codes "max-buffered") rows) from.1 in
    (port.1, most.0, most.1))

-- the run by the names that a subcommand has
abbrev run_by : Bool → Bool → Bool → Bool → Bool → Bool → Bool → List Row → Option Run
run_by is_play is_pair is_reduce is_show is_check is_serve is_host rows =
    if is_play then Some (Stream (if is_given (codes "scripted") rows then ScriptedPlay else Play)) else (if is_pair then Some (Stream Pair) else (if is_reduce then option_map (λ n. Stream (if is_given (codes "scripted") rows then ScriptedReduce n else Reduce n)) (session_in rows)
    else (if is_show then option_map (λ s. Stream (Show s)) (side_in rows) else (if is_check then option_map Stream (checking_in rows)
    else (if is_serve then option_map Serve (serving_in rows) else (if is_host then option_map Host (hosting_in rows) else None))))))

played_within : (is_scripted : Bool) → AreWithin (Some (Stream (if is_scripted then ScriptedPlay else Play)))
played_within true = one_within (Stream ScriptedPlay) tt
played_within false = one_within (Stream Play) tt

named_within : (p q d r t u h : Bool) (rows : List Row) → AreWithin (run_by p q d r t u h rows)
named_within true q d r t u h rows = played_within (is_given (codes "scripted") rows)
named_within false true d r t u h rows = one_within (Stream Pair) tt
named_within false false true r t u h rows = reduced_within (is_given (codes "scripted") rows) rows
named_within false false false true t u h rows = made_within (λ s. Stream (Show s)) (side_in rows) (λ side e. tt)
named_within false false false false true u h rows =
    checked_within (first_of (codes "from") rows) (is_given (codes "both") rows) (is_given (codes "why") rows) (is_given (codes "json") rows)
    (is_given (codes "profile-only") rows)
named_within false false false false false true h rows = served_within rows
named_within false false false false false false true rows = hosted_within rows
named_within false false false false false false false rows = none_within

-- the numbers of a run that was found are within their bounds
pub within_bounds : (met : Option (Text × List Row)) (run : Run) → run_in met ≡ Some run → IsWithinBounds run
within_bounds None run e = cc
within_bounds (Some (name, rows)) run e =
    let is : Text → Bool = λ other. bytes_eq name other in
    named_within (is (codes "play")) (is (codes "pair")) (is (codes "reduce")) (is (codes "show")) (is (codes "check")) (is (codes "serve"))
    (is (codes "host")) rows run e

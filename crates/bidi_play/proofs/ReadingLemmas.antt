-- Bytes are the lines of at most one list of steps.
use Rattle.std.proofs.Common.{◌≡◌, ℕ, ◌<◌, ◌^◌, Bool, true, false, true≢false, List, [], ◌∷◌, ◌++◌, drop, append_assoc, refl, sym, ◌∙◌, ap, ap₂, arith}
use Rattle.std.specs.Prelude.{◌==◌, decimal, codes}
use Rattle.std.proofs.lemmas.Bool.Decides.{nat_tests}
use Rattle.std.specs.List.{AllByRecursion, list_any}
use Rattle.std.proofs.lemmas.Fmt.{decimal_injective}
use Rattle.bidi_scripts.specs.Level.{level_text}
use Rattle.bidi_scripts.specs.declared.log_entry.Level.{Level}
use Rattle.bidi_sessions.specs.Step.{Step, PageStep, At, Open, Drop, Text, NotText, Page, Frame, Unframe, Log, TableRow}
use Rattle.bidi_lines.specs.Feeds.{ended}
use Rattle.bidi_play.specs.Lines.{line_of, said, IsContext, IsSayable, CanBeSaid}
use Rattle.bidi_play.specs.Plays.{HasNoPlayLine}
use Rattle.bidi_lines.proofs.ResultLemmas.{no_truth}
use Rattle.bidi_play.proofs.DigitLemmas.{no_space}
use Rattle.bidi_lines.proofs.FeedLemmas.{one_front}
use Rattle.bidi_play.proofs.LevelLemmas.{graded}

abbrev first : List ℕ → ℕ
first [] = 0
first (b ∷ bs) = b

apart : (a b : ℕ) → a ≡ b → (a == b) ≡ false → ⊥
apart a b e f = no_truth (grind (arith, nat_tests))

-- a number and the text after it are determined
numbered : (c d : ℕ) (text other : List ℕ) → c < 2 ^ 53 → d < 2 ^ 53 → decimal c ++ 32 ∷ text ≡ decimal d ++ 32 ∷ other → (c ≡ d) × (text ≡ other)
numbered c d text other a b e =
    let h = one_front 32 (decimal c) text (decimal d) other (no_space c (omega arith)) (no_space d (omega arith)) e in
    (decimal_injective c d (omega arith) (omega arith) h.0, h.1)

-- a context and the text after it are determined
named : (context id url other : List ℕ) → IsContext context → IsContext id → context ++ 32 ∷ url ≡ id ++ 32 ∷ other → (context ≡ id) × (url ≡ other)
named context id url other a b e = one_front 32 context url id other a.1 b.1 e

-- a context, a level and the text after them are determined
logged : (context id : List ℕ) (level grave : Level) (text other : List ℕ) → IsContext context → IsContext id
    → context ++ 32 ∷ level_text level ++ 32 ∷ text ≡ id ++ 32 ∷ level_text grave ++ 32 ∷ other → (context ≡ id) × (level ≡ grave) × (text ≡ other)
logged context id level grave text other a b e =
    let h = named context id (level_text level ++ 32 ∷ text) (level_text grave ++ 32 ∷ other) a b
    (sym (append_assoc context (32 ∷ level_text level) (32 ∷ text)) ∙ (e ∙ append_assoc id (32 ∷ level_text grave) (32 ∷ other))) in
    let g = graded level grave text other h.1 in
    (h.0, g.0, g.1)

-- a line says one step of a page
one_page : (p q : PageStep) → IsSayable (Page p) → IsSayable (Page q) → line_of (Page p) ≡ line_of (Page q) → p ≡ q
one_page (Frame context url) (Frame id other) a b e = let h = named context id url other a.context b.context (ap (drop 6) e) in ap₂ Frame h.0 h.1
one_page (Unframe context) (Unframe id) a b e = ap Unframe (ap (drop 8) e)
one_page (Log context level text) (Log id grave other) a b e =
    let h = logged context id level grave text other a.context b.context (ap (drop 4) e) in
    let i = h.0 in
    let j = h.1 in
    let k = h.2 in
    cc
one_page (TableRow text) (TableRow other) a b e = ap TableRow (ap (drop 6) e)
one_page p q a b e = absurd (apart (first (line_of (Page p))) (first (line_of (Page q))) (ap first e) refl)

-- the line of one begins with a letter with which no other line begins
abbrev is_of_page : ℕ → Bool
is_of_page b = list_any (λ c. c == b) (codes "fulv")

begins : (page : PageStep) → is_of_page (first (line_of (Page page))) ≡ true
begins (Frame context url) = refl
begins (Unframe context) = refl
begins (Log context level text) = refl
begins (TableRow text) = refl

of_page : (page : PageStep) (b : ℕ) → first (line_of (Page page)) ≡ b → is_of_page b ≡ false → ⊥
of_page page b is other = true≢false (sym (begins page) ∙ (ap is_of_page is ∙ other))

-- a line says one step
pub one_step : (s t : Step) → IsSayable s → IsSayable t → line_of s ≡ line_of t → s ≡ t
one_step (At n) (At m) a b e = let below = a.number in let less = b.number in ap At (decimal_injective n m (omega arith) (omega arith) (ap (drop 3) e))
one_step (Drop c) (Drop d) a b e = let below = a.number in let less = b.number in ap Drop (decimal_injective c d (omega arith) (omega arith) (ap (drop 5) e))
one_step (NotText c) (NotText d) a b e =
    let below = a.number in
    let less = b.number in
    ap NotText (decimal_injective c d (omega arith) (omega arith) (ap (drop 7) e))
one_step (Open c resource) (Open d other) a b e = let h = numbered c d resource other a.number b.number (ap (drop 5) e) in let i = h.0 in let j = h.1 in cc
one_step (Text c text) (Text d other) a b e = let h = numbered c d text other a.number b.number (ap (drop 2) e) in let i = h.0 in let j = h.1 in cc
one_step (Page page) (Page other) a b e = ap Page (one_page page other a b e)
one_step (Page page) t a b e = absurd (of_page page (first (line_of t)) (ap first e) refl)
one_step s (Page page) a b e = absurd (of_page page (first (line_of s)) (sym (ap first e)) refl)
one_step s t a b e = absurd (apart (first (line_of s)) (first (line_of t)) (ap first e) refl)

-- the first line, and the bytes after it
first_line : (s t : Step) (more other : List ℕ) → CanBeSaid s → CanBeSaid t → ended (line_of s) ++ more ≡ ended (line_of t) ++ other → (s ≡ t) × (more ≡ other)
first_line s t more other a b e =
    let h = one_front 10 (line_of s) more (line_of t) other a.one_line b.one_line
    (sym (append_assoc (line_of s) (10 ∷ []) more) ∙ (e ∙ append_assoc (line_of t) (10 ∷ []) other)) in
    (one_step s t a.parts b.parts h.0, h.1)

-- all lines at the front of the bytes say one list of steps
pub all_steps : (steps others : List Step) (rest end : List ℕ) → AllByRecursion CanBeSaid steps → AllByRecursion CanBeSaid others
    → said steps ++ rest ≡ said others ++ end → HasNoPlayLine rest → HasNoPlayLine end → steps ≡ others
all_steps [] [] rest end a b e none end_none = refl
all_steps [] (t ∷ ts) rest end a b e none end_none = absurd (none t (said ts ++ end) b.0 (e ∙ append_assoc (ended (line_of t)) (said ts) end))
all_steps (s ∷ ss) [] rest end a b e none end_none = absurd (end_none s (said ss ++ rest) a.0 (sym e ∙ append_assoc (ended (line_of s)) (said ss) rest))
all_steps (s ∷ ss) (t ∷ ts) rest end a b e none end_none =
    let h = first_line s t (said ss ++ rest) (said ts ++ end) a.0 b.0
    (sym (append_assoc (ended (line_of s)) (said ss) rest) ∙ (e ∙ append_assoc (ended (line_of t)) (said ts) end)) in
    let r = all_steps ss ts rest end a.1 b.1 h.1 none end_none in
    let i = h.0 in cc

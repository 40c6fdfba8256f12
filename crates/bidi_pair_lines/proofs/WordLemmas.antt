-- The first word of a line of both ends, and the parts of one that sends a command.
use Rattle.std.proofs.Common.{◌≡◌, ℕ, ◌+◌, ◌*◌, ◌<◌, ◌^◌, false, List, ◌∷◌, ◌++◌, Some, None, Ok, Err, drop, append_assoc, refl, sym, ◌∙◌, ap, subst, arith}
use Rattle.std.specs.Prelude.{◌==◌, codes, decimal, string_bytes, Option, Result, IfOk, IfNone}
use Rattle.std.specs.List.{list_any}
use Rattle.std.proofs.lemmas.Bool.Decides.{nat_tests}
use Rattle.std.proofs.lemmas.Fmt.{decimal_injective}
use Rattle.bidi_tree.specs.Node as node
use Rattle.bidi_tree.specs.Node.{Node}
use Rattle.bidi_tree.specs.Text.{tree_of_text}
use Rattle.bidi_tree.specs.declared.number.JsUint.{JsUint}
use Rattle.bidi_shape.specs.Fits.{Fits}
use Rattle.bidi_shape.specs.Table.{same_some}
use Rattle.bidi_shape.specs.Term.{rule}
use Rattle.bidi_shape.specs.WordLaws.{word_one}
use Rattle.bidi_methods.specs.Method.{method_text, method_words, params_of}
use Rattle.bidi_methods.specs.declared.method.Method.{Method}
use Rattle.bidi_methods.specs.declared.method.Method.TheVariants.{SessionStatus, SessionNew, SessionEnd, SessionSubscribe}
use Rattle.bidi_methods.specs.declared.method.Method.TheVariants.{SessionUnsubscribe, BrowsingContextActivate, BrowsingContextClose}
use Rattle.bidi_methods.specs.declared.method.Method.TheVariants.{BrowsingContextCreate, BrowsingContextGetTree}
use Rattle.bidi_methods.specs.declared.method.Method.TheVariants.{BrowsingContextNavigate, BrowsingContextReload}
use Rattle.bidi_methods.specs.declared.method.Method.TheVariants.{BrowsingContextTraverseHistory, ScriptEvaluate, ScriptCallFunction}
use Rattle.bidi_methods.specs.declared.method.Method.TheVariants.{ScriptDisown, ScriptGetRealms, BrowserCreateUserContext}
use Rattle.bidi_methods.specs.declared.method.Method.TheVariants.{BrowserGetUserContexts, BrowserRemoveUserContext}
use Rattle.bidi_methods.specs.declared.command_data.CommandData.{CommandData}
use Rattle.bidi_methods.specs.contracts.command_data.CommandDataPayloadMethod.TheImpl as asks
use Rattle.bidi_sessions.specs.Step as play
use Rattle.bidi_sessions.specs.View.{page_of}
use Rattle.bidi_ledger.specs.Steps.{IsWell, sending_of}
use Rattle.bidi_ledger.specs.declared.pair_step.PairStep.{PairStep}
use Rattle.bidi_ledger.specs.declared.pair_step.PairStep.TheVariants.{Open, Send, Up, Down, Cut, At, Page}
use Rattle.bidi_lines.proofs.FeedLemmas.{one_front}
use Rattle.bidi_lines.proofs.ResultLemmas.{no_truth}
use Rattle.bidi_play.specs.Lines.{line_of, IsSayable}
use Rattle.bidi_play.proofs.DigitLemmas.{no_space}
use Rattle.bidi_play.proofs.ReadingLemmas.{one_step}
use Rattle.bidi_play.proofs.WordLemmas.{Splits, page_word, page_found}
use Rattle.bidi_pair_lines.specs.PairLines.{IsOfPlayAlone, Says, sending_line}

-- ---- the parts of a line that sends a command

-- the text of a method holds no space
no_space_in : (m : Method) → list_any (λ b. b == 32) (method_text m) ≡ false
no_space_in SessionStatus = refl
no_space_in SessionNew = refl
no_space_in SessionEnd = refl
no_space_in SessionSubscribe = refl
no_space_in SessionUnsubscribe = refl
no_space_in BrowsingContextActivate = refl
no_space_in BrowsingContextClose = refl
no_space_in BrowsingContextCreate = refl
no_space_in BrowsingContextGetTree = refl
no_space_in BrowsingContextNavigate = refl
no_space_in BrowsingContextReload = refl
no_space_in BrowsingContextTraverseHistory = refl
no_space_in ScriptEvaluate = refl
no_space_in ScriptCallFunction = refl
no_space_in ScriptDisown = refl
no_space_in ScriptGetRealms = refl
no_space_in BrowserCreateUserContext = refl
no_space_in BrowserGetUserContexts = refl
no_space_in BrowserRemoveUserContext = refl

-- a search for the first space after `send ` finds the link
pub link_first : (rest method params : List ℕ) (l : ℕ) (Parts : List ℕ → List ℕ → Type 0) → Splits rest Parts → l < 2 ^ 53
    → codes "send " ++ rest ≡ sending_line l method params → Parts (decimal l) (method ++ 32 ∷ params)
link_first rest method params l Parts first below e =
    first (decimal l) (method ++ 32 ∷ params) (ap (drop 5) e ∙ append_assoc (decimal l) (32 ∷ method) (32 ∷ params)) (no_space l (omega arith))

-- a search for the first space after the link finds the method
pub method_first : (command params : List ℕ) (m : Method) (Parts : List ℕ → List ℕ → Type 0) → Splits command Parts
    → command ≡ method_text m ++ 32 ∷ params → Parts (method_text m) params
method_first command params m Parts first e = first (method_text m) params e (no_space_in m)

-- the link, the method and the params are determined
parts : (l n : ℕ) (m k : Method) (text params : List ℕ) → l < 2 ^ 53 → n < 2 ^ 53
    → sending_line l (method_text m) text ≡ sending_line n (method_text k) params → (l ≡ n) × (m ≡ k) × (text ≡ params)
parts l n m k text params below less e =
    let links = one_front 32 (decimal l) (method_text m ++ 32 ∷ text) (decimal n) (method_text k ++ 32 ∷ params) (no_space l (omega arith)) (no_space n (omega arith))
    (sym (append_assoc (decimal l) (32 ∷ method_text m) (32 ∷ text)) ∙ (ap (drop 5) e ∙ append_assoc (decimal n) (32 ∷ method_text k) (32 ∷ params))) in
    let methods = one_front 32 (method_text m) text (method_text k) params (no_space_in m) (no_space_in k) links.1 in
    (decimal_injective l n (omega arith) (omega arith) links.0, word_one method_words m k (ap node.text methods.0), methods.1)

-- the text after `send `, by its parts
pub sending_is : (rest number command params : List ℕ) (l : ℕ) (m : Method) → rest ≡ number ++ 32 ∷ command → number ≡ decimal l → command ≡ method_text m ++ 32 ∷ params
    → codes "send " ++ rest ≡ sending_line l (method_text m) params
sending_is rest number command params l m e is parted =
    ap (λ r. codes "send " ++ r) (e ∙ (ap (λ n. n ++ 32 ∷ command) is ∙ (ap (λ c. decimal l ++ 32 ∷ c) parted ∙ sym (append_assoc (decimal l) (32 ∷ method_text m) (32 ∷ params)))))

-- a line that sends a command names the link of the step
pub sends_at : (line params : List ℕ) (m : Method) (l n : JsUint) (d : CommandData) → line ≡ sending_line n.value (method_text m) params
    → Says line (Send l d) → Says (sending_line n.value (method_text m) params) (Send n d)
sends_at line params m l n d is (text, e, tree) =
    let h = parts n.value l.value m (asks.ghosts.payload.kind d) params text n.in_range l.in_range (sym is ∙ e) in
    (text, sym is ∙ (e ∙ ap (λ k. sending_line k (sending_of d).method text) (sym h.0)), tree)

-- no command is sent by params whose tree does not fit the rule of the method
pub no_sending : (l : JsUint) (m : Method) (text : List ℕ) (t : Node) (d : CommandData) → tree_of_text None text ≡ Some t → (Fits t (rule (params_of m)) → ⊥)
    → IsWell (Send l d) → Says (sending_line l.value (method_text m) text) (Send l d) → ⊥
no_sending l m text t d tree misfit well (params, e, is) =
    let h = parts l.value l.value m (asks.ghosts.payload.kind d) text params l.in_range l.in_range e in
    let same : t ≡ asks.ghosts.payload.tree_of d = same_some (sym tree ∙ (ap (tree_of_text None) h.2 ∙ is)) in
    misfit (subst (λ k. Fits t (rule (params_of k))) (sym h.1) (subst (λ u. Fits u (rule (params_of (asks.ghosts.payload.kind d)))) (sym same) (asks.ghosts.payload.fits d well)))

-- nor by params that have no tree
pub no_tree : (l : JsUint) (m : Method) (text : List ℕ) (d : CommandData) → tree_of_text None text ≡ None
    → Says (sending_line l.value (method_text m) text) (Send l d) → ⊥
no_tree l m text d none (params, e, is) =
    let h = parts l.value l.value m (asks.ghosts.payload.kind d) text params l.in_range l.in_range e in
    cc

-- ---- the first word

abbrev word_of : PairStep → List ℕ
word_of (Open l resource) = codes "open"
word_of (Send l d) = codes "send"
word_of (Up l) = codes "up"
word_of (Down l) = codes "down"
word_of (Cut l) = codes "cut"
word_of (At n) = codes "at"
word_of (Page page) = page_word (page_of page)

-- a search for the first space finds the word of the step
found : (line : List ℕ) (P : List ℕ → Type 0) → Splits line (λ xs ys. P xs) → (x : PairStep) → Says line x → P (word_of x)
found line P h (Open l resource) s = h (codes "open") (decimal l.value ++ 32 ∷ string_bytes resource) s.1 refl
found line P h (Send l d) (params, e, tree) = h (codes "send") (decimal l.value ++ 32 ∷ (sending_of d).method ++ 32 ∷ params) e refl
found line P h (Up l) s = h (codes "up") (decimal l.value) s refl
found line P h (Down l) s = h (codes "down") (decimal l.value) s refl
found line P h (Cut l) s = h (codes "cut") (decimal l.value) s refl
found line P h (At n) s = h (codes "at") (decimal n.value) s.1 refl
found line P h (Page page) s = page_found line (λ xs ys. P xs) h (page_of page) s.1

-- so each line has a space
pub has_space : (line : List ℕ) → Splits line (λ xs ys. ⊥) → (x : PairStep) → Says line x → ⊥
has_space line h x s = found line (λ xs. ⊥) h x s

-- the first two letters of a word
abbrev mark : List ℕ → ℕ
mark (a ∷ b ∷ more) = 256 * a + b
mark more = 0

apart : (a b : ℕ) → a ≡ b → (a == b) ≡ false → ⊥
apart a b e f = no_truth (grind (arith, nat_tests))

-- the word that is found is that of the step
abbrev pub Finds : List ℕ → List ℕ → List ℕ → Type 0
Finds line word rest = Splits line (λ xs ys. (word ≡ xs) × (rest ≡ ys))

is_word : (line word rest : List ℕ) → Finds line word rest → (x : PairStep) → Says line x → word ≡ word_of x
is_word line word rest h x s = found line (λ xs. word ≡ xs) (λ xs ys e none. (h xs ys e none).0) x s

marks : (line word rest known : List ℕ) → Finds line word rest → word ≡ known → (x : PairStep) → Says line x → mark known ≡ mark (word_of x)
marks line word rest known h is x s = ap mark (sym is ∙ is_word line word rest h x s)

-- a step of a page has another word than `send`, `up`, `down` and `cut`
page_apart : (page : play.PageStep) → let m = mark (page_word page) in
    ((mark (codes "send") == m) ≡ false) × ((mark (codes "up") == m) ≡ false) × ((mark (codes "down") == m) ≡ false) × ((mark (codes "cut") == m) ≡ false)
page_apart (play.Frame context url) = (refl, refl, refl, refl)
page_apart (play.Unframe context) = (refl, refl, refl, refl)
page_apart (play.Log context level text) = (refl, refl, refl, refl)
page_apart (play.TableRow text) = (refl, refl, refl, refl)

-- a line whose word is `send` says a sending or nothing
pub send_alone : (line word rest : List ℕ) → Finds line word rest → word ≡ codes "send"
    → ((l : JsUint) (d : CommandData) → IsWell (Send l d) → Says (codes "send " ++ rest) (Send l d) → ⊥) → (x : PairStep) → IsWell x → Says line x → ⊥
send_alone line word rest h is none (Send l d) well (params, e, tree) =
    let behind = decimal l.value ++ 32 ∷ (sending_of d).method ++ 32 ∷ params in
    none l d well (params, ap (λ r. codes "send " ++ r) (h (codes "send") behind e refl).1, tree)
send_alone line word rest h is none (Page page) well s =
    apart (mark (codes "send")) (mark (page_word (page_of page))) (marks line word rest (codes "send") h is (Page page) s) (page_apart (page_of page)).0
send_alone line word rest h is none x well s = apart (mark (codes "send")) (mark (word_of x)) (marks line word rest (codes "send") h is x s) refl

-- and so with `up`, `down` and `cut`
pub up_alone : (line word rest : List ℕ) → Finds line word rest → word ≡ codes "up"
    → ((n : ℕ) → n < 2 ^ 53 → rest ≡ decimal n → ⊥) → (x : PairStep) → IsWell x → Says line x → ⊥
up_alone line word rest h is none (Up l) well s = none l.value l.in_range (h (codes "up") (decimal l.value) s refl).1
up_alone line word rest h is none (Page page) well s =
    apart (mark (codes "up")) (mark (page_word (page_of page))) (marks line word rest (codes "up") h is (Page page) s) (page_apart (page_of page)).1
up_alone line word rest h is none x well s = apart (mark (codes "up")) (mark (word_of x)) (marks line word rest (codes "up") h is x s) refl

pub down_alone : (line word rest : List ℕ) → Finds line word rest → word ≡ codes "down"
    → ((n : ℕ) → n < 2 ^ 53 → rest ≡ decimal n → ⊥) → (x : PairStep) → IsWell x → Says line x → ⊥
down_alone line word rest h is none (Down l) well s = none l.value l.in_range (h (codes "down") (decimal l.value) s refl).1
down_alone line word rest h is none (Page page) well s =
    apart (mark (codes "down")) (mark (page_word (page_of page))) (marks line word rest (codes "down") h is (Page page) s) (page_apart (page_of page)).2
down_alone line word rest h is none x well s = apart (mark (codes "down")) (mark (word_of x)) (marks line word rest (codes "down") h is x s) refl

pub cut_alone : (line word rest : List ℕ) → Finds line word rest → word ≡ codes "cut"
    → ((n : ℕ) → n < 2 ^ 53 → rest ≡ decimal n → ⊥) → (x : PairStep) → IsWell x → Says line x → ⊥
cut_alone line word rest h is none (Cut l) well s = none l.value l.in_range (h (codes "cut") (decimal l.value) s refl).1
cut_alone line word rest h is none (Page page) well s =
    apart (mark (codes "cut")) (mark (page_word (page_of page))) (marks line word rest (codes "cut") h is (Page page) s) (page_apart (page_of page)).3
cut_alone line word rest h is none x well s = apart (mark (codes "cut")) (mark (word_of x)) (marks line word rest (codes "cut") h is x s) refl

-- a line of any other word says a step of a play that is also one of both ends, or nothing
pub play_alone : (line word rest : List ℕ) → Finds line word rest
    → (word ≡ codes "send" → ⊥) → (word ≡ codes "up" → ⊥) → (word ≡ codes "down" → ⊥) → (word ≡ codes "cut" → ⊥)
    → ((t : play.Step) → (IsOfPlayAlone t → ⊥) → IsSayable t → line ≡ line_of t → ⊥) → (x : PairStep) → Says line x → ⊥
play_alone line word rest h s u d c none (Open l resource) says = none (play.Open l.value (string_bytes resource)) (λ z. z) says.0 says.1
play_alone line word rest h s u d c none (Send l asked) says = s (is_word line word rest h (Send l asked) says)
play_alone line word rest h s u d c none (Up l) says = u (is_word line word rest h (Up l) says)
play_alone line word rest h s u d c none (Down l) says = d (is_word line word rest h (Down l) says)
play_alone line word rest h s u d c none (Cut l) says = c (is_word line word rest h (Cut l) says)
play_alone line word rest h s u d c none (At n) says = none (play.At n.value) (λ z. z) says.0 says.1
play_alone line word rest h s u d c none (Page page) says = none (play.Page (page_of page)) (λ z. z) says.0 says.1

-- the line of a step that only a play has is not such a line
pub not_of_both : (line : List ℕ) (s : play.Step) → IsSayable s → line ≡ line_of s → IsOfPlayAlone s
    → (t : play.Step) → (IsOfPlayAlone t → ⊥) → IsSayable t → line ≡ line_of t → ⊥
not_of_both line s sayable is alone t both also e = both (subst IsOfPlayAlone (one_step s t sayable also (sym is ∙ e)) alone)

-- the facts if nothing was found
pub if_none_in : {A E : Type 0} (r : Result (Option A) E) (P Q : Type 0) → (P → Q) → IfOk r (λ o. IfNone o P) → IfOk r (λ o. IfNone o Q)
if_none_in (Err e) P Q f h = tt
if_none_in (Ok None) P Q f h = f h
if_none_in (Ok (Some x)) P Q f h = tt

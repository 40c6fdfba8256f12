-- The answers and the commands of the code, and those that they stand for.
use Rattle.std.proofs.Common.{◌≡◌, ◌∙◌, ℕ, suc, ◌+◌, Bool, List, [], ◌∷◌, ◌++◌, length, take, drop, Option, Some, None, refl, sym, ap, map}
use Rattle.std.specs.Prelude.{cond, nat_lt, not, position, remove, replicate}
use Rattle.std.specs.List.{flat_map, prefix_len}
use Rattle.std.proofs.lemmas.List.{drop-map, length-map, map-append, take-map}
use Rattle.std.proofs.lemmas.List.Folds.{flat_map-map}
use Rattle.bidi_tree.specs.declared.number.JsUint.{JsUint}
use Rattle.bidi_methods.specs.declared.method.Method.{Method}
use Rattle.bidi_local.specs.Pending.{Pending}
use Rattle.bidi_remarks.specs.Remark.{unanswered_line}
use Rattle.bidi_remarks.specs.declared.texts.Form.{Form}
use Rattle.bidi_why.specs.Conversing.{command_of, is_any, is_id, or_else, place_of, unanswered_entries, unanswered_lines, waiting_command}
use Rattle.bidi_why.specs.Conversing.{Unanswered as Command}
use Rattle.bidi_why.specs.Explainers.{all_kept_in, kept_in, unanswered_in}
use Rattle.bidi_why.specs.Summary.{unanswered}
use Rattle.bidi_why.specs.declared.ids.Kept.{Kept}
use Rattle.bidi_why.specs.declared.unanswered.Unanswered.{Unanswered}

-- ---- answers

prefix_len-map : {X Y : Type 0} (p : Y → Bool) (f : X → Y) (xs : List X) → prefix_len p (map f xs) ≡ prefix_len (λ x. p (f x)) xs
prefix_len-map p f [] = refl
prefix_len-map p f (x ∷ xs) = ap (λ (n : ℕ). cond (p (f x)) (1 + n) 0) (prefix_len-map p f xs)

position-map : {X Y : Type 0} (p : Y → Bool) (f : X → Y) (xs : List X) → position p (map f xs) ≡ position (λ x. p (f x)) xs
position-map p f xs =
    let front = prefix_len-map (λ y. not (p y)) f xs in
    λ i. cond (nat_lt (front i) (length-map xs f i)) (Some (front i)) None

-- the place of an answer is that of what it stands for
pub place_of-map : (id : Option ℕ) (answers : List Kept)
    → place_of id (all_kept_in answers) ≡ or_else (position (λ k. is_id id (kept_in k)) answers) (position (λ k. is_any (kept_in k)) answers)
place_of-map id answers = λ i. or_else (position-map (is_id id) kept_in answers i) (position-map is_any kept_in answers i)

-- an answer is removed from the code's where it is from what they stand for
pub remove-map : {X Y : Type 0} (f : X → Y) (xs : List X) (i : ℕ) → remove (map f xs) i ≡ map f (remove xs i)
remove-map f xs i = (λ k. take-map f i xs k ++ drop-map f (suc i) xs k) ∙ sym (map-append f (take i xs) (drop (suc i) xs))

-- ---- commands

-- the commands that wait and those beyond the profile, of the code's and of what these stand for
pub commands_as : (lines : List (ℕ × ℕ)) (ws : List (JsUint × Method)) (waiting : Pending) (answers : List Kept) → map (λ w. (w.0.value, w.1)) ws ≡ waiting
    → map (λ w. waiting_command lines (w.0.value, w.1)) ws ++ flat_map (λ k. command_of (kept_in k)) answers
    ≡ map (waiting_command lines) waiting ++ flat_map command_of (all_kept_in answers)
commands_as lines ws waiting answers is =
    (λ i. each ws i ++ sym (flat_map-map command_of kept_in answers) i)
    ∙ ap (λ (w : Pending). map (waiting_command lines) w ++ flat_map command_of (all_kept_in answers)) is
  where
    each : (ws : List (JsUint × Method))
        → map (λ (w : JsUint × Method). waiting_command lines (w.0.value, w.1)) ws ≡ map (waiting_command lines) (map (λ (w : JsUint × Method). (w.0.value, w.1)) ws)
    each [] = refl
    each (w ∷ ws) = ap (λ (l : List Command). waiting_command lines (w.0.value, w.1) ∷ l) (each ws)

-- what is written for the commands of the code
pub lines_as : (form : Option Form) (seen commands : List Unanswered) (all : List Command) → seen ≡ commands → map unanswered_in commands ≡ all
    → flat_map (λ c. unanswered_line form c.line c.id c.method.now) seen ≡ unanswered_lines form all
lines_as form seen commands all same is =
    ap (flat_map (λ (c : Unanswered). unanswered_line form c.line c.id c.method.now)) same
    ∙ sym (flat_map-map (λ (c : Command). unanswered_line form c.line c.id c.method) unanswered_in commands) ∙ ap (unanswered_lines form) is

-- and how they are counted
pub entries_as : (k : ℕ) (seen commands : List Unanswered) (all : List Command) → seen ≡ commands → map unanswered_in commands ≡ all → k ≡ length seen
    → replicate k unanswered ≡ unanswered_entries all
entries_as k seen commands all same is counted =
    ap (λ (m : ℕ). replicate m unanswered) (counted ∙ ap length same ∙ sym (length-map commands unanswered_in) ∙ ap length is)

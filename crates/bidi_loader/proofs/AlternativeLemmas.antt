-- What the lists of a group's parts give for the group.
use Rattle.std.proofs.Common.{◌≡◌, ◌<◌, ℕ, List, [], ◌∷◌, ◌++◌, Option, Some, sym, ap, subst, ◌∙◌}
use Rattle.std.specs.Prelude.{Result, Ok, Err, IfOk, String, is_some, option_and_then}
use Rattle.std.specs.Global.{Vec}
use Rattle.std.specs.Borrow.{Bor}
use Rattle.std.specs.declared.alloc.Global.{Global}
use Rattle.bidi_grammar.specs.Source as source
use Rattle.bidi_grammar.specs.Source.{Written, Group, Entry, Rules, Lists, lists_empty, pairs}
use Rattle.bidi_grammar.specs.View.{need_of}
use Rattle.bidi_cddl.specs.declared.written.Occurs.{Occurs}
use Rattle.bidi_cddl.specs.declared.written.Node.TheVariants as node
use Rattle.bidi_cddl.specs.declared.written.Rule.{Rule}
use Rattle.bidi_cddl.specs.declared.written.Written as code
use Rattle.bidi_loader.specs.declared.entry.Entry as code_entry
use Rattle.bidi_loader.specs.declared.entry.Entry.TheVariants.{Named, Further}
use Rattle.bidi_loader.specs.Meaning.{Tree, type_at, group_at, entry_of, name_type, bare_group, some_of, rule_named, group_of_body, rules_of, written_trees}
use Rattle.bidi_loader.specs.Readings.{IsNode, lists_view, entry_view, text_at}
use Rattle.bidi_loader.proofs.NodeLemmas.{type-is}
use Rattle.bidi_loader.proofs.GroupLemmas.{lists_of_both, lists_of_choice, lists_of_name, lists_of_member, lists_of_further}

-- nothing
pub nothing_ok : {E : Type 0} (r : Result (Vec (Vec ℕ)) E) (ρ : Rules) (trees : List Tree) (G : Group) → G ≡ source.empty
    → IfOk r (λ found. (ts : List Tree) → lists_view ts found ≡ [] ∷ []) → IfOk r (λ found. Lists ρ G (lists_view trees found))
nothing_ok (Ok found) ρ trees G e h =
    subst (λ A. Lists ρ A (lists_view trees found)) (sym e) (subst (λ zss. Lists ρ source.empty zss) (sym (h trees)) lists_empty)
nothing_ok (Err x) ρ trees G e h = tt

-- `A, B`
pub both_ok : {E : Type 0} (r : Result (Vec (Vec ℕ)) E) (ρ : Rules) (trees : List Tree) (G A B : Group) (firsts seconds : Vec (Vec ℕ)) → G ≡ source.both A B
    → Lists ρ A (lists_view trees firsts) → Lists ρ B (lists_view trees seconds)
    → IfOk r (λ found. (ts : List Tree) → lists_view ts found ≡ pairs (lists_view ts firsts) (lists_view ts seconds))
    → IfOk r (λ found. Lists ρ G (lists_view trees found))
both_ok (Ok found) ρ trees G A B firsts seconds e a b h =
    lists_of_both ρ G A B (lists_view trees found) (lists_view trees firsts) (lists_view trees seconds) e (h trees) a b
both_ok (Err x) ρ trees G A B firsts seconds e a b h = tt

-- `A // B`
pub choice_ok : {E : Type 0} (r : Result (Vec (Vec ℕ)) E) (ρ : Rules) (trees : List Tree) (G A B : Group) (firsts seconds : Vec (Vec ℕ)) → G ≡ source.choice A B
    → Lists ρ A (lists_view trees firsts) → Lists ρ B (lists_view trees seconds)
    → IfOk r (λ found. (ts : List Tree) → lists_view ts found ≡ lists_view ts firsts ++ lists_view ts seconds)
    → IfOk r (λ found. Lists ρ G (lists_view trees found))
choice_ok (Ok found) ρ trees G A B firsts seconds e a b h =
    lists_of_choice ρ G A B (lists_view trees found) (lists_view trees firsts) (lists_view trees seconds) e (h trees) a b
choice_ok (Err x) ρ trees G A B firsts seconds e a b h = tt

-- a group that may occur so often
pub some_ok : {E : Type 0} (r : Result (Vec (Vec ℕ)) E) (ρ : Rules) (trees : List Tree) (G A : Group) (occurs : Occurs) (lists : Vec (Vec ℕ)) → G ≡ some_of occurs A
    → Lists ρ A (lists_view trees lists)
    → IfOk r (λ found. (ϱ : Rules) (ts : List Tree) (B : Group) → Lists ϱ B (lists_view ts lists) → Lists ϱ (some_of occurs B) (lists_view ts found))
    → IfOk r (λ found. Lists ρ G (lists_view trees found))
some_ok (Ok found) ρ trees G A occurs lists e a h = subst (λ B. Lists ρ B (lists_view trees found)) (sym e) (h ρ trees A a)
some_ok (Err x) ρ trees G A occurs lists e a h = tt

-- a group that comes before a node
pub before_ok : {E : Type 0} (r : Result (Vec (Vec ℕ)) E) (ρ : Rules) (trees : List Tree) (G : Group) (m n : ℕ) → m < n
    → IfOk r (λ found. Lists ρ G (lists_view trees found)) → IfOk r (λ found. (m < n) × Lists ρ G (lists_view trees found))
before_ok (Ok found) ρ trees G m n l h = (l, h)
before_ok (Err x) ρ trees G m n l h = tt

-- the same without that it comes before
pub without_before : {E : Type 0} (r : Result (Vec (Vec ℕ)) E) (ρ : Rules) (trees : List Tree) (G : Group) (m n : ℕ)
    → IfOk r (λ found. (m < n) × Lists ρ G (lists_view trees found)) → IfOk r (λ found. Lists ρ G (lists_view trees found))
without_before (Ok found) ρ trees G m n h = h.1
without_before (Err x) ρ trees G m n h = tt

-- an entry
pub entry_lists : (ρ : Rules) (trees : List Tree) (texts : List (String Global)) (k : ℕ) (x : code_entry.Entry) (G : Group) (zss : List (List Entry))
    → G ≡ entry_view trees texts k x → zss ≡ (entry_of G ∷ []) ∷ [] → Lists ρ G zss
entry_lists ρ trees texts k (Named need i) G zss e f =
    lists_of_member ρ G (text_at texts k) (need_of need) (type_at trees i) zss e (f ∙ ap (λ (A : Group). (entry_of A ∷ []) ∷ []) e)
entry_lists ρ trees texts k (Further i) G zss e f =
    lists_of_further ρ G (type_at trees i) zss e (f ∙ ap (λ (A : Group). (entry_of A ∷ []) ∷ []) e)

-- a group by its name
pub named_lists : (w : code.Written) (k i : ℕ) (name : Bor (List ℕ)) (rule : Rule) (xss : List (List Entry)) → IsNode w k (node.Name name)
    → Some rule ≡ rule_named name.now w.rules.items → Some (group_at (written_trees w) i) ≡ group_of_body (written_trees w) rule.body
    → Lists (rules_of w) (group_at (written_trees w) i) xss → Lists (rules_of w) (bare_group (type_at (written_trees w) k)) xss
named_lists w k i name rule xss here e f h =
    let trees = written_trees w in
    let is-name : type_at trees k ≡ source.name name.now =
    type-is w k (node.Name name) here ∙ ap (λ (o : Option Rule). name_type (is_some o) name.now) (sym e) in
    lists_of_name (rules_of w) (bare_group (type_at trees k)) (group_at trees i) name.now xss (ap bare_group is-name)
    (ap (option_and_then (λ (r : Rule). group_of_body trees r.body)) (sym e) ∙ sym f) h

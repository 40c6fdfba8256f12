use Rattle.std.proofs.Common.{◌≡◌, ◌∙◌, ◌++◌, ℕ, List, [], Some, Result, Ok, Err, IfOk, String, Global, string_bytes, ap}
use Rattle.bidi_tree.specs.Node.{Node}
use Rattle.bidi_tree.specs.Text.{tree_of}
use Rattle.bidi_tree.specs.Outline.{outline_node}
use Rattle.bidi_tree.proofs.OutlineLemmas.{IsSound-outline_node}
use Rattle.bidi_tree.proofs.RoundTrip.{tree_of-compact_text}
use Rattle.bidi_tree.proofs.writing.write_outline.Goals as goal

-- a text that stands behind nothing
alone : {E : Type 0} (r : Result (String Global) E) (s t : List ℕ) → s ≡ [] → IfOk r (λ x. string_bytes x ≡ s ++ t) → IfOk r (λ x. string_bytes x ≡ t)
alone (Ok x) s t none is = is ∙ ap (λ y. y ++ t) none
alone (Err e) s t none is = tt

-- it reads back
back : {E : Type 0} (r : Result (String Global) E) (t : List ℕ) (n : Node) → tree_of t ≡ Some n → IfOk r (λ x. string_bytes x ≡ t)
    → IfOk r (λ x. tree_of (string_bytes x) ≡ Some n)
back (Ok x) t n reads is = ap tree_of is ∙ reads
back (Err e) t n reads is = tt

pub returns-clause-text : goal.returns-clause-text
returns-clause-text c = alone c.append_outline.result _ _ c.in_ok-with_capacity.ensures.bytes c.append_outline.ensures

pub returns-clause-reads_back : goal.returns-clause-reads_back
returns-clause-reads_back c =
    back c.append_outline.result _ (outline_node c.args.outline.now)
    (tree_of-compact_text (outline_node c.args.outline.now) (IsSound-outline_node c.args.outline.now) c.requires) (returns-clause-text c)

use Rattle.std.proofs.Common.{◌≡◌, ℕ, length, codes, string_bytes, IfOk, subst, ◌∙◌, rules}
use Rattle.bidi_tree.proofs.OutlineLemmas.{outline_node-List}
use Rattle.bidi_blame.specs.Words.{count_words}
use Rattle.bidi_blame.proofs.WordLemmas.{length-outline_items, length-named_outlines, outline_node-Map}
use Rattle.bidi_blame.proofs.words.tree_words.Goals as goal

pub returns-in-List : goal.returns-in-List
returns-in-List c =
    let long : c.len.result ≡ length c.in-List.items.items = search rules in
    let many = long ∙ length-outline_items c.in-List.items.items in
    rw (c.in-List.is, outline_node-List c.in-List.items)
    (subst (λ (n : ℕ). IfOk c.count_words.result (λ s. string_bytes s ≡ count_words (codes "array") (codes "item") n)) many c.count_words.ensures)

pub returns-in-Map : goal.returns-in-Map
returns-in-Map c =
    let many = c.len-in-Map.ensures ∙ length-named_outlines c.in-Map.members.entries.items in
    rw (c.in-Map.is, outline_node-Map c.in-Map.members)
    (subst (λ (n : ℕ). IfOk c.count_words-in-Map.result (λ s. string_bytes s ≡ count_words (codes "object") (codes "member") n)) many c.count_words-in-Map.ensures)

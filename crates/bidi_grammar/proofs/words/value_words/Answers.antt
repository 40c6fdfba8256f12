use Rattle.std.proofs.Common.{◌≡◌, ℕ, length, codes, string_bytes, IfOk, subst, sym, ◌∙◌, rules}
use Rattle.bidi_grammar.specs.Words.{count_words}
use Rattle.bidi_grammar.proofs.JudgeLemmas.{count-items_view}
use Rattle.bidi_grammar.proofs.WordLemmas.{length-members_view, value_view-Array, value_view-Object}
use Rattle.bidi_grammar.proofs.words.value_words.Goals as goal

pub returns-in-Array : goal.returns-in-Array
returns-in-Array c =
    let long : c.len.result ≡ length c.in-Array.items.items = search rules in
    let many = long ∙ sym (count-items_view c.in-Array.items.items) in
    rw (c.in-Array.is, value_view-Array c.in-Array.items)
    (subst (λ (n : ℕ). IfOk c.count_words.result (λ s. string_bytes s ≡ count_words (codes "array") (codes "item") n)) many c.count_words.ensures)

pub returns-in-Object : goal.returns-in-Object
returns-in-Object c =
    let long : c.len-in-Object.result ≡ length c.in-Object.members.items = search rules in
    let many = long ∙ length-members_view c.in-Object.members.items in
    rw (c.in-Object.is, value_view-Object c.in-Object.members)
    (subst (λ (n : ℕ). IfOk c.count_words-in-Object.result (λ s. string_bytes s ≡ count_words (codes "object") (codes "member") n)) many c.count_words-in-Object.ensures)

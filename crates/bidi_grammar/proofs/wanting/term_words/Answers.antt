use Rattle.std.proofs.Common.{◌≡◌, ◌++◌, IfOk, codes, string_bytes}
use Rattle.std.specs.Fmt.{signed_decimal}
use Rattle.bidi_grammar.proofs.wanting.term_words.Goals as goal

pub returns-in-Whole : goal.returns-in-Whole
returns-in-Whole c =
    let said : IfOk c.format.result (λ s. string_bytes s ≡ codes "a whole number from " ++ (signed_decimal c.in-Whole.least ++ (codes " to " ++ signed_decimal c.in-Whole.most))) = c.format.ensures.ok in
    rw c.in-Whole.is said

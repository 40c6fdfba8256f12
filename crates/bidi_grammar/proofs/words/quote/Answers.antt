use Rattle.std.proofs.Common.{◌≡◌, ◌++◌, ◌∙◌, ℕ, List, [], ◌∷◌, ap, ap₂, rules}
use Rattle.json.specs.Print.{print}
use Rattle.json.specs.Token as token
use Rattle.bidi_grammar.proofs.WordLemmas.{print-string}
use Rattle.bidi_grammar.proofs.words.quote.Goals as goal

pub returns : goal.returns
returns c =
    let s = c.args.text.now in
    let before : c.string.new.self.before ≡ [] = search rules in
    let tokens : c.string.new.self.tokens ≡ token.string s ∷ [] = c.in_ok-string.ensures.ok ∙ ap (λ (ts : List token.Token). ts ++ token.string s ∷ []) c.new-out.ensures.tokens in
    ap (λ v. v.items) c.from_utf8_unchecked.ensures.value
    ∙ (c.into_inner.ensures.items ∙ ap₂ (λ (a b : List ℕ). a ++ b) before (ap print tokens ∙ print-string s))

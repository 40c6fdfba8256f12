use Rattle.std.proofs.Common.{◌≡◌, ◌∙◌, ℕ, List, [], ◌∷◌, ◌++◌, append-nil, ap, ap₂}
use Rattle.json.specs.Print.{print, print_from, quoted}
use Rattle.json.specs.Token.{Token, string}
use Rattle.bidi_remarks.proofs.putting.put_quoted.Goals as goal

-- what is written of one text alone
print-string : (s : List ℕ) → print (string s ∷ []) ≡ quoted s
unfolding print_from
print-string s = append-nil (quoted s)

-- what is written of the value stands behind the text
pub returns : goal.returns
returns c =
    let before = c.in_ok-string.ensures.room.0 ∙ (c.new-out.ensures.before ∙ ap (λ v. v.items) c.replace.ensures.value) in
    let tokens = c.in_ok-string.ensures.ok ∙ ap (λ (ts : List Token). ts ++ string c.args.value.now ∷ []) c.new-out.ensures.tokens in
    c.into_inner.ensures.items
    ∙ (ap₂ (λ (b : List ℕ) (ts : List Token). b ++ print ts) before tokens
    ∙ ap (λ (q : List ℕ). c.args.text.now.items ++ q) (print-string c.args.value.now))

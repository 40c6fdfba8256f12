use Rattle.std.proofs.Common.{◌≡◌, ◌++◌, ◌∙◌, ℕ, List, string_bytes, sym, ap, ap₂, subst}
use Rattle.std.specs.Str.{IsUtf8}
use Rattle.std.proofs.lemmas.Str.{IsUtf8-append, IsUtf8-string_bytes}
use Rattle.json.specs.Print.{print}
use Rattle.bidi_tree.specs.Data.{tokens_of}
use Rattle.bidi_tree.specs.Text.{compact_text}
use Rattle.bidi_tree.specs.Outline.{outline_node}
use Rattle.bidi_tree.proofs.RoundTrip.{print-tokens_of}
use Rattle.bidi_tree.proofs.writing.append_outline.Goals as goal

pub from_utf8_unchecked-requires : goal.from_utf8_unchecked-requires
from_utf8_unchecked-requires c =
    let before : c.write_value.new.out.before ≡ string_bytes c.args.text =
    c.in_ok-write_value.ensures.before ∙ (c.new-out.ensures.before ∙ ap (λ v. v.items) c.into_bytes.ensures.value) in
    subst IsUtf8 (sym c.into_inner.ensures.items) (IsUtf8-append c.write_value.new.out.before (print c.write_value.new.out.tokens)
    (subst IsUtf8 (sym before) (IsUtf8-string_bytes c.args.text)) c.into_inner.ensures.utf8)

pub returns : goal.returns
returns c =
    let n = outline_node c.args.outline.now in
    let before = c.in_ok-write_value.ensures.before ∙ c.new-out.ensures.before in
    let tokens = c.in_ok-write_value.ensures.tokens ∙ ap (λ ts. ts ++ tokens_of n) c.new-out.ensures.tokens in
    ap (λ v. v.items) c.from_utf8_unchecked.ensures.value
    ∙ (c.into_inner.ensures.items ∙ (ap₂ (λ (a b : List ℕ). a ++ b) before (ap print tokens ∙ print-tokens_of n c.requires.0)
    ∙ ap (λ v. v.items ++ compact_text n) c.into_bytes.ensures.value))

use Rattle.std.proofs.Common.{ap, sym, ◌∙◌, subst}
use Rattle.bidi_tree.specs.Node as kind
use Rattle.bidi_shape.specs.Fits.{Fits}
use Rattle.bidi_shape.specs.KindLaws.{is_text, no_text}
use Rattle.bidi_shape.specs.WordLaws.{text_of-value_named, word_misfit, word_is_text}
use Rattle.bidi_shape.proofs.words.read_word.Goals as goal

pub returns-in-Some-named-clause-ok : goal.returns-in-Some-named-clause-ok
returns-in-Some-named-clause-ok g c =
    let w = g.W.Named.words in
    let text = is_text (g.S.Parsed.tree c.args.tree.now) c.in-Some.text.now c.in-Some.ensures in
    ap kind.text (text_of-value_named w.text_of w.first w.rest c.in-Some.text.now c.in-Some-named.word w.has_texts (sym c.in-Some-named.ensures)) ∙ text

pub returns-in-None-named-clause-no_fit : goal.returns-in-None-named-clause-no_fit
returns-in-None-named-clause-no_fit g c = λ f.
    let w = g.W.Named.words in
    let text = is_text (g.S.Parsed.tree c.args.tree.now) c.in-Some.text.now c.in-Some.ensures in
    word_misfit w c.in-Some.text.now (sym c.in-None-named.ensures) (subst (λ t. Fits t w.rule) (sym text) f)

pub returns-in-None-clause-no_fit : goal.returns-in-None-clause-no_fit
returns-in-None-clause-no_fit g c =
    λ f. no_text (g.S.Parsed.tree c.args.tree.now) c.in-None.ensures (word_is_text g.W.Named.words (g.S.Parsed.tree c.args.tree.now) f)

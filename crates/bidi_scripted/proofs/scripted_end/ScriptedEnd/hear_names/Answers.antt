use Rattle.std.proofs.Common.{◌≡◌, ◌∙◌, length, vec_len, sym, ap, arith}
use Rattle.bidi_scripted.specs.View.{script_of}
use Rattle.bidi_scripted.proofs.AskLemmas.{no-names}
use Rattle.bidi_scripted.proofs.FateLemmas.{with_err, anyhow}
use Rattle.bidi_scripted.proofs.OnlyLemmas.{only-same}
use Rattle.bidi_scripted.proofs.scripted_end.ScriptedEnd.hear_names.Goals as goal

pub returns-then-is_empty-clause-plain : goal.returns-then-is_empty-clause-plain
returns-then-is_empty-clause-plain c = λ none. (c.hand_on_text.ensures.handed_on, c.hand_on_text.ensures.script)

pub returns-then-is_empty-clause-err : goal.returns-then-is_empty-clause-err
returns-then-is_empty-clause-err c = with_err _ _ _ (ap script_of c.hand_on_text.ensures.script) c.hand_on_text.ensures.handed_on.err

pub returns-then-is_empty-clause-rest : goal.returns-then-is_empty-clause-rest
returns-then-is_empty-clause-rest c = anyhow c.hand_on_text.result (only-same _ _ (ap script_of c.hand_on_text.ensures.script))

pub returns-then-is_empty-clause-named : goal.returns-then-is_empty-clause-named
returns-then-is_empty-clause-named c = λ h s some.
    let known = c.args.self.now.script.known in
    let n : vec_len known ≡ length known.items = omega arith in
    absurd (some (no-names known.items (vec_len known) n (sym c.is_empty.ensures ∙ c.if-is_empty.true)))

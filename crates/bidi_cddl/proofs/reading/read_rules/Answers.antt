use Rattle.std.proofs.Common.{◌≡◌, ◌∙◌, ap, map, sym}
use Rattle.std.specs.Prelude.{Some}
use Rattle.bidi_cddl.specs.Definition.{RulesRead, rule_of}
use Rattle.bidi_cddl.specs.Reading.{IsRead}
use Rattle.bidi_cddl.specs.Steps.{nodes_of, tokens_of}
use Rattle.bidi_cddl.specs.Token.{placed_of}
use Rattle.bidi_cddl.specs.Tokens.{bare_tokens, tokens}
use Rattle.bidi_cddl.proofs.ReadingLemmas.{bare_placed, no_fault, ok_map, only_place}
use Rattle.bidi_cddl.proofs.reading.read_rules.Goals as goal

pub returns-in-Ok-clause-ok : goal.returns-in-Ok-clause-ok
returns-in-Ok-clause-ok c =
    let text = c.args.text.now in
    let ts = tokens_of c.deref.result.now in
    let found : tokens text ≡ Some ts =
    ap bare_tokens c.in-Ok.ensures.ok ∙ ap Some (bare_placed c.in-Ok.found.items ∙ ap tokens_of (sym c.deref.ensures.value)) in
    ok_map c.rules_in.result (λ w. RulesRead (nodes_of w.nodes.items) (map rule_of w.rules.items) ts) (λ w. IsRead text (nodes_of w.nodes.items) (map rule_of w.rules.items))
    (λ w read. (ts, (found, read))) c.rules_in.ensures

pub returns-in-Ok-clause-place : goal.returns-in-Ok-clause-place
returns-in-Ok-clause-place c = λ short. no_fault c.rules_in.result c.args.text.now (map placed_of c.in-Ok.found.items) c.in-Ok.ensures.ok

pub returns-in-Err-clause-place : goal.returns-in-Err-clause-place
returns-in-Err-clause-place c = λ short. only_place c.in-Err.fault c.args.text.now c.in-Err.ensures.place

use Rattle.std.proofs.Common.{sym, ap, ◌∙◌}
use Rattle.json.specs.Json.{value}
use Rattle.json.specs.Value.{value_view}
use Rattle.bidi_tree.proofs.JsonLemmas.{ended, behind, within, tree_of-parsed, tree_of-unreadable}
use Rattle.bidi_tree.specs.Json.{parsed}
use Rattle.bidi_tree.proofs.reading.parse.Goals as goal

pub returns-then-is_some-clause-not_json : goal.returns-then-is_some-clause-not_json
returns-then-is_some-clause-not_json c =
    let found = ap (value 127) (sym c.in_ok-reader.ensures.ok) ∙ c.in-Ok.ensures.ok in
    λ _. (
      sym c.is_within.ensures ∙ c.if-not-is_within.false,
      behind c.args.text.now (value_view c.in-Ok.value) _ _ c.next.result found c.next.ensures.value (sym c.is_some.ensures ∙ c.if-is_some.true),
    )

pub returns-then-not-is_readable-clause-not_json : goal.returns-then-not-is_readable-clause-not_json
returns-then-not-is_readable-clause-not_json c =
    let found = ap (value 127) (sym c.in_ok-reader.ensures.ok) ∙ c.in-Ok.ensures.ok in
    let whole = ended c.args.text.now (value_view c.in-Ok.value) _ _ c.next.result found c.next.ensures.value (sym c.is_some.ensures ∙ c.if-is_some.false) in
    λ _. (
      sym c.is_within.ensures ∙ c.if-not-is_within.false,
      tree_of-unreadable c.args.text.now (value_view c.in-Ok.value) whole (sym c.is_readable.ensures ∙ c.if-not-is_readable.true),
    )

pub returns-clause-ok : goal.returns-clause-ok
returns-clause-ok c =
    let found = ap (value 127) (sym c.in_ok-reader.ensures.ok) ∙ c.in-Ok.ensures.ok in
    let whole = ended c.args.text.now (value_view c.in-Ok.value) _ _ c.next.result found c.next.ensures.value (sym c.is_some.ensures ∙ c.if-is_some.false) in
    within c.args.limit c.args.text.now (parsed c.in-Ok.value) (sym c.is_within.ensures ∙ c.if-not-is_within.false)
    (tree_of-parsed c.args.text.now (value_view c.in-Ok.value) whole (sym c.is_readable.ensures ∙ c.if-not-is_readable.false))

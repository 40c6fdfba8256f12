use Rattle.std.proofs.Common.{◌∙◌, map, ap, sym}
use Rattle.std.specs.Prelude.{option_map, string_bytes}
use Rattle.bidi_contexts.specs.Info.{info_of}
use Rattle.bidi_contexts.specs.Outcome.{context_named}
use Rattle.bidi_browser.specs.Occurs.{roots}
use Rattle.bidi_contexts.proofs.InfoTextLemmas.{tells-same}
use Rattle.bidi_browser.proofs.PlanLemmas.{root-found}
use Rattle.bidi_browser.proofs.looking.roots_text.Goals as goal

pub returns-in_ok-trees_text-in-None-clause-told : goal.returns-in_ok-trees_text-in-None-clause-told
returns-in_ok-trees_text-in-None-clause-told c =
    tells-same (string_bytes c.in_ok-trees_text-in-None.field-0) _ _ c.in_ok-trees_text-in-None.ensures
    (λ infos told. λ past stands. told past stands.contexts ∙ ap (λ r. map (info_of past c.args.depth) (roots past (option_map string_bytes r))) (sym c.in-None.is))

pub returns-in_ok-tree_text-in-Some-clause-told : goal.returns-in_ok-tree_text-in-Some-clause-told
returns-in_ok-tree_text-in-Some-clause-told c =
    tells-same (string_bytes c.in_ok-tree_text-in-Some.field-0) _ _ c.in_ok-tree_text-in-Some.ensures
    (λ infos told. λ past stands.
    let found = c.in_ok-context-in-Some.ensures past stands.contexts in
    let root = root-found past (string_bytes c.in-Some.id) found.0 _ (ap (option_map string_bytes) c.in-Some.is)
    (ap (context_named past) (sym c.deref.ensures) ∙ found.1) in
    told past found.0 stands.contexts found.2 ∙ ap (map (info_of past c.args.depth)) (sym root.1))

pub returns-in_ok-tree_text-in-Some-clause-looked : goal.returns-in_ok-tree_text-in-Some-clause-looked
returns-in_ok-tree_text-in-Some-clause-looked c = λ past stands.
    let found = c.in_ok-context-in-Some.ensures past stands.contexts in
    (root-found past (string_bytes c.in-Some.id) found.0 _ (ap (option_map string_bytes) c.in-Some.is) (ap (context_named past) (sym c.deref.ensures) ∙ found.1)).0

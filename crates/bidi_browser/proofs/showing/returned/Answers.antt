use Rattle.std.proofs.Common.{◌≡◌, ◌∙◌, ◌≤◌, arith, option_map, string_bytes}
use Rattle.bidi_tree.specs.Node.{Node, levels}
use Rattle.bidi_values.specs.Cut.{cut_to}
use Rattle.bidi_handles.specs.Values.{shown_as}
use Rattle.bidi_handles.specs.ValuesInHand.{held_tree}
use Rattle.bidi_browser.proofs.ResultLemmas.{success-result, read-back, shown-levels}
use Rattle.bidi_browser.proofs.showing.returned.Goals as goal

pub returns-clause-tree : goal.returns-clause-tree
returns-clause-tree c =
    let depth = option_map (λ d. d.value) c.args.depth in
    let v = held_tree c.args.held.now in
    let shown = shown_as c.args.handle (cut_to depth v) in
    let less = shown-levels c.args.handle depth v in
    let few : levels v ≤ 60 = c.args.held.now.few in
    (read-back c.args.method (string_bytes c.in_ok-text.text) _ (success-result c.args.method (string_bytes c.in_ok-text.text) c.args.realm.now shown c.requires.method
    c.in_ok-value.ensures.remote (omega (arith, less, few)) (c.in_ok-text.ensures shown (c.deref.ensures ∙ c.in_ok-value.ensures.text)))).0

pub returns-clause-well : goal.returns-clause-well
returns-clause-well c =
    let depth = option_map (λ d. d.value) c.args.depth in
    let v = held_tree c.args.held.now in
    let shown = shown_as c.args.handle (cut_to depth v) in
    let less = shown-levels c.args.handle depth v in
    let few : levels v ≤ 60 = c.args.held.now.few in
    (read-back c.args.method (string_bytes c.in_ok-text.text) _ (success-result c.args.method (string_bytes c.in_ok-text.text) c.args.realm.now shown c.requires.method
    c.in_ok-value.ensures.remote (omega (arith, less, few)) (c.in_ok-text.ensures shown (c.deref.ensures ∙ c.in_ok-value.ensures.text)))).1

-- What the tree of a target in hand asks, and of the commands that name one.
use Rattle.std.proofs.Common.{◌≡◌, ℕ, List, [], ◌∷◌, map, Vec, true, ◌&&◌, ◌||◌, true≢false, Option, Some, None, is_none, is_some}
use Rattle.std.proofs.Common.{◌∙◌, option_map, option_and_then, unwrap_or, codes, String, string_bytes, Global, refl, sym, ap}
use Rattle.std.proofs.lemmas.Bool.{and_parts, false_from_ne_true}
use Rattle.std.specs.Prelude.{IfSome, if◌then◌else◌}
use Rattle.bidi_tree.specs.Node as tree
use Rattle.bidi_tree.specs.Node.{Node, Members, get_member}
use Rattle.bidi_tree.specs.Kind.{text_in, list_in, whole_in}
use Rattle.bidi_tree.specs.View.{items_of}
use Rattle.bidi_tree.specs.declared.number.JsUint.{JsUint}
use Rattle.bidi_tree.proofs.MemberLemmas.{get_member-put}
use Rattle.bidi_shape.specs.Name.{context_target, disown_parameters, evaluate_parameters, call_function_parameters, serialization_options}
use Rattle.bidi_shape.specs.Term.{required, optional, extensible, text, rule, row, no_more, names_of}
use Rattle.bidi_shape.specs.Profile.{term_of}
use Rattle.bidi_shape.specs.Fits.{Fits, fits_map, fits_rule, no_row, OthersFit}
use Rattle.bidi_shape.specs.ChoiceLaws.{nullable_tree}
use Rattle.bidi_shape.specs.ListLaws.{list_tree}
use Rattle.bidi_shape.specs.MapLaws.{PartsAt-joined, unnamed}
use Rattle.bidi_shape.specs.Table.{rows_in}
use Rattle.bidi_shape.specs.ValueLaws.{others_of}
use Rattle.bidi_shape.proofs.FitsLemmas.{row_fits, RowFits}
use Rattle.bidi_scripts.specs.declared.target.Target as declared_target
use Rattle.bidi_scripts.specs.declared.target.Target.TheVariants as target
use Rattle.bidi_scripts.specs.contracts.target.TargetShape.TheImpl as targets
use Rattle.bidi_scripts.specs.contracts.target.RealmTargetShape.TheImpl as realm_targets
use Rattle.bidi_values.specs.declared.nested.Nested.{Nested}
use Rattle.bidi_values.specs.declared.kinds.ListKind.{ListKind}
use Rattle.bidi_values.specs.declared.kinds.PairsKind.{PairsKind}
use Rattle.bidi_values.specs.declared.local_value.LocalPlain.{LocalPlain}
use Rattle.bidi_scripts.specs.contracts.call_function.CallFunctionParametersShape.TheImpl as call
use Rattle.bidi_scripts.specs.contracts.call_function.DisownParametersShape.TheImpl as disown
use Rattle.bidi_scripts.specs.Ownership.{ownership_text}
use Rattle.bidi_scripts.specs.contracts.evaluate.EvaluateParametersShape.TheImpl as evaluate
use Rattle.bidi_scripts.specs.declared.evaluate.EvaluateParameters.{EvaluateParameters}
use Rattle.bidi_scripts.specs.declared.evaluate.Ownership.{Ownership}
use Rattle.bidi_scripts.specs.declared.evaluate.Ownership.TheVariants as ownership
use Rattle.bidi_scripts.specs.declared.serialization_options.SerializationOptions.{SerializationOptions}
use Rattle.bidi_scripts.specs.contracts.serialization_options.SerializationOptionsShape.TheImpl as options
use Rattle.bidi_scripts.specs.LogEntry.{uint_tree}
use Rattle.bidi_scripts.specs.declared.call_function.CallFunctionParameters.{CallFunctionParameters}
use Rattle.bidi_scripts.specs.declared.call_function.DisownParameters.{DisownParameters}
use Rattle.bidi_handles.specs.Params.{items_in, text_if_at, number_if_at, natural}
use Rattle.bidi_contexts.specs.Actions.{ContextTarget, RealmTarget, target_in, is_text, is_well_at}
use Rattle.bidi_browser.specs.Asked.{is_owned, object_depth, target_of, evaluate_asked, call_function_asked, disown_asked}
use Rattle.bidi_handles.specs.ValuesInHand.{local_tree}
use Rattle.bidi_remote.specs.Machine.Commands.{command_in, OfBrowser}
use Rattle.bidi_remote.proofs.SubscribeAskLemmas.{text_tree, texts-list, text-fits, others_fit-without, inside_whole}

-- ---- targets

-- a text that has to be there fits
text-required : (o : Option Node) → is_some (option_and_then text_in o) ≡ true → RowFits required text o
text-required None e = absurd (true≢false (sym e))
text-required (Some t) e = text-fits t e

-- and so does one that may be
text-allowed : (o : Option Node) → (is_none o || is_some (option_and_then text_in o)) ≡ true → RowFits optional text o
text-allowed None e = tt
text-allowed (Some t) e = text-fits t e

-- a map of such members, with a text under `context` and none but a text under `sandbox`, is a context target
context-fits : (ms : Members) → OthersFit extensible ms
    → (is_some (text_if_at "context" (tree.map ms)) && is_well_at "sandbox" (tree.map ms)) ≡ true → Fits (tree.map ms) (rule context_target)
context-fits ms fit has =
    let k = codes "context" in
    let l = codes "sandbox" in
    let rows = row l optional text no_more in
    let both = and_parts (is_some (text_if_at "context" (tree.map ms))) (is_well_at "sandbox" (tree.map ms)) has in
    fits_rule (tree.map ms) context_target
    (fits_map ms (row k required text rows) extensible
    (row_fits ms k required text rows (text-required (get_member k ms) both.0)
    (row_fits ms l optional text no_more (text-allowed (get_member l ms) both.1) (no_row ms)))
    (others_fit-without (k ∷ l ∷ []) ms fit))

-- the text of a sandbox that may be there
sandbox-read : (id realm : List ℕ) (o : Option (String Global)) → (let t = option_map text_tree o in
    if is_none t || is_some (option_and_then text_in t) then ContextTarget id (unwrap_or (option_and_then text_in t) []) else RealmTarget realm)
    ≡ ContextTarget id (unwrap_or (option_map string_bytes o) [])
sandbox-read id realm None = refl
sandbox-read id realm (Some s) = refl

-- a target in hand is read from its tree
pub target-read : (t : declared_target.Target) → targets.ghosts.shape.well t → target_in (targets.ghosts.shape.tree_of t) ≡ target_of t
target-read (target.Context t) w =
    let rs = rows_in (term_of context_target) in
    let others = others_of t.ext in
    let at = PartsAt-joined rs (Some (text_tree t.context) ∷ option_map text_tree t.sandbox ∷ []) others refl tt (unnamed (names_of rs) others w.1.no_known) in
    rw (at.0, at.1.0) (sandbox-read (string_bytes t.context) _ t.sandbox)
target-read (target.Realm t) w =
    let ms = tree.put (codes "realm") (text_tree t.realm) (others_of t.ext) in
    let by_context = false_from_ne_true (is_some (text_if_at "context" (tree.map ms)) && is_well_at "sandbox" (tree.map ms))
    (λ has. w.1 (context-fits ms (inside_whole ms (realm_targets.ghosts.shape.whole t w.0)) has)) in
    rw (by_context, get_member-put (codes "realm") (text_tree t.realm) (others_of t.ext)) refl

-- the text of an ownership, which may be absent, is read as whether the value is owned
owned-read : (o : Option Ownership) → is_text "root" (option_and_then text_in (option_map (λ w. tree.text (ownership_text w)) o)) ≡ is_owned o
owned-read None = refl
owned-read (Some ownership.Root) = refl
owned-read (Some ownership.None) = refl

-- options, which may be absent, are read as the depth at which the value is cut
depth-read : (o : Option SerializationOptions) → (IfSome o options.ghosts.shape.well) → number_if_at "maxObjectDepth" (unwrap_or (option_map options.ghosts.shape.tree_of o) tree.null) ≡ object_depth o
depth-read None w = refl
depth-read (Some o) w =
    let rs = rows_in (term_of serialization_options) in
    let others = others_of o.ext in
    let at = PartsAt-joined rs (option_map (nullable_tree uint_tree) o.max_object_depth ∷ []) others refl tt (unnamed (names_of rs) others w.1.no_known) in
    ap (λ t. option_map natural (option_and_then whole_in t)) at.0 ∙ by_depth o.max_object_depth
  where
    by_depth : (d : Option (Option JsUint)) → option_map natural (option_and_then whole_in (option_map (nullable_tree uint_tree) d)) ≡ option_map (λ n. n.value) (unwrap_or d None)
    by_depth None = refl
    by_depth (Some None) = refl
    by_depth (Some (Some n)) = refl

-- ---- values

-- the items of a list are those that it is of
items-read : (ts : List Node) → items_in (items_of ts) ≡ ts
items-read [] = refl
items-read (t ∷ ts) = ap (λ us. t ∷ us) (items-read ts)

-- so are the values of a list that may be there
values-read : (o : Option (Vec (Nested LocalPlain ListKind PairsKind) Global))
    → option_map items_in (option_and_then list_in (option_map (λ vs. list_tree local_tree vs.items) o)) ≡ option_map (λ vs. map local_tree vs.items) o
values-read None = refl
values-read (Some vs) = ap Some (items-read (map local_tree vs.items))

-- ---- the commands

-- a `script.evaluate` asks for its expression in the realm of its target, whether its value is to be owned, and at which depth it is cut
pub evaluate-asks : (p : EvaluateParameters) → evaluate.ghosts.shape.well p
    → command_in (codes "script.evaluate") (evaluate.ghosts.shape.tree_of p) ≡ Some (OfBrowser (evaluate_asked p))
evaluate-asks p w =
    let rs = rows_in (term_of evaluate_parameters) in
    let others = others_of p.ext in
    let parts = Some (text_tree p.expression) ∷ Some (targets.ghosts.shape.tree_of p.target) ∷ Some (tree.boolean p.await_promise)
    ∷ option_map (λ w. tree.text (ownership_text w)) p.result_ownership
    ∷ option_map options.ghosts.shape.tree_of p.serialization_options ∷ option_map tree.boolean p.user_activation ∷ [] in
    let at = PartsAt-joined rs parts others refl tt (unnamed (names_of rs) others w.1.no_known) in
    rw (
      at.0,
      at.1.0,
      at.1.1.1.0,
      at.1.1.1.1.0,
      target-read p.target w.0.1.0,
      owned-read p.result_ownership,
      depth-read p.serialization_options w.0.1.1.1.1.0,
    ) refl

-- a `script.callFunction` asks for its function in the realm of its target, its arguments, its `this`, whether its value is to be owned, and at which
-- depth it is cut
pub call-asks : (p : CallFunctionParameters) → call.ghosts.shape.well p
    → command_in (codes "script.callFunction") (call.ghosts.shape.tree_of p) ≡ Some (OfBrowser (call_function_asked p))
call-asks p w =
    let rs = rows_in (term_of call_function_parameters) in
    let others = others_of p.ext in
    let parts = Some (text_tree p.function_declaration) ∷ Some (tree.boolean p.await_promise)
    ∷ Some (targets.ghosts.shape.tree_of p.target) ∷ option_map (λ vs. list_tree local_tree vs.items) p.arguments
    ∷ option_map (λ w. tree.text (ownership_text w)) p.result_ownership
    ∷ option_map options.ghosts.shape.tree_of p.serialization_options ∷ option_map local_tree p.this ∷ option_map tree.boolean p.user_activation ∷ [] in
    let at = PartsAt-joined rs parts others refl tt (unnamed (names_of rs) others w.1.no_known) in
    rw (
      at.0,
      at.1.1.0,
      at.1.1.1.0,
      at.1.1.1.1.0,
      at.1.1.1.1.1.0,
      at.1.1.1.1.1.1.0,
      target-read p.target w.0.1.1.0,
      values-read p.arguments,
      owned-read p.result_ownership,
      depth-read p.serialization_options w.0.1.1.1.1.1.0,
    ) refl

-- a `script.disown` asks for its handles in the realm of its target
pub disown-asks : (p : DisownParameters) → disown.ghosts.shape.well p
    → command_in (codes "script.disown") (disown.ghosts.shape.tree_of p) ≡ Some (OfBrowser (disown_asked p))
disown-asks p w =
    let rs = rows_in (term_of disown_parameters) in
    let others = others_of p.ext in
    let at = PartsAt-joined rs (Some (list_tree text_tree p.handles.items) ∷ Some (targets.ghosts.shape.tree_of p.target) ∷ []) others refl
    tt (unnamed (names_of rs) others w.1.no_known) in
    rw (at.0, at.1.0, texts-list p.handles.items, target-read p.target w.0.1.0) refl

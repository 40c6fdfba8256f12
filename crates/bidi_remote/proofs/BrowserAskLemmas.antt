-- What the tree of a command of the browser in hand asks.
use Rattle.std.proofs.Common.{◌≡◌, pos, [], ◌∷◌, Option, Some, None, option_map, option_and_then, codes, String, string_bytes, Global, refl}
use Rattle.std.specs.Prelude.{if◌then◌else◌}
use Rattle.bidi_tree.specs.Node as tree
use Rattle.bidi_tree.specs.Node.{Node}
use Rattle.bidi_tree.specs.Kind.{text_in, whole_in}
use Rattle.bidi_tree.specs.declared.number.JsUint.{JsUint}
use Rattle.bidi_tree.proofs.MemberLemmas.{get_member-put}
use Rattle.bidi_shape.specs.Name.{close_parameters, create_parameters, get_tree_parameters, navigate_parameters}
use Rattle.bidi_shape.specs.Name.{reload_parameters, traverse_history_parameters, get_realms_parameters}
use Rattle.bidi_shape.specs.Term.{names_of}
use Rattle.bidi_shape.specs.Profile.{term_of}
use Rattle.bidi_shape.specs.MapLaws.{PartsAt-joined, unnamed}
use Rattle.bidi_shape.specs.Table.{rows_in}
use Rattle.bidi_shape.specs.ValueLaws.{others_of}
use Rattle.bidi_params.specs.Words.{context_type_text, wait_text}
use Rattle.bidi_scripts.specs.RealmType.{realm_type_text}
use Rattle.bidi_params.specs.contracts.browsing_context.create.ActivateParametersShape.TheImpl as activate
use Rattle.bidi_params.specs.contracts.browsing_context.create.CloseParametersShape.TheImpl as close
use Rattle.bidi_params.specs.contracts.browsing_context.create.CreateParametersShape.TheImpl as create
use Rattle.bidi_params.specs.contracts.browsing_context.get_tree.GetTreeParametersShape.TheImpl as get_tree
use Rattle.bidi_params.specs.contracts.browsing_context.navigate.NavigateParametersShape.TheImpl as navigate
use Rattle.bidi_params.specs.contracts.browsing_context.navigate.ReloadParametersShape.TheImpl as reload
use Rattle.bidi_params.specs.contracts.browsing_context.navigate.TraverseHistoryParametersShape.TheImpl as traverse
use Rattle.bidi_scripts.specs.contracts.realms.GetRealmsParametersShape.TheImpl as get_realms
use Rattle.bidi_params.specs.contracts.browser.RemoveUserContextParametersShape.TheImpl as remove_user
use Rattle.bidi_scripts.specs.declared.realms.RealmType.{RealmType}
use Rattle.bidi_scripts.specs.declared.realms.GetRealmsParameters.{GetRealmsParameters}
use Rattle.bidi_params.specs.declared.browser.RemoveUserContextParameters.{RemoveUserContextParameters}
use Rattle.bidi_params.specs.declared.browsing_context.navigate.Wait as declared_wait
use Rattle.bidi_params.specs.declared.browsing_context.navigate.Wait.TheVariants as wait
use Rattle.bidi_params.specs.declared.browsing_context.navigate.NavigateParameters.{NavigateParameters}
use Rattle.bidi_params.specs.declared.browsing_context.navigate.ReloadParameters.{ReloadParameters}
use Rattle.bidi_params.specs.declared.browsing_context.navigate.TraverseHistoryParameters.{TraverseHistoryParameters}
use Rattle.bidi_params.specs.declared.browsing_context.create.ContextType.{ContextType}
use Rattle.bidi_params.specs.declared.browsing_context.create.ContextType.TheVariants as type
use Rattle.bidi_params.specs.declared.browsing_context.create.ActivateParameters.{ActivateParameters}
use Rattle.bidi_params.specs.declared.browsing_context.create.CloseParameters.{CloseParameters}
use Rattle.bidi_params.specs.declared.browsing_context.create.CreateParameters.{CreateParameters}
use Rattle.bidi_params.specs.declared.browsing_context.get_tree.GetTreeParameters.{GetTreeParameters}
use Rattle.bidi_methods.specs.Method.{method_text}
use Rattle.bidi_methods.specs.CommandData.{browser_asked, asked_tree}
use Rattle.bidi_methods.specs.declared.command_data.BrowserCommand.{BrowserCommand}
use Rattle.bidi_methods.specs.declared.command_data.BrowserCommand.TheVariants as browser
use Rattle.bidi_methods.specs.Method.{params_part}
use Rattle.bidi_handles.specs.Params.{natural}
use Rattle.bidi_contexts.specs.Actions.{OwnWindow, Tab, Started, Interactive, Complete, is_text}
use Rattle.bidi_browser.specs.Asked.{create_type_of, wait_of, activate_asked, close_asked, create_asked, get_tree_asked}
use Rattle.bidi_browser.specs.Asked.{navigate_asked, reload_asked, traverse_asked, get_realms_asked, remove_user_asked, command_asked}
use Rattle.bidi_remote.specs.Machine.Commands.{OfBrowser, command_in}
use Rattle.bidi_remote.proofs.TargetAskLemmas.{evaluate-asks, call-asks, disown-asks}

-- ---- members that may be there

-- the tree of a text
abbrev text_tree : String Global → Node
text_tree s = tree.text (string_bytes s)

-- the tree of a number
abbrev number_tree : JsUint → Node
number_tree n = tree.whole (pos n.value)

-- a text that may be there reads as it is
text-optional : (o : Option (String Global)) → option_and_then text_in (option_map text_tree o) ≡ option_map string_bytes o
text-optional None = refl
text-optional (Some s) = refl

-- so does a number
number-optional : (o : Option JsUint) → option_map natural (option_and_then whole_in (option_map number_tree o)) ≡ option_map (λ n. n.value) o
number-optional None = refl
number-optional (Some n) = refl

-- so does the text of a type of realm
realm_type-optional : (o : Option RealmType) → option_and_then text_in (option_map (λ t. tree.text (realm_type_text t)) o) ≡ option_map realm_type_text o
realm_type-optional None = refl
realm_type-optional (Some t) = refl

-- the text of a type of context reads as that type
type-read : (t : ContextType) → (if is_text "window" (Some (context_type_text t)) then OwnWindow else Tab) ≡ create_type_of t
type-read type.Tab = refl
type-read type.Window = refl

-- so does the text of what a reply waits for, which may be absent
wait-read : (o : Option declared_wait.Wait) → (let read = option_and_then text_in (option_map (λ w. tree.text (wait_text w)) o) in
    if is_text "complete" read then Complete else if is_text "interactive" read then Interactive else Started) ≡ wait_of o
wait-read None = refl
wait-read (Some wait.None) = refl
wait-read (Some wait.Interactive) = refl
wait-read (Some wait.Complete) = refl

-- ---- the commands

-- a `browsingContext.activate` asks for its context
activate-asks : (p : ActivateParameters) → activate.ghosts.shape.well p
    → command_in (codes "browsingContext.activate") (activate.ghosts.shape.tree_of p) ≡ Some (OfBrowser (activate_asked p))
activate-asks p w = rw (get_member-put (codes "context") (text_tree p.context) (others_of p.ext)) refl

-- a `browsingContext.close` asks for its context
close-asks : (p : CloseParameters) → close.ghosts.shape.well p
    → command_in (codes "browsingContext.close") (close.ghosts.shape.tree_of p) ≡ Some (OfBrowser (close_asked p))
close-asks p w =
    let rs = rows_in (term_of close_parameters) in
    let others = others_of p.ext in
    let at = PartsAt-joined rs (Some (text_tree p.context) ∷ option_map tree.boolean p.prompt_unload ∷ []) others refl tt
    (unnamed (names_of rs) others w.1.no_known) in
    rw at.0 refl

-- a `browsingContext.create` asks for its type, its reference context and its user context
create-asks : (p : CreateParameters) → create.ghosts.shape.well p
    → command_in (codes "browsingContext.create") (create.ghosts.shape.tree_of p) ≡ Some (OfBrowser (create_asked p))
create-asks p w =
    let rs = rows_in (term_of create_parameters) in
    let others = others_of p.ext in
    let parts = Some (tree.text (context_type_text p.kind))
    ∷ option_map text_tree p.reference_context ∷ option_map tree.boolean p.background ∷ option_map text_tree p.user_context ∷ [] in
    let at = PartsAt-joined rs parts others refl tt (unnamed (names_of rs) others w.1.no_known) in
    rw (at.0, at.1.0, at.1.1.1.0, type-read p.kind, text-optional p.reference_context, text-optional p.user_context) refl

-- a `browsingContext.getTree` asks for its depth and its root
get_tree-asks : (p : GetTreeParameters) → get_tree.ghosts.shape.well p
    → command_in (codes "browsingContext.getTree") (get_tree.ghosts.shape.tree_of p) ≡ Some (OfBrowser (get_tree_asked p))
get_tree-asks p w =
    let rs = rows_in (term_of get_tree_parameters) in
    let others = others_of p.ext in
    let at = PartsAt-joined rs (option_map number_tree p.max_depth ∷ option_map text_tree p.root ∷ []) others refl tt
    (unnamed (names_of rs) others w.1.no_known) in
    rw (at.0, at.1.0, number-optional p.max_depth, text-optional p.root) refl

-- a `browsingContext.navigate` asks for its context, its URL and its wait
navigate-asks : (p : NavigateParameters) → navigate.ghosts.shape.well p
    → command_in (codes "browsingContext.navigate") (navigate.ghosts.shape.tree_of p) ≡ Some (OfBrowser (navigate_asked p))
navigate-asks p w =
    let rs = rows_in (term_of navigate_parameters) in
    let others = others_of p.ext in
    let parts = Some (text_tree p.context) ∷ Some (text_tree p.url) ∷ option_map (λ w. tree.text (wait_text w)) p.wait ∷ [] in
    let at = PartsAt-joined rs parts others refl tt (unnamed (names_of rs) others w.1.no_known) in
    rw (at.0, at.1.0, at.1.1.0, wait-read p.wait) refl

-- a `browsingContext.reload` asks for its context and its wait
reload-asks : (p : ReloadParameters) → reload.ghosts.shape.well p
    → command_in (codes "browsingContext.reload") (reload.ghosts.shape.tree_of p) ≡ Some (OfBrowser (reload_asked p))
reload-asks p w =
    let rs = rows_in (term_of reload_parameters) in
    let others = others_of p.ext in
    let parts = Some (text_tree p.context) ∷ option_map tree.boolean p.ignore_cache ∷ option_map (λ w. tree.text (wait_text w)) p.wait ∷ [] in
    let at = PartsAt-joined rs parts others refl tt (unnamed (names_of rs) others w.1.no_known) in
    rw (at.0, at.1.1.0, wait-read p.wait) refl

-- a `browsingContext.traverseHistory` asks for its context and its delta
traverse-asks : (p : TraverseHistoryParameters) → traverse.ghosts.shape.well p
    → command_in (codes "browsingContext.traverseHistory") (traverse.ghosts.shape.tree_of p)
    ≡ Some (OfBrowser (traverse_asked p))
traverse-asks p w =
    let rs = rows_in (term_of traverse_history_parameters) in
    let others = others_of p.ext in
    let at = PartsAt-joined rs (Some (text_tree p.context) ∷ Some (tree.whole p.delta.value) ∷ []) others refl tt (unnamed (names_of rs) others w.1.no_known) in
    rw (at.0, at.1.0) refl

-- a `script.getRealms` asks for its context and its type
get_realms-asks : (p : GetRealmsParameters) → get_realms.ghosts.shape.well p
    → command_in (codes "script.getRealms") (get_realms.ghosts.shape.tree_of p) ≡ Some (OfBrowser (get_realms_asked p))
get_realms-asks p w =
    let rs = rows_in (term_of get_realms_parameters) in
    let others = others_of p.ext in
    let at = PartsAt-joined rs (option_map text_tree p.context ∷ option_map (λ t. tree.text (realm_type_text t)) p.kind ∷ []) others refl tt
    (unnamed (names_of rs) others w.1.no_known) in
    rw (at.0, at.1.0, text-optional p.context, realm_type-optional p.kind) refl

-- a `browser.removeUserContext` asks for its user context
remove_user-asks : (p : RemoveUserContextParameters) → remove_user.ghosts.shape.well p
    → command_in (codes "browser.removeUserContext") (remove_user.ghosts.shape.tree_of p)
    ≡ Some (OfBrowser (remove_user_asked p))
remove_user-asks p w = rw (get_member-put (codes "userContext") (text_tree p.user_context) (others_of p.ext)) refl

-- a method and its params ask what a command of the browser asks
pub browser-asks : (c : BrowserCommand) → (params_part (browser_asked c).0).shape.well (browser_asked c).1
    → command_in (method_text (browser_asked c).0) (asked_tree (browser_asked c)) ≡ Some (OfBrowser (command_asked c))
browser-asks (browser.Activate p) w = activate-asks p w
browser-asks (browser.Close p) w = close-asks p w
browser-asks (browser.Create p) w = create-asks p w
browser-asks (browser.GetTree p) w = get_tree-asks p w
browser-asks (browser.Navigate p) w = navigate-asks p w
browser-asks (browser.Reload p) w = reload-asks p w
browser-asks (browser.TraverseHistory p) w = traverse-asks p w
browser-asks (browser.Evaluate p) w = evaluate-asks p.value w
browser-asks (browser.CallFunction p) w = call-asks p.value w
browser-asks (browser.Disown p) w = disown-asks p.value w
browser-asks (browser.GetRealms p) w = get_realms-asks p w
browser-asks (browser.CreateUserContext p) w = refl
browser-asks (browser.GetUserContexts p) w = refl
browser-asks (browser.RemoveUserContext p) w = remove_user-asks p w

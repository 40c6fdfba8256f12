-- The text of the result of a script, of the text of its value.
use Rattle.std.proofs.Common.{◌≡◌, ◌∙◌, ◌≤◌, ℕ, List, [], ◌++◌, codes, Option, Some, None, refl, sym, ap, ap₂, subst, arith, append_assoc, zero-le, unwrap_or}
use Rattle.std.proofs.Common.{◌∷◌, false, map as map_list}
use Rattle.std.specs.Fmt.{digits}
use Rattle.json.specs.Print.{escape_byte}
use Rattle.bidi_tree.specs.Node.{Node, null, text, levels, IsSound, ItemsAreSound, IsWhole, items_have_odd, no_items, no_members}
use Rattle.bidi_tree.specs.View.{items_of}
use Rattle.bidi_tree.specs.Text.{compact_text, tree_of}
use Rattle.bidi_tree.proofs.RoundTrip.{tree_of-compact_text}
use Rattle.bidi_shape.specs.Name.{remote_value, exception_details, stack_trace, stack_frame, evaluate_result, user_context_info, get_user_contexts_result, info, get_tree_result}
use Rattle.bidi_shape.specs.Term as term
use Rattle.bidi_shape.specs.Term.{required, exactly, js_uint, list_of, no_more, row, rule, closed, extensible}
use Rattle.bidi_shape.specs.Fits.{Fits, fits_exactly, fits_text, fits_js_uint, fits_map, fits_list, fits_first, fits_second, fits_rule, no_row, no_item, an_item, AllFit}
use Rattle.bidi_shape.proofs.FitsLemmas.{row_fits}
use Rattle.bidi_methods.specs.Method.{result_of}
use Rattle.bidi_methods.specs.declared.method.Method.{Method}
use Rattle.bidi_methods.specs.declared.method.Method.TheVariants.{BrowserGetUserContexts, BrowsingContextGetTree}
use Rattle.bidi_values.specs.Content.{content}
use Rattle.bidi_values.specs.NestedLaws.{nested_shape}
use Rattle.bidi_values.specs.RemoteView.{remote_tree}
use Rattle.bidi_values.specs.contracts.remote_value.RemotePlainNestsRemoteListRemotePairs.TheImpl as remote
use Rattle.bidi_values.proofs.WellLemmas.{remote-well}
use Rattle.bidi_values.specs.Cut.{cut_to}
use Rattle.bidi_handles.specs.Ids.{id_of}
use Rattle.bidi_handles.specs.Showing.{IsRemote}
use Rattle.bidi_handles.specs.Values.{shown_as}
use Rattle.bidi_handles.specs.declared.id.IdKind.TheVariants.{Handle}
use Rattle.bidi_handles.proofs.ShowingLemmas.{cut_to-levels, with_member-levels}
use Rattle.bidi_handles.specs.Maps.{◌being◌and◌, mapped, listed}
use Rattle.bidi_contexts.specs.Users.{user_id, user_info}
use Rattle.bidi_contexts.specs.InfosWritten.{AreInfos, infos_tree}
use Rattle.bidi_contexts.proofs.InfoTextLemmas.{all-below, all-sound, list-fits, none-odd}
use Rattle.bidi_contexts.proofs.UserLemmas.{users-flat}
use Rattle.bidi_browser.specs.Occurs.{exception_details as details}
use Rattle.bidi_browser.specs.Results.{IsResultText}
use Rattle.bidi_browser.specs.Runs.{success_tree, exception_tree}

-- ---- texts

-- five pieces, pushed one after another
appended : (s0 s1 s2 s3 s4 s5 a b c d e : List ℕ) → s0 ≡ [] → s1 ≡ s0 ++ a → s2 ≡ s1 ++ b → s3 ≡ s2 ++ c → s4 ≡ s3 ++ d → s5 ≡ s4 ++ e
    → s5 ≡ a ++ (b ++ (c ++ (d ++ e)))
appended s0 s1 s2 s3 s4 s5 a b c d e e0 e1 e2 e3 e4 e5 =
    e5
    ∙ (ap (λ x. x ++ e) (e4 ∙ ap (λ x. x ++ d) (e3 ∙ ap (λ x. x ++ c) (e2 ∙ ap (λ x. x ++ b) (e1 ∙ ap (λ x. x ++ a) e0))))
    ∙ (append_assoc ((a ++ b) ++ c) d e ∙ (append_assoc (a ++ b) c (d ++ e) ∙ append_assoc a b (c ++ (d ++ e)))))

pub success-text : (s0 s1 s2 s3 s4 s5 r v : List ℕ) (realm t : Node) → s0 ≡ [] → s1 ≡ s0 ++ codes "{\"realm\":" → s2 ≡ s1 ++ r
    → s3 ≡ s2 ++ codes ",\"result\":" → s4 ≡ s3 ++ v → s5 ≡ s4 ++ codes ",\"type\":\"success\"}"
    → r ≡ compact_text realm → v ≡ compact_text t → s5 ≡ compact_text (success_tree realm t)
unfolding escape_byte
success-text s0 s1 s2 s3 s4 s5 r v realm t e0 e1 e2 e3 e4 e5 of_realm of_value =
    appended s0 s1 s2 s3 s4 s5 _ r _ v _ e0 e1 e2 e3 e4 e5
    ∙ ap₂ (λ x y. codes "{\"realm\":" ++ (x ++ (codes ",\"result\":" ++ (y ++ codes ",\"type\":\"success\"}")))) of_realm of_value

pub exception-text : (s0 s1 s2 s3 s4 s5 r v : List ℕ) (realm t : Node) → s0 ≡ []
    → s1 ≡ s0 ++ codes "{\"exceptionDetails\":{\"columnNumber\":0,\"exception\":" → s2 ≡ s1 ++ v
    → s3 ≡ s2 ++ codes ",\"lineNumber\":0,\"stackTrace\":{\"callFrames\":[]},\"text\":\"thrown\"},\"realm\":" → s4 ≡ s3 ++ r
    → s5 ≡ s4 ++ codes ",\"type\":\"exception\"}"
    → r ≡ compact_text realm → v ≡ compact_text t → s5 ≡ compact_text (exception_tree realm t)
unfolding escape_byte digits
exception-text s0 s1 s2 s3 s4 s5 r v realm t e0 e1 e2 e3 e4 e5 of_realm of_value =
    appended s0 s1 s2 s3 s4 s5 _ v _ r _ e0 e1 e2 e3 e4 e5
    ∙ (ap₂ (λ x y. codes "{\"exceptionDetails\":{\"columnNumber\":0,\"exception\":"
    ++ (y ++ (codes ",\"lineNumber\":0,\"stackTrace\":{\"callFrames\":[]},\"text\":\"thrown\"},\"realm\":" ++ (x ++ codes ",\"type\":\"exception\"}")))) of_realm of_value
    ∙ ap (λ x. codes "{\"exceptionDetails\":{\"columnNumber\":0,\"exception\":" ++ x)
    (sym (append_assoc (compact_text t) (codes ",\"lineNumber\":0,\"stackTrace\":{\"callFrames\":[]},\"text\":\"thrown\"}")
    (codes ",\"realm\":" ++ (compact_text realm ++ codes ",\"type\":\"exception\"}")))))

-- ---- trees

-- what is shown fits the rule of remote values, and has no Odd
shown-fits : (t : Node) → IsRemote t → levels t ≤ 60 → Fits t (rule remote_value) × IsWhole t 60
shown-fits t (v, is, sound) few =
    let well = remote-well v (subst (λ u. levels u ≤ 60) (sym is) few) in (
      subst (λ u. Fits u (rule remote_value)) is ((nested_shape remote.ghosts.nesting content).fits v well),
      subst (λ u. IsWhole u 60) is ((nested_shape remote.ghosts.nesting content).whole v well),
    )

success-fits : (realm : List ℕ) (t : Node) → Fits t (rule remote_value) → Fits (success_tree (text realm) t) (rule evaluate_result)
success-fits realm t fits =
    fits_rule _ evaluate_result (fits_first _ _ _ (fits_map _ _ closed
    (row_fits _ (codes "type") required (exactly (codes "success")) _ (fits_exactly (codes "success"))
    (row_fits _ (codes "result") required (rule remote_value) _ fits
    (row_fits _ (codes "realm") required term.text no_more (fits_text realm) (no_row _)))) refl))

exception-fits : (realm : List ℕ) (t : Node) → Fits t (rule remote_value) → Fits (exception_tree (text realm) t) (rule evaluate_result)
exception-fits realm t fits =
    let trace = fits_rule _ stack_trace (fits_map _ _ closed
    (row_fits _ (codes "callFrames") required (list_of 0 (rule stack_frame)) no_more (fits_list no_items 0 (rule stack_frame) zero-le (no_item _)) (no_row _)) refl) in
    let zero = fits_js_uint 0 (omega arith) in
    let told : Fits (details t) (rule exception_details) = fits_rule _ exception_details (fits_map _ _ closed
    (row_fits _ (codes "columnNumber") required js_uint _ zero
    (row_fits _ (codes "exception") required (rule remote_value) _ fits
    (row_fits _ (codes "lineNumber") required js_uint _ zero
    (row_fits _ (codes "stackTrace") required (rule stack_trace) _ trace
    (row_fits _ (codes "text") required term.text no_more (fits_text (codes "thrown")) (no_row _)))))) refl) in
    fits_rule _ evaluate_result (fits_second _ _ _ (fits_map _ _ closed
    (row_fits _ (codes "type") required (exactly (codes "exception")) _ (fits_exactly (codes "exception"))
    (row_fits _ (codes "exceptionDetails") required (rule exception_details) _ told
    (row_fits _ (codes "realm") required term.text no_more (fits_text realm) (no_row _)))) refl))

-- ---- results

-- a text is that of the tree that it reads back as
pub read-back : (method : Method) (s : List ℕ) (t : Node) → IsResultText method s t
    → (unwrap_or (tree_of s) null ≡ t) × IsResultText method s (unwrap_or (tree_of s) null)
read-back method s t (written, sound, whole, fits) =
    let is : unwrap_or (tree_of s) null ≡ t =
    ap (λ o. unwrap_or o null) (ap tree_of written ∙ tree_of-compact_text t sound (whole.0, omega (arith, whole.1))) in
    (is, subst (IsResultText method s) (sym is) (written, sound, whole, fits))

pub success-result : (method : Method) (s realm : List ℕ) (t : Node) → result_of method ≡ evaluate_result → IsRemote t → levels t ≤ 60
    → s ≡ compact_text (success_tree (text realm) t) → IsResultText method s (success_tree (text realm) t)
success-result method s realm t of_method shown few written =
    let fits = shown-fits t shown few in
    (written, (((refl, (refl, tt)), ((refl, tt), (tt, tt))), (tt, (shown.2, (tt, tt)))), (rw fits.1.0 refl, omega (arith, fits.1.1)), subst (λ n. Fits (success_tree (text realm) t) (rule n)) (sym of_method) (success-fits realm t fits.0))

details-sound : (t : Node) → IsSound t → IsSound (details t)
details-sound t sound = (
  ((refl, (refl, (refl, (refl, tt)))), ((refl, (refl, (refl, tt))), ((refl, (refl, tt)), ((refl, tt), (tt, tt))))),
  (omega arith, (sound, (omega arith, (((tt, tt), (tt, tt)), (tt, tt))))),
)

pub exception-result : (method : Method) (s realm : List ℕ) (t : Node) → result_of method ≡ evaluate_result → IsRemote t → levels t ≤ 59
    → s ≡ compact_text (exception_tree (text realm) t) → IsResultText method s (exception_tree (text realm) t)
exception-result method s realm t of_method shown few written =
    let fits = shown-fits t shown (omega (arith, few)) in
    (written, (((refl, (refl, tt)), ((refl, tt), (tt, tt))), (details-sound t shown.2, (tt, (tt, tt)))), (rw fits.1.0 refl, omega (arith, few)), subst (λ n. Fits (exception_tree (text realm) t) (rule n)) (sym of_method) (exception-fits realm t fits.0))

-- ---- user contexts

-- the result that tells of user contexts
abbrev users_tree : List ℕ → Node
users_tree us = mapped ("userContexts" being listed (map_list user_info us) and no_members)

users-sound : (us : List ℕ) → ItemsAreSound (items_of (map_list user_info us))
users-sound [] = tt
users-sound (u ∷ us) = (((tt, tt), (tt, tt)), users-sound us)

users-whole : (us : List ℕ) → items_have_odd (items_of (map_list user_info us)) ≡ false
users-whole [] = refl
users-whole (u ∷ us) = users-whole us

user-fits : (u : ℕ) → Fits (user_info u) (rule user_context_info)
user-fits u =
    fits_rule _ user_context_info (fits_map _ _ extensible (row_fits _ (codes "userContext") required term.text no_more (fits_text (user_id u)) (no_row _)) (refl, zero-le))

users-fit : (us : List ℕ) → AllFit (items_of (map_list user_info us)) (rule user_context_info)
users-fit [] = no_item _
users-fit (u ∷ us) = an_item _ _ _ (user-fits u) (users-fit us)

pub users-result : (s us : List ℕ) (u : ℕ) → s ≡ compact_text (users_tree (u ∷ us)) → IsResultText BrowserGetUserContexts s (users_tree (u ∷ us))
users-result s us u written =
    let flat = users-flat (u ∷ us) in (
      written,
      ((tt, tt), (users-sound (u ∷ us), tt)),
      (rw (users-whole (u ∷ us)) refl, omega (arith, flat)),
      fits_rule _ get_user_contexts_result (fits_map _ _ extensible
          (row_fits _ (codes "userContexts") required (list_of 1 (rule user_context_info)) no_more
          (fits_list (items_of (map_list user_info (u ∷ us))) 1 (rule user_context_info) (omega arith) (users-fit (u ∷ us))) (no_row _)) (refl, zero-le)),
    )

-- ---- trees of contexts

-- the result that tells of contexts
pub tree-result : (s : List ℕ) (infos : List Node) → s ≡ compact_text (infos_tree infos) → AreInfos 34 infos
    → IsResultText BrowsingContextGetTree s (infos_tree infos)
tree-result s infos written are =
    let below = all-below 34 infos are in (
      written,
      ((tt, tt), (all-sound 34 infos are, tt)),
      (rw (none-odd 34 infos are) refl, omega (arith, below)),
      fits_rule _ get_tree_result (fits_map _ _ extensible
          (row_fits _ (codes "contexts") required (list_of 0 (rule info)) no_more (list-fits 34 infos are) (no_row _)) (refl, zero-le)),
    )

-- ---- levels

-- a value has no more levels as it is shown
pub shown-levels : (handle depth : Option ℕ) (v : Node) → levels (shown_as handle (cut_to depth v)) ≤ levels v
shown-levels None depth v = cut_to-levels depth v
shown-levels (Some n) depth v =
    let with = with_member-levels "handle" (id_of Handle n) (cut_to depth v) in
    let cut = cut_to-levels depth v in
    omega (arith, with, cut)

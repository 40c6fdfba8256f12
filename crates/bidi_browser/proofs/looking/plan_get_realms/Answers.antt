use Rattle.std.proofs.Common.{◌∙◌, ◌≤◌, ◌∷◌, [], map, ap, sym, subst, refl, arith}
use Rattle.std.specs.Prelude.{option_map, string_bytes}
use Rattle.bidi_tree.specs.Node.{no_members, items_levels}
use Rattle.bidi_tree.specs.View.{items_of}
use Rattle.bidi_shape.specs.ValueLaws.{others_of}
use Rattle.bidi_scripts.specs.RealmType.{realm_type_text}
use Rattle.bidi_scripts.specs.contracts.realms.RealmInfoShape.TheImpl.{ghosts}
use Rattle.bidi_methods.specs.declared.result_data.ResultData.TheVariants.{ScriptGetRealms}
use Rattle.bidi_browser.specs.Asked.{get_realms_asked}
use Rattle.bidi_contexts.specs.ContextRows.{row_of}
use Rattle.bidi_handles.specs.Maps.{◌being◌and◌, mapped, listed}
use Rattle.bidi_browser.specs.Occurs.{Replies, takes_windows}
use Rattle.bidi_contexts.proofs.InfoLemmas.{none-further}
use Rattle.bidi_browser.proofs.PlanLemmas.{looked-plans, told-well, result-well, windows-told, windows-flat}
use Rattle.bidi_browser.proofs.looking.plan_get_realms.Goals as goal

pub returns-clause-plans : goal.returns-clause-plans
returns-clause-plans c = λ past moment stands.
    let params = c.args.params.now in
    let held = c.in_ok-contexts.ensures past stands in
    let told = c.in_ok-realms.ensures.tree
    ∙ windows-told row_of past (option_map string_bytes params.context) (takes_windows (option_map realm_type_text params.kind))
    c.in_ok-contexts.contexts.now held.1 in
    looked-plans c.looked.result past moment (get_realms_asked params) _ refl held.0
    (rw (c.empty.ensures) (ap (λ ts. Replies (mapped ("realms" being listed ts and no_members)) ∷ []) told))
    c.looked.ensures.before c.looked.ensures.outcome c.looked.ensures.after c.looked.ensures.change

pub returns-clause-well : goal.returns-clause-well
returns-clause-well c =
    let realms = c.in_ok-realms.realms in
    let flat : items_levels (items_of (map ghosts.shape.tree_of realms.items)) ≤ 1 =
    subst (λ ts. items_levels (items_of ts) ≤ 1) (sym c.in_ok-realms.ensures.tree)
    (windows-flat row_of (takes_windows (option_map realm_type_text c.args.params.now.kind)) c.in_ok-contexts.contexts.now) in
    told-well c.looked.result _ c.looked.ensures.before c.looked.ensures.outcome c.looked.ensures.after
    (result-well (ScriptGetRealms (record { realms = realms; ext = c.empty.result }))
    (mapped ("realms" being listed (map ghosts.shape.tree_of realms.items) and no_members))
    ((c.in_ok-realms.ensures.well, tt), none-further _ (others_of c.empty.result) c.empty.ensures) (rw (c.empty.ensures) refl) (omega (arith, flat)))

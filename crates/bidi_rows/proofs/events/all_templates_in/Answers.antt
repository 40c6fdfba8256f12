use Rattle.std.proofs.Common.{◌≡◌, ◌∙◌, ◌<◌, ◌≤◌, ◌++◌, length, get_or, [], ◌∷◌, append_assoc, append-nil, map, inl, inr, sym, ap, subst}
use Rattle.std.proofs.lemmas.List.{map-append, drop_all}
use Rattle.json.specs.Tree.{ItemsHaveNumbers}
use Rattle.json.specs.Value.{items_view}
use Rattle.bidi_rows.specs.Filling.{Template, template_of}
use Rattle.bidi_rows.specs.Templates.{AreTemplates}
use Rattle.bidi_rows.proofs.ReadingLemmas.{from-item}
use Rattle.bidi_rows.specs.Refusals.{RefusesItems}
use Rattle.bidi_rows.proofs.RefusalLemmas.{handed_on, template-passes}
use Rattle.bidi_rows.proofs.events.all_templates_in.Goals as goal

pub template_in-requires : goal.template_in-requires
template_in-requires c =
    (subst (λ vs. ItemsHaveNumbers (items_view vs)) (from-item c.args.items.now.items c.loop-item.item-index c.item-item.result
    (subst (λ xs. c.loop-item.item-index < length xs) c.deref-item-items.ensures.value c.loop-item-test.true)
    (c.item-item.is ∙ ap (λ xs. get_or xs c.loop-item.item-index c.item-item.result) c.deref-item-items.ensures.value))
    c.loop-item.invariant.numbers).0

pub loop-item-preserved : goal.loop-item-preserved
loop-item-preserved c =
    let items = c.args.items.now.items in
    let i = c.loop-item.item-index in
    let is = from-item items i c.item-item.result (subst (λ xs. i < length xs) c.deref-item-items.ensures.value c.loop-item-test.true)
    (c.item-item.is ∙ ap (λ xs. get_or xs i c.item-item.result) c.deref-item-items.ensures.value) in
    let e = template_of c.in_ok-template_in.field-0 in
    let done = (map template_of) c.loop-item.templates.items in
    let more : (map template_of) c.push.new.self.items ≡ done ++ e ∷ [] =
    ap (map template_of) c.in_ok-push.ensures.items ∙ map-append {B = Template} template_of c.loop-item.templates.items (c.in_ok-template_in.field-0 ∷ []) in
    record {
      numbers = (subst (λ vs. ItemsHaveNumbers (items_view vs)) is c.loop-item.invariant.numbers).1;
      templates = λ rest has.
          subst (AreTemplates (items_view items)) (sym (ap (λ es. es ++ rest) more ∙ append_assoc done (e ∷ []) rest))
          (c.loop-item.invariant.templates (e ∷ rest) (subst (λ vs. AreTemplates (items_view vs) (e ∷ rest)) (sym is) (c.in_ok-template_in.ensures.ok, has)));
      why = λ f x.
          c.loop-item.invariant.why f (subst (λ vs. RefusesItems (items_view vs) f) (sym is) (inr (template-passes _ _ c.in_ok-template_in.ensures.ok, x)));
    }

pub returns-clause-ok : goal.returns-clause-ok
returns-clause-ok c =
    let items = c.args.items.now.items in
    subst (AreTemplates (items_view items)) (append-nil ((map template_of) c.loop-item.templates.items))
    (c.loop-item.invariant.templates [] (subst (λ vs. AreTemplates (items_view vs) []) (sym (drop_all c.loop-item.item-index items
    (subst (λ xs. length xs ≤ c.loop-item.item-index) c.deref-item-items.ensures.value c.loop-item-test.false))) tt))

pub returns-in_err-template_in-clause-why : goal.returns-in_err-template_in-clause-why
returns-in_err-template_in-clause-why c =
    let items = c.args.items.now.items in
    let i = c.loop-item.item-index in
    let is = from-item items i c.item-item.result (subst (λ xs. i < length xs) c.deref-item-items.ensures.value c.loop-item-test.true)
    (c.item-item.is ∙ ap (λ xs. get_or xs i c.item-item.result) c.deref-item-items.ensures.value) in
    handed_on _ _ c.from_residual.ensures.1 c.in_err-template_in.ensures.why (λ f x.
    c.loop-item.invariant.why f (subst (λ vs. RefusesItems (items_view vs) f) (sym is) (inl x)))

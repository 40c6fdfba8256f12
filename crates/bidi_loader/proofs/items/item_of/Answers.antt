use Rattle.std.proofs.Common.{ap, sym, subst, ◌∙◌, List, ℕ}
use Rattle.bidi_cddl.specs.declared.written.Node.TheVariants.{Empty}
use Rattle.bidi_loader.specs.Meaning.{these, parts_at, items_again, items_at, type_at, written_trees}
use Rattle.bidi_loader.specs.Readings.{IsNode}
use Rattle.bidi_loader.proofs.NodeLemmas.{items-is, bare_items-is, member_items-is, inside_items-is}
use Rattle.bidi_loader.proofs.ItemLemmas.{item_is, again-item}
use Rattle.bidi_loader.proofs.items.item_of.Goals as goal

pub returns-in-Empty : goal.returns-in-Empty
returns-in-Empty c = λ h.
    let w = c.args.written.now in
    items-is w c.args.k Empty (subst (λ n. IsNode w c.args.k n) c.in-Empty.is h)
    ∙ ap (λ (ns : List ℕ). these (parts_at (written_trees w) ns)) (sym c.new.ensures.items)

pub returns-in-Bare : goal.returns-in-Bare
returns-in-Bare c = λ h.
    let w = c.args.written.now in
    let k = c.args.k in
    let here = subst (λ n. IsNode w k n) c.in-Bare.is h in
    item_is c.item.result (written_trees w) (items_at (written_trees w) k) c.in-Bare.occurs c.in-Bare.node k
    (λ l. bare_items-is w k c.in-Bare.node c.in-Bare.occurs here l) c.item.ensures

pub returns-in-Member : goal.returns-in-Member
returns-in-Member c = λ h.
    let w = c.args.written.now in
    let k = c.args.k in
    let here = subst (λ n. IsNode w k n) c.in-Member.is h in
    item_is c.item-in-Member.result (written_trees w) (items_at (written_trees w) k) c.in-Member.occurs c.in-Member.node k
    (λ l. member_items-is w k c.in-Member.node c.in-Member.occurs c.in-Member.field-1 here l) c.item-in-Member.ensures

pub returns-in-Some : goal.returns-in-Some
returns-in-Some c = λ h.
    let w = c.args.written.now in
    let k = c.args.k in
    let here = subst (λ n. IsNode w k n) c.in-Inside.is h in
    let e = c.in-Some.ensures in
    item_is c.item-in-Some.result (written_trees w) (items_at (written_trees w) k) c.in-Inside.occurs c.in-Some.node k
    (λ l. inside_items-is w k c.in-Inside.inner c.in-Inside.occurs here e.0 ∙ ap (items_again c.in-Inside.occurs) e.2 ∙ again-item c.in-Inside.occurs (type_at (written_trees w) c.in-Some.node))
    c.item-in-Some.ensures

use Rattle.std.proofs.Common.{ap, subst, ◌∙◌, arith, refl}
use Rattle.bidi_loader.specs.Meaning.{member_group, type_at, written_trees}
use Rattle.bidi_loader.specs.Readings.{IsNode, text_at}
use Rattle.bidi_loader.proofs.NodeLemmas.{member-is, further-is}
use Rattle.bidi_loader.proofs.ReadingLemmas.{text-here}
use Rattle.bidi_loader.proofs.entry.entry_of.Goals as goal

pub returns-in_ok-need_of-in-Member : goal.returns-in_ok-need_of-in-Member
returns-in_ok-need_of-in-Member c = λ l h e.
    let w = c.args.written.now in
    let k = c.args.k in
    let i = c.in-Member.value in
    let occurs = c.in-Member.occurs in
    let here = subst (λ n. IsNode w k n) c.in-Member.is h in
    let text = text-here w c.args.texts.now k _ e here l in
    member-is w k i occurs c.in-Member.field-1 here (omega (arith, c.if-value-k.false))
    ∙ ap (λ s. member_group occurs s (type_at (written_trees w) i)) text
    ∙ c.in_ok-need_of-in-Member.ensures (text_at c.args.texts.now k) (type_at (written_trees w) i)

pub returns-else-not-is_any_number : goal.returns-else-not-is_any_number
returns-else-not-is_any_number c = λ l h e.
    let w = c.args.written.now in
    let k = c.args.k in
    let here = subst (λ n. IsNode w k n) c.in-Further.is h in
    further-is w k c.in-Further.value c.in-Further.occurs here (omega (arith, c.if-value-k-2.false))
    ∙ c.if-not-is_any_number.ensures refl (type_at (written_trees w) c.in-Further.value)

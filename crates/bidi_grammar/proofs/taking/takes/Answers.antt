use Rattle.std.proofs.Common.{◌≡◌, ◌∙◌, length, nat_le, rules, sym, ap}
use Rattle.std.specs.Prelude.{◌==◌, false}
use Rattle.std.specs.Option.{option_map_or}
use Rattle.json.specs.Value.{value_view}
use Rattle.bidi_grammar.specs.Fits.{count, takes}
use Rattle.bidi_grammar.specs.View.{term_of}
use Rattle.bidi_grammar.proofs.JudgeLemmas.{count-items_view}
use Rattle.bidi_grammar.proofs.taking.takes.Goals as goal

pub returns-in-Some-as_items : goal.returns-in-Some-as_items
returns-in-Some-as_items c =
    ap (nat_le c.in-ListOf.least) (sym (count-items_view c.in-Some-as_items.items.now))
    ∙ ap (λ o. option_map_or (λ ts. nat_le c.in-ListOf.least (count ts)) o false) c.in-Some-as_items.ensures
    ∙ ap (λ x. takes (value_view c.args.value.now) (term_of x)) (sym c.in-ListOf.is)

pub returns-in-Some-as_items-2 : goal.returns-in-Some-as_items-2
returns-in-Some-as_items-2 c =
    let ns = c.in-TupleOf.parts.items in
    let long : c.len.result ≡ length ns = search rules in
    ap (λ n. length c.in-Some-as_items-2.items.now == n) long
    ∙ ap (λ n. n == length ns) (sym (count-items_view c.in-Some-as_items-2.items.now))
    ∙ ap (λ o. option_map_or (λ ts. count ts == length ns) o false) c.in-Some-as_items-2.ensures
    ∙ ap (λ x. takes (value_view c.args.value.now) (term_of x)) (sym c.in-TupleOf.is)

use Rattle.std.proofs.Common.{◌≡◌, ◌∙◌, ◌<◌, true, length, map, sym, ap, subst, arith}
use Rattle.bidi_rows.specs.View.{row_of}
use Rattle.bidi_scripted.specs.Methods.{has_method, AreListed}
use Rattle.bidi_scripted.proofs.MethodLemmas.{listed-at, listed-set, listed-removed}
use Rattle.bidi_scripted.proofs.UseLemmas.{used-always, used-count, used-last}
use Rattle.bidi_scripted.proofs.row_table.use_row.Goals as goal

pub returns-in-None-clause-rows : goal.returns-in-None-clause-rows
returns-in-None-clause-rows c = λ command at. used-always command c.args.rows.now.items c.args.place c.index.result.now at c.index.ensures c.in-None.is

pub returns-in-Some-clause-rows : goal.returns-in-Some-clause-rows
returns-in-Some-clause-rows c = λ command at.
    used-count command c.args.rows.now.items c.args.place c.index.result.now c.index_mut.result.now c.in-Some.left at c.index.ensures c.index_mut.ensures.value
    c.in-Some.is c.if-left-gt1.true

pub returns-in-Some-2-clause-rows : goal.returns-in-Some-2-clause-rows
returns-in-Some-2-clause-rows c = λ command at.
    ap (map row_of) c.remove.ensures.by_index.2
    ∙ used-last command c.args.rows.now.items c.args.place c.index.result.now c.in-Some.left at c.index.ensures c.in-Some.is c.if-left-gt1.false

pub returns-in-None-clause-listed : goal.returns-in-None-clause-listed
returns-in-None-clause-listed c = λ methods all. all

pub returns-in-Some-clause-listed : goal.returns-in-Some-clause-listed
returns-in-Some-clause-listed c = λ methods all.
    let rows = c.args.rows.now in
    let less : c.args.place < length rows.items = omega (arith, c.requires, rows.ok.0) in
    listed-set methods rows.items c.args.place _ all
    (subst (λ r. has_method methods (row_of r).method ≡ true) (sym c.index_mut.ensures.value) (listed-at methods rows.items c.args.place c.index_mut.result.now all less))

pub returns-in-Some-2-clause-listed : goal.returns-in-Some-2-clause-listed
returns-in-Some-2-clause-listed c = λ methods all.
    subst (λ rows. AreListed methods (map row_of rows)) (sym c.remove.ensures.by_index.2) (listed-removed methods c.args.rows.now.items c.args.place all)

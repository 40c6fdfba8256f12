use Rattle.std.proofs.Common.{map, not, sym, subst}
use Rattle.std.specs.Prelude.{bytes_eq}
use Rattle.bidi_rows.specs.View.{row_of}
use Rattle.bidi_scripted.specs.Methods.{AreListed}
use Rattle.bidi_scripted.proofs.MethodLemmas.{listed-filter}
use Rattle.bidi_scripted.proofs.row_table.RowTable.remove.Goals as goal

pub invariant_of-self : goal.invariant_of-self
invariant_of-self c =
    let table = c.args.self.now in
    record {
      listed = subst (AreListed table.methods) (sym c.remove_rows.ensures)
          (listed-filter table.methods (λ row. not (bytes_eq row.method c.args.method.now)) (map row_of table.all.items) table.listed);
    }

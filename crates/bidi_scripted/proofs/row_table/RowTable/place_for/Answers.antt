use Rattle.std.proofs.Common.{◌∙◌, sym}
use Rattle.bidi_rows.specs.View.{command_seen}
use Rattle.bidi_scripted.proofs.MethodLemmas.{none-for}
use Rattle.bidi_scripted.proofs.row_table.RowTable.place_for.Goals as goal

pub returns-then-not-has : goal.returns-then-not-has
returns-then-not-has c =
    let table = c.args.self.now in
    none-for table.methods (command_seen c.args.command.now) table.all.items table.listed (sym c.has.ensures ∙ c.if-not-has.true)

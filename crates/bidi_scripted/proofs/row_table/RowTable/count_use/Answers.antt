use Rattle.bidi_scripted.proofs.row_table.RowTable.count_use.Goals as goal

pub invariant_of-self : goal.invariant_of-self
invariant_of-self c = record { listed = c.use_row.ensures.listed c.args.self.now.methods c.args.self.now.listed }

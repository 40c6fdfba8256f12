use Rattle.std.proofs.Common.{◌∙◌, sym, ap}
use Rattle.std.specs.Prelude.{option_map}
use Rattle.bidi_tree.specs.View.{node}
use Rattle.bidi_remote.specs.Machine.History.{is_not_json}
use Rattle.bidi_remote.proofs.RowReadLemmas.{row-of-text}
use Rattle.bidi_remote.proofs.rows.read_row.Goals as goal

pub returns-in-Some : goal.returns-in-Some
returns-in-Some c =
    row-of-text c.row_in.result c.args.text.now (node c.in-Some.tree) (sym c.in_ok-tree.ensures ∙ ap (option_map node) c.in-Some.is) c.row_in.ensures

pub returns-in-None : goal.returns-in-None
returns-in-None c = is_not_json (sym c.in_ok-tree.ensures ∙ ap (option_map node) c.in-None.is)

use Rattle.std.proofs.Common.{◌∙◌, sym}
use Rattle.std.specs.Prelude.{bytes_eq}
use Rattle.bidi_rows.specs.Rows.{Row}
use Rattle.bidi_rows.specs.View.{row_of}
use Rattle.bidi_sessions.proofs.ListLemmas.{any-map}
use Rattle.bidi_scripted.proofs.script.has_method.Goals as goal

pub returns : goal.returns
returns c = c.has_row.ensures ∙ sym (any-map row_of (λ (r : Row). bytes_eq r.method c.args.method.now) c.args.rows.now)

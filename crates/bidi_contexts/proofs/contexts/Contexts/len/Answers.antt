use Rattle.std.proofs.Common.{◌≡◌, ◌∙◌, length, sym, ap, rules}
use Rattle.std.proofs.lemmas.List.{length-map}
use Rattle.bidi_contexts.specs.ContextRows.{row_of}
use Rattle.bidi_contexts.proofs.TreeLemmas.{length-rows}
use Rattle.bidi_contexts.proofs.contexts.Contexts.len.Goals as goal

pub returns : goal.returns
returns c = λ past table.
    let counted : c.len.result ≡ length c.args.self.now.live.items = search rules in
    counted ∙ (sym (length-map c.args.self.now.live.items row_of) ∙ (ap length table.rows ∙ length-rows past table.accepted))

use Rattle.std.proofs.Common.{◌∙◌, sym}
use Rattle.std.proofs.lemmas.Result.{IfOk-weaker}
use Rattle.bidi_pair_lines.proofs.LedgerLemmas.{unsent_grouped}
use Rattle.bidi_pair_lines.proofs.writing.unsent_line.Goals as goal

pub returns-else-unsent-eq0 : goal.returns-else-unsent-eq0
returns-else-unsent-eq0 c =
    IfOk-weaker c.told_unsent.result _ _ (λ line e. e ∙ sym (unsent_grouped c.args.link.value c.args.unsent c.if-unsent-eq0.false)) c.told_unsent.ensures

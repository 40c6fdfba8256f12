use Rattle.std.proofs.Common.{◌≡◌, ◌∙◌, ap, sym, Option, Some, Global, option_map}
use Rattle.bidi_tree.specs.Node.{Node}
use Rattle.bidi_tree.specs.Json.{parsed}
use Rattle.json.specs.declared.value.Value.{Value}
use Rattle.bidi_messages.specs.Verdict as judged
use Rattle.bidi_messages.specs.View.{verdict_of}
use Rattle.bidi_messages.specs.contracts.command.CommandShape.TheImpl.{ghosts}
use Rattle.bidi_messages.proofs.VerdictLemmas.{no_other}
use Rattle.bidi_messages.proofs.judging.judge_with.Goals as goal

has_tree : (o : Option (Value Global)) (t : Value Global) (n : Option Node) → option_map parsed o ≡ n → o ≡ Some t → n ≡ Some (parsed t)
has_tree o t n seen is = sym seen ∙ ap (option_map parsed) is

pub returns-clause-verdict : goal.returns-clause-verdict
returns-clause-verdict c = c.verdict_on.ensures.verdict c.args.text.now (has_tree c.in_ok-tree.field-0 c.in-Some.tree _ c.in_ok-tree.ensures c.in-Some.is)

pub returns-clause-no_other : goal.returns-clause-no_other
returns-clause-no_other c = no_other c.args.text.now (verdict_of ghosts.shape) c.verdict_on.result (returns-clause-verdict c)

pub returns-clause-again : goal.returns-clause-again
returns-clause-again c = λ d. c.verdict_on.ensures.again c.args.text.now d (has_tree c.in_ok-tree.field-0 c.in-Some.tree _ c.in_ok-tree.ensures c.in-Some.is)

pub returns-in_default-clause-verdict : goal.returns-in_default-clause-verdict
returns-in_default-clause-verdict c = judged.is_not_json (sym c.in_ok-tree.ensures ∙ ap (option_map parsed) c.in_default.is)

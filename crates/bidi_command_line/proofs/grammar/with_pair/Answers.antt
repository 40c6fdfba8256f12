use Rattle.std.proofs.Common.{ap}
use Rattle.clap.specs.Words.{App}
use Rattle.bidi_command_line.proofs.grammar.with_pair.Goals as goal

pub returns : goal.returns
returns c = c.joined.ensures _ _ c.with_play.ensures (ap (λ (a : App). a.top) c.named-pair.ensures.app) c.named-pair.ensures.local

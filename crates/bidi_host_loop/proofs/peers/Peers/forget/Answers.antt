use Rattle.std.proofs.Common.{rules}
use Rattle.std.specs.Prelude.{◌==◌, not}
use Rattle.std.proofs.lemmas.Fn.{filter_same}
use Rattle.bidi_host_loop.proofs.peers.Peers.forget.Goals as goal

pub returns-clause-left : goal.returns-clause-left
returns-clause-left c = filter_same _ (λ r. not (r.conn == c.args.conn.value)) _ (λ x b f' k. search rules) _ _ c.retain.ensures.filtered

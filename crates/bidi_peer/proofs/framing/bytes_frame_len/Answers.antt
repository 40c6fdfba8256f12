use Rattle.std.proofs.Common.{arith}
use Rattle.bidi_peer.proofs.SendingLemmas.{bytes_frame_length}
use Rattle.bidi_peer.proofs.framing.bytes_frame_len.Goals as goal

pub returns : goal.returns
returns c = omega (arith, c.saturating_add.ensures, c.header_len.ensures, bytes_frame_length c.args.bytes.now)

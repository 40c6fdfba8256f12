use Rattle.std.proofs.Common.{arith}
use Rattle.bidi_peer.proofs.SendingLemmas.{text_frame_length}
use Rattle.bidi_peer.proofs.framing.frame_len.Goals as goal

pub returns : goal.returns
returns c = omega (arith, c.saturating_add.ensures, c.header_len.ensures, text_frame_length c.args.text.now)

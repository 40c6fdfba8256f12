use Rattle.std.proofs.Common.{arith}
use Rattle.bidi_peer.specs.Sending.{bytes_frame}
use Rattle.bidi_peer.proofs.SendingLemmas.{came_kept, no_room, sent, waited}
use Rattle.bidi_peer.proofs.standing.Peer.send_bytes.Goals as goal

pub returns-then-not-has_room-clause-gives_up : goal.returns-then-not-has_room-clause-gives_up
returns-then-not-has_room-clause-gives_up g c =
    λ was.
    no_room g.S.Write.contents _ (bytes_frame c.args.bytes.now) c.args.self.now c.make_room.new.self c.give_up.new.self c.make_room.ensures.flushes
    (c.is_open.ensures.0 c.if-not-is_open.false) (omega (arith, c.has_room.ensures.full c.if-not-has_room.true, c.bytes_frame_len-frame.ensures))
    (c.make_room.ensures.tried (c.is_open.ensures.0 c.if-not-is_open.false) (c.has_room.ensures.exact.0 c.if-not-has_room.true)) c.in_ok-give_up.ensures.ok
    (c.in_ok-give_up.ensures.sends (c.is_open.ensures.0 c.if-not-is_open.false))

pub returns-clause-waits : goal.returns-clause-waits
returns-clause-waits g c =
    λ was little.
    waited (bytes_frame c.args.bytes.now) c.args.self.now c.make_room.new.self c.put_bytes.new.self c.write_much.new.self
    (c.make_room.ensures.room (omega (arith, c.bytes_frame_len-frame.ensures, little.0))) c.in_ok-put_bytes.ensures.puts c.put_bytes.ensures.state c.write_much.ensures.little was little

pub returns-clause-sends : goal.returns-clause-sends
returns-clause-sends g c =
    λ was still.
    sent g.S.Write.contents (bytes_frame c.args.bytes.now) c.args.self.now c.make_room.new.self c.put_bytes.new.self c.write_much.new.self
    c.make_room.ensures.flushes (c.is_open.ensures.0 c.if-not-is_open.false) c.in_ok-put_bytes.ensures.puts c.write_much.ensures.flushes still

pub returns-clause-came : goal.returns-clause-came
returns-clause-came g c =
    λ was still.
    came_kept g.S.Write.contents c.args.self.now c.make_room.new.self c.put_bytes.new.self c.write_much.new.self c.make_room.ensures.flushes
    (c.is_open.ensures.0 c.if-not-is_open.false) c.put_bytes.ensures.came c.write_much.ensures.flushes still

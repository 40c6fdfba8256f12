-- The bytes that the source gave are held, no read has failed, and the first `seen` bytes have no line feed.
use Rattle.std.proofs.Common.{◌≡◌, ◌≤◌, ◌-◌, false, length, take}
use Rattle.bidi_lines.specs.Devices.{ReadsOn}
use Rattle.bidi_lines.specs.Feeds.{has_feed}
use Rattle.bidi_lines.proofs.line_reader.LineReader.find.Given as goal

abbrev pub invariant-reads : goal.invariant-reads
invariant-reads g l = record {
  bytes : ReadsOn (g.S.Source.left l.initial.source) (g.S.Source.left l.source) l.initial.self l.self;
  failures : g.S.Source.failures l.source ≡ g.S.Source.failures l.initial.source;
  seen : l.seen ≤ length l.self;
  none_seen : has_feed (take l.seen l.self) ≡ false;
}

abbrev pub decreases-reads : goal.decreases-reads
decreases-reads g l = 2097153 - length l.self

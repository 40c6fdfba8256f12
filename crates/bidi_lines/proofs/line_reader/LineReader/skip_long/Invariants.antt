-- The skipped bytes have no line feed and at least one byte for each turn, some bytes are held, and no read has failed.
use Rattle.std.proofs.Common.{◌≡◌, ◌<◌, ◌≤◌, ◌++◌, ℕ, List, false, length}
use Rattle.bidi_lines.specs.Devices.{ReadsOn}
use Rattle.bidi_lines.specs.Feeds.{has_feed}
use Rattle.bidi_lines.proofs.line_reader.LineReader.skip_long.Given as goal

abbrev pub invariant-skips : goal.invariant-skips
invariant-skips g l = (gone : List ℕ) × (record {
  bytes : ReadsOn (g.S.Source.left l.initial.source) (g.S.Source.left l.source) l.initial.self (gone ++ l.self);
  no_feed : has_feed gone ≡ false;
  long : l._turn ≤ length gone;
  some : 0 < length l.self;
  failures : g.S.Source.failures l.source ≡ g.S.Source.failures l.initial.source;
})

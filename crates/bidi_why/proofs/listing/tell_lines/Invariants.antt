-- The lines before what the reader holds were told of and counted, and no read or write has failed.
use Rattle.std.proofs.Common.{◌≡◌, ◌-◌, ℕ, List}
use Rattle.std.specs.Io.KnownBytes.{Appends, Consumes}
use Rattle.bidi_lines.specs.Stops.{BeginsWith}
use Rattle.bidi_why.specs.Telling.{IsOneLine, Sums}
use Rattle.bidi_why.proofs.listing.tell_lines.Given as goal

abbrev pub invariant-lines : goal.invariant-lines
invariant-lines g l = (read : List ℕ) × (lines : List (List ℕ)) × (text : List ℕ) × (record {
  parts : BeginsWith IsOneLine read lines l.reader;
  told : Sums g.E.Explainer.has_told l.initial.explainer l.explainer l.sum lines text;
  reads : Consumes (g.R.Source.left l.initial.source) (g.R.Source.left l.source) read;
  writes : Appends (g.W.Sink.contents l.initial.sink) (g.W.Sink.contents l.sink) text;
  failed_reads : g.R.Source.failures l.source ≡ g.R.Source.failures l.initial.source;
  failed_writes : g.W.Sink.failures l.sink ≡ g.W.Sink.failures l.initial.sink;
})

abbrev pub decreases-lines : goal.decreases-lines
decreases-lines g l = 1000000000 - l.sum.lines

-- The rows so far were written, and no write has failed.
use Rattle.std.proofs.Common.{◌≡◌, ◌++◌, ℕ, List, drop, flat_map}
use Rattle.std.specs.Io.KnownBytes.{Appends}
use Rattle.bidi_why.specs.Counting.{row_line, row_of}
use Rattle.bidi_why.proofs.counting.write_rows.Given as goal

abbrev pub invariant-loop-row : goal.invariant-loop-row
invariant-loop-row g l = record {
  writes : (done : List ℕ) × (done ++ flat_map (λ r. row_line (row_of r)) (drop l.row-index l.rows) ≡ flat_map (λ r. row_line (row_of r)) l.rows)
      × Appends (g.F.Sink.contents l.initial.faults) (g.F.Sink.contents l.faults) done;
  counts : g.F.Sink.failures l.faults ≡ g.F.Sink.failures l.initial.faults;
}

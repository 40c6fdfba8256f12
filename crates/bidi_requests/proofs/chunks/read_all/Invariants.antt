use Rattle.std.proofs.Common.{◌≡◌, ◌≤◌, List, ℕ, drop, flat_map, length}
use Rattle.bidi_requests.specs.Bodies.{HasChunks, most_body}
use Rattle.bidi_requests.proofs.chunks.read_all.Given as goal

-- the chunks so far have the body so far, and each has a byte at least
abbrev pub invariant-loop : goal.invariant-loop
invariant-loop l = record {
  chunks : (cs : List (List ℕ)) × HasChunks l.bytes cs (drop l.at l.bytes) × (l.body.items ≡ flat_map (λ c. c) cs);
  inside : l.at ≤ length l.bytes;
  short : length l.body.items ≤ most_body;
  count : l.counter ≤ length l.body.items;
}

use Rattle.std.proofs.Common.{rules, ap, arith, drop, length, length-append, length-drop, subst}
use Rattle.bidi_requests.specs.Bodies.{HasNoChunkedBody}
use Rattle.bidi_requests.proofs.BodyLemmas.{no-body-behind, one-more, refused-behind}
use Rattle.bidi_requests.proofs.chunks.read_all.Goals as goal

pub returns-in-Part : goal.returns-in-Part
returns-in-Part c =
    let i = c.loop.invariant in
    no-body-behind c.args.bytes.now (drop c.loop.at c.args.bytes.now) i.chunks.0 i.chunks.1 (subst HasNoChunkedBody c.split_at.ensures.back c.in-Part.ensures)

pub returns-in-Refused : goal.returns-in-Refused
returns-in-Refused c =
    let i = c.loop.invariant in
    refused-behind c.args.bytes.now i.chunks.0 c.loop.at i.chunks.1 c.loop.body.items i.chunks.2 c.split_at.result.1.now c.split_at.ensures.back i.short c.len.result (search rules) c.in-Refused.answer c.in-Refused.ensures

pub loop-preserved : goal.loop-preserved
loop-preserved c =
    let i = c.loop.invariant in
    let grows = c.in_ok-extend_from_slice-in-Chunk.ensures.items in
    let takes = c.split_at-in-Chunk-2.ensures.front in
    let from = c.split_at-in-Chunk.ensures.back in
    let chunk = c.in-Chunk.ensures in
    record {
      chunks = one-more c.args.bytes.now i.chunks.0 c.loop.at i.chunks.1 c.loop.body.items i.chunks.2 c.split_at.result.1.now c.split_at.ensures.back c.in-Chunk.start c.in-Chunk.size
          c.split_at-in-Chunk.result.1.now c.split_at-in-Chunk-2.result.0.now c.extend_from_slice.new.self.items chunk.0 from takes grows;
      inside = omega (arith, i.inside, chunk.1, ap length c.split_at.ensures.back, length-drop c.loop.at c.args.bytes.now);
      short = omega (arith, i.short, chunk.3, ap length grows, length-append c.loop.body.items c.split_at-in-Chunk-2.result.0.now, c.split_at-in-Chunk-2.ensures.front_len, c.len.ensures);
      count = omega (arith, i.count, chunk.2, ap length grows, length-append c.loop.body.items c.split_at-in-Chunk-2.result.0.now, c.split_at-in-Chunk-2.ensures.front_len);
    }

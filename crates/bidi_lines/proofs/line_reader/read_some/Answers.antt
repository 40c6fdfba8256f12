use Rattle.std.proofs.Common.{◌≡◌, length, take, ◌∙◌, ap, arith}
use Rattle.bidi_lines.proofs.FeedLemmas.{read_behind, filled}
use Rattle.bidi_lines.proofs.line_reader.read_some.Goals as goal

pub returns-in-Ok-read-clause-bytes : goal.returns-in-Ok-read-clause-bytes
returns-in-Ok-read-clause-bytes g c =
    let read = c.in-Ok-read.ensures in
    let held : length c.args.buffer.now.items ≡ c.len-held.result = omega (arith, c.len-held.ensures) in (
      take c.in-Ok-read.n c.read.new.buffer,
      c.truncate.ensures.items ∙ read_behind c.args.buffer.now.items c.deref_mut.result.now c.read.new.buffer _ _ c.len-held.result c.in-Ok-read.n
          c.resize.new.self.len (ap (take c.len-held.result) (c.deref_mut.ensures.value ∙ c.in-Ok.ensures.items) ∙ filled c.args.buffer.now.items _ c.len-held.result c.saturating_add.result held (omega arith)) held read.bound (omega (arith, read.bound, c.in-Ok.ensures.len, c.deref_mut.ensures.len)),
      read.bytes.0,
    )

use Rattle.std.specs.Prelude.{bytes_eq, string_bytes}
use Rattle.std.specs.HashMap.{get, hash_map_len}
use Rattle.std.specs.String.{string_eq}
use Rattle.bidi_browser.specs.TableInHand.{row_seen}
use Rattle.bidi_browser.proofs.ScriptTableLemmas.{inserted, row-set, count-set}
use Rattle.bidi_browser.proofs.script_table.ScriptTable.set.Goals as goal

pub returns : goal.returns
returns c = λ past tabled.
    let m = c.args.self.now.rows in
    let n = c.insert.new.self in
    let key = c.args.text in
    let done = inserted m n key c.args.row c.insert.result (c.insert.ensures.succeeds c.requires) c.insert.ensures.old
    c.insert.ensures.updates c.insert.ensures.len in
    record {
      rows =
          λ t. row-set row_seen past c.args.row (bytes_eq (string_bytes key) (string_bytes t)) (string_bytes t) (get string_eq m t)
          (get string_eq n t) (done.0.0 t) (tabled.rows t);
      count =
          count-set row_seen past c.args.row (string_bytes key) (get string_eq m key) (hash_map_len m) (hash_map_len n) done.1
          (tabled.rows key) tabled.count;
    }

use Rattle.std.proofs.Common.{◌∙◌, ◌∷◌, ap, map, sym}
use Rattle.bidi_contexts.specs.Acts.{Moved}
use Rattle.bidi_contexts.specs.Contexts.{tree_order}
use Rattle.bidi_contexts.specs.ContextRows.{row_of, rows, changed, moved_in}
use Rattle.bidi_contexts.specs.HistoryInHand.{move_of}
use Rattle.bidi_contexts.proofs.AcceptedLemmas.{act-sound}
use Rattle.bidi_contexts.proofs.EditLemmas.{moved-rows, nowhere}
use Rattle.bidi_contexts.proofs.MoveLemmas.{rows-led}
use Rattle.bidi_contexts.proofs.RowLemmas.{place-of}
use Rattle.bidi_contexts.proofs.contexts.Contexts.navigate.Goals as goal

pub returns-in-Some : goal.returns-in-Some
returns-in-Some c = λ past table accepted is.
    let a = c.args.navigation.context in
    let move = move_of c.args.navigation.to in
    let led = c.lead.ensures past table is.leads ∙ (ap (λ r. changed a (moved_in r move) (rows past)) is.realm ∙ rows-led past a move table.accepted) in
    record {
      rows = ap (map row_of) (c.drop-drain.ensures.items ∙ c.drain.ensures.kept)
          ∙ moved-rows past a c.in-Some.start c.in-Some.end move c.lead.new.self.live.items c.deref.result.now accepted led
          c.deref.ensures.value c.in-Some.ensures.0 c.in-Some.ensures.1;
      accepted = accepted;
    }

pub returns-in_default : goal.returns-in_default
returns-in_default c = λ past table accepted is.
    let a = c.args.navigation.context in
    let move = move_of c.args.navigation.to in
    let led = c.lead.ensures past table is.leads ∙ (ap (λ r. changed a (moved_in r move) (rows past)) is.realm ∙ rows-led past a move table.accepted) in
    nowhere past a accepted.2 (act-sound past accepted.0 (Moved a move) accepted.1)
    (sym (place-of (Moved a move ∷ past) c.deref.result.now (tree_order past) a (ap (map row_of) c.deref.ensures.value ∙ led)) ∙ c.in_default.ensures)

use Rattle.std.proofs.Common.{◌∙◌, ap, map}
use Rattle.bidi_contexts.specs.Acts.{Removed}
use Rattle.bidi_contexts.specs.ContextRows.{row_of}
use Rattle.bidi_contexts.proofs.AcceptedLemmas.{act-sound}
use Rattle.bidi_contexts.proofs.EditLemmas.{removed-rows, somewhere}
use Rattle.bidi_contexts.proofs.contexts.Contexts.remove.Goals as goal

pub returns-in-Some : goal.returns-in-Some
returns-in-Some c = λ past table accepted. record {
  rows = ap (map row_of) c.take_out.ensures
      ∙ removed-rows past c.args.number c.in-Some.start c.in-Some.end c.args.self.now.live.items c.deref.result.now accepted table.rows
      c.deref.ensures.value c.in-Some.ensures.0 c.in-Some.ensures.1;
  accepted = accepted;
}

pub returns-in_default : goal.returns-in_default
returns-in_default c = λ past table accepted.
    somewhere past c.deref.result.now c.args.number (ap (map row_of) c.deref.ensures.value ∙ table.rows) accepted.2
    (act-sound past accepted.0 (Removed c.args.number) accepted.1) c.in_default.ensures

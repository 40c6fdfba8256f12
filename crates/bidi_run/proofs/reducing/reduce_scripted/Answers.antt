use Rattle.std.proofs.Common.{ℕ, ◌<◌, List, [], false, true≢false, length, arith, refl, sym, subst, take}
use Rattle.std.specs.Io.KnownBytes.{Appends}
use Rattle.std.proofs.KnownBytes.{Appends-nil, Appends-trans, Consumes-nil}
use Rattle.bidi_lines.proofs.ResultLemmas.{by_fault}
use Rattle.bidi_play.specs.declared.playing.PlayFault.TheVariants.{NoMemory, Write}
use Rattle.bidi_play.specs.Plays.{play_fault_of}
use Rattle.bidi_reduce.proofs.StrikeLemmas.{follows_none}
use Rattle.bidi_run.specs.declared.reducing.ScriptReducer.{ScriptReducer}
use Rattle.bidi_run.proofs.ScriptReduceLemmas.{reduces_script, script_reduce_stop, script_write_stop}
use Rattle.bidi_run.proofs.reducing.reduce_scripted.Goals as goal

pub returns-in_err-new-clause-err : goal.returns-in_err-new-clause-err
returns-in_err-new-clause-err g c =
    by_fault c.from_residual.result NoMemory _ c.from_residual.ensures
    ([], [], Consumes-nil _, Appends-nil _, ([], [], record { front = refl; each = tt }, (tt, refl), omega arith, tt))

pub answer_lines-requires : goal.answer_lines-requires
answer_lines-requires g c = record {
  steps = [];
  rest = [];
  say = refl;
  each = tt;
  all = tt;
  begins = tt;
  plain = λ part. refl;
  whole = λ yes. absurd (true≢false (sym yes));
  inputs = [];
  heard = tt;
  session = refl;
  follows = follows_none c.in_ok-new.field-0 c.args.session c.in_ok-new.ensures;
  kept = c.new-2.ensures.items;
  none = refl;
}

pub returns-in_err-answer_lines-clause-err : goal.returns-in_err-answer_lines-clause-err
returns-in_err-answer_lines-clause-err g c =
    let first : ScriptReducer = record { end = c.in_ok-new.field-0; session = c.args.session; is_whole = false; kept = c.new-2.result } in
    let f = c.in_err-answer_lines.field-0.0 in
    let (read, wrote, consumes, appends, stops) = c.in_err-answer_lines.ensures.err in
    by_fault c.from_residual-in_err-answer_lines.result (play_fault_of f) _ c.from_residual-in_err-answer_lines.ensures (
      read,
      wrote,
      consumes,
      appends,
      script_reduce_stop first f (g.R.Source.has_ended c.answer_lines.new.source) read wrote stops,
    )

pub returns-in_err-write_all-clause-err : goal.returns-in_err-write_all-clause-err
returns-in_err-write_all-clause-err g c =
    let first : ScriptReducer = record { end = c.in_ok-new.field-0; session = c.args.session; is_whole = false; kept = c.new-2.result } in
    let reducer = c.answer_lines.new.answerer in
    let (read, wrote, consumes, appends, answered) = c.in_ok-answer_lines.ensures.ok in
    let (all, none) = reduces_script first reducer read wrote answered in
    let (n, few, part) = c.in_err-write_all.ensures.err in
    by_fault c.from_residual-in_err-write_all.result Write _ c.from_residual-in_err-write_all.ensures (
      read,
      take n reducer.kept.items,
      consumes,
      Appends-trans _ _ _ _ _ (subst (Appends (g.W.Sink.contents c.args.sink.now) (g.W.Sink.contents c.answer_lines.new.sink)) none appends)
          (subst (λ t. Appends (g.W.Sink.contents c.answer_lines.new.sink) (g.W.Sink.contents c.write_all.new.sink) (take n t)) c.deref.ensures.value part),
      script_write_stop c.args.session n (g.R.Source.has_ended c.answer_lines.new.source) read reducer.kept.items all
          (subst (λ (t : List ℕ). n < length t) c.deref.ensures.value few),
    )

pub returns-clause-ok : goal.returns-clause-ok
returns-clause-ok g c =
    let first : ScriptReducer = record { end = c.in_ok-new.field-0; session = c.args.session; is_whole = false; kept = c.new-2.result } in
    let reducer = c.answer_lines.new.answerer in
    let (read, wrote, consumes, appends, answered) = c.in_ok-answer_lines.ensures.ok in
    let (all, none) = reduces_script first reducer read wrote answered in (
      read,
      reducer.kept.items,
      consumes,
      Appends-trans _ _ _ _ _ (subst (Appends (g.W.Sink.contents c.args.sink.now) (g.W.Sink.contents c.answer_lines.new.sink)) none appends)
          (subst (Appends (g.W.Sink.contents c.answer_lines.new.sink) (g.W.Sink.contents c.write_all.new.sink)) c.deref.ensures.value
          c.in_ok-write_all.ensures.ok),
      all,
    )

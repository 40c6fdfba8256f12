use Rattle.std.specs.Prelude.{refl}
use Rattle.std.proofs.Common.{rules}
use Rattle.bidi_shape.proofs.PartLemmas.{each_well, some_well, text_or_null_well}
use Rattle.bidi_scripts.proofs.log_entry.GenericLogEntry.new.Goals as goal

-- each part is well, whatever it is
pub returns-clause-well : goal.returns-clause-well
returns-clause-well c = (
  (
    tt,
    (
      ((tt, (some_well (λ s. tt) c.args.base.source.context, tt)), record { no_known = refl; may = refl }),
      (
        text_or_null_well (λ s. tt) c.args.base.text,
        (
          tt,
          (
            some_well (λ t. (
              (each_well (λ f. ((tt, (tt, (tt, (tt, tt)))), record { no_known = refl; may = refl })) t.call_frames.items, tt),
              record { no_known = refl; may = refl },
            ))
                c.args.base.stack_trace,
            (tt, tt),
          ),
        ),
      ),
    ),
  ),
  record { no_known = c.in_ok-ext.ensures.unnamed; may = search rules },
)

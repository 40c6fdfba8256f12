use Rattle.std.proofs.Common.{◌∙◌, not, ◌&&◌, sym, ap₂}
use Rattle.bidi_active.proofs.announcing.may_be_new.Goals as goal

pub returns-then-is_among : goal.returns-then-is_among
returns-then-is_among c = ap₂ (λ a b. a && not b) (sym c.if-is_among.true ∙ c.is_among.ensures) c.any_global.ensures

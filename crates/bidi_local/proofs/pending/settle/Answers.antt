use Rattle.std.proofs.Common.{◌∙◌, nat_eq, None, subst, ◌≡◌}
use Rattle.std.specs.Map.{lookup}
use Rattle.bidi_local.proofs.PendingLemmas.{remove_entry-filter}
use Rattle.bidi_local.proofs.pending.settle.Goals as goal

pub returns : goal.returns
returns c =
    let gone = c.shift_remove.ensures in
    gone.entries ∙ remove_entry-filter (nat_eq c.args.id) c.args.pending.now.entries
    (subst (λ es. lookup (nat_eq c.args.id) es ≡ None) gone.entries gone.updates.1)

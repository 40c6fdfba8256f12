use Rattle.std.proofs.Common.{◌≡◌, ℕ, map}
use Rattle.bidi_remote.specs.Machine.Sent.{texts_on}
use Rattle.bidi_sessions.specs.View.{sent_of}
use Rattle.bidi_ledger.specs.Link.{Link}
use Rattle.bidi_link.specs.Rows.{with_texts}
use Rattle.bidi_link.specs.Stands.{RowsAgree, numbers}
use Rattle.bidi_link.proofs.links.deliver.Given as goal

abbrev pub invariant-loop-sent : goal.invariant-loop-sent
invariant-loop-sent l =
    ((f : ℕ → Link) → RowsAgree l.fn.links.entries f → RowsAgree l.links.entries (λ k. with_texts (f k) (texts_on k (map sent_of l.yielded))))
    × (numbers l.links.entries ≡ numbers l.fn.links.entries)

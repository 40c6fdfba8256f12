use Rattle.std.proofs.Common.{◌≡◌, ℕ, ◌+◌, List}
use Rattle.bidi_remote.specs.Machine.History.{Input}
use Rattle.bidi_remote.specs.State.Stands.{StandsFor}
use Rattle.bidi_socket.specs.declared.link.Link.{Link}
use Rattle.bidi_serve.specs.Serving.{Exchanges}
use Rattle.bidi_serve.proofs.serving.exchange_all.Given as goal

-- some exchanges are made, and with those that are left they are all
abbrev pub invariant-exchanges : goal.invariant-exchanges
invariant-exchanges g l =
    (h : List Input) → StandsFor l.fn.end h → (k : List Input) × StandsFor l.end k × (made : ℕ) × (made + l.left ≡ l.fn.messages)
    × ((n : ℕ) (m : Link g.row.S.Denot g.row.K.Denot) (j : List Input) → Exchanges g.S.Read.remaining g.S.Write.contents l.conn.value n l.link k m j
    → Exchanges g.S.Read.remaining g.S.Write.contents l.conn.value (made + n) l.fn.link h m j)

abbrev pub decreases-exchanges : goal.decreases-exchanges
decreases-exchanges g l = l.left

use Rattle.std.proofs.Common.{◌∷◌, [], ◌++◌, ap, refl, sym, ◌∙◌}
use Rattle.bidi_host_loop.specs.Deeds.{Admitted, Denied}
use Rattle.bidi_host_loop.specs.Runs.{is_admitted, is_turned_away}
use Rattle.bidi_host_loop.proofs.RunLemmas.{does_by}
use Rattle.bidi_host_loop.proofs.hosting.Hosted.admit_client.Goals as goal

pub returns-then-not-is_open : goal.returns-then-not-is_open
returns-then-not-is_open c =
    does_by (Denied c.args.place ∷ []) c.args.self.now _
    (is_turned_away c.args.self.now.host.end (λ h so. sym (c.is_open.ensures h so) ∙ c.if-not-is_open.true)) ((refl, refl), refl, c.in_ok-deny.ensures.notes)

pub returns : goal.returns
returns c =
    let rests = c.in_ok-note_client.ensures in
    let d = Admitted c.args.place c.args.conn.value ∷ [] in
    does_by d c.args.self.now _ (is_admitted c.args.self.now.host.end (λ h so. sym (c.is_open.ensures h so) ∙ c.if-not-is_open.false))
    (rests.0, rests.1, c.in_ok-admit.ensures.notes ∙ ap (λ ds. ds ++ d) rests.2)

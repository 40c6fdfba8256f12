use Rattle.std.proofs.Common.{◌∙◌, ◌++◌, ◌∷◌, [], ap, refl}
use Rattle.bidi_host_loop.specs.Clients.{are_routed}
use Rattle.bidi_host_loop.specs.Deeds.{Admitted}
use Rattle.bidi_host_loop.proofs.RouteLemmas.{admitted, others_routed}
use Rattle.bidi_host_loop.proofs.peers.Peers.open_client.Goals as goal

pub returns-in_err-insert-clause-admits : goal.returns-in_err-insert-clause-admits
returns-in_err-insert-clause-admits c deeds routed =
    ap (λ l. are_routed l (deeds ++ Admitted c.args.place c.args.conn.value ∷ [])) (c.in_err-insert.ensures.items ∙ c.forget.ensures.left)
    ∙ others_routed deeds c.args.place c.args.conn.value c.args.self.now.routes.items routed

pub returns-in_err-open_at-clause-admits : goal.returns-in_err-open_at-clause-admits
returns-in_err-open_at-clause-admits c deeds routed =
    let more = deeds ++ Admitted c.args.place c.args.conn.value ∷ [] in
    ap (λ rs. are_routed rs.items more) c.in_err-open_at.ensures ∙ ap (λ l. are_routed l more) c.in_ok-insert.ensures.items
    ∙ admitted deeds c.args.place c.args.conn.value c.args.self.now.routes.items c.forget.new.self.routes.items _ refl refl c.forget.ensures.left routed

pub returns-clause-admits : goal.returns-clause-admits
returns-clause-admits c deeds routed =
    let more = deeds ++ Admitted c.args.place c.args.conn.value ∷ [] in
    ap (λ rs. are_routed rs.items more) c.in_ok-open_at.ensures ∙ ap (λ l. are_routed l more) c.in_ok-insert.ensures.items
    ∙ admitted deeds c.args.place c.args.conn.value c.args.self.now.routes.items c.forget.new.self.routes.items _ refl refl c.forget.ensures.left routed

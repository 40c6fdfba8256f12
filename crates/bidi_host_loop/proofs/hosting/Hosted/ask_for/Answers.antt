use Rattle.std.proofs.Common.{codes, refl, sym, ◌∙◌}
use Rattle.std.proofs.lemmas.Slice.Eq.{bytes_eq-Decides}
use Rattle.bidi_host_loop.proofs.RunLemmas.{opened_asked, page_asked, refused_asked, rest_by}
use Rattle.bidi_host_loop.proofs.hosting.Hosted.ask_for.Goals as goal

pub returns-then-eq : goal.returns-then-eq
returns-then-eq g c =
    page_asked c.args.place c.args.resource.now c.args.self.now c.admit_page.new.self
    ((bytes_eq-Decides c.args.resource.now (codes "/page")).0 (sym c.eq.ensures ∙ c.if-eq.true)) c.in_ok-admit_page.ensures

pub returns-in-Some : goal.returns-in-Some
returns-in-Some g c =
    refused_asked c.args.place _ c.args.resource.now c.args.self.now _ ((refl, refl), refl, c.in_ok-refuse_by_test.ensures.notes)

pub returns : goal.returns
returns g c =
    opened_asked c.args.place _ c.args.resource.now c.args.self.now c.opens.new.self c.admit_client.new.self
    (rest_by c.args.self.now _ c.opens.new.self ((refl, refl), refl, refl) c.in_ok-opens.ensures) c.in_ok-admit_client.ensures

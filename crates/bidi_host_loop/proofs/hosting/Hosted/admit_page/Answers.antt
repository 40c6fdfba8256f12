use Rattle.std.proofs.Common.{◌∷◌, [], refl}
use Rattle.bidi_host_loop.specs.Deeds.{AdmittedPage, Denied}
use Rattle.bidi_host_loop.specs.Runs.{is_full, is_page}
use Rattle.bidi_host_loop.proofs.RunLemmas.{does_by}
use Rattle.bidi_host_loop.proofs.hosting.Hosted.admit_page.Goals as goal

pub returns-then-pages-ge-MOST_PAGES : goal.returns-then-pages-ge-MOST_PAGES
returns-then-pages-ge-MOST_PAGES c =
    does_by (Denied c.args.place ∷ []) c.args.self.now _ (is_full c.args.self.now.host.end) ((refl, refl), refl, c.in_ok-deny.ensures.notes)

pub returns : goal.returns
returns c = does_by (AdmittedPage c.args.place ∷ []) c.args.self.now _ (is_page c.args.self.now.host.end) ((refl, refl), refl, c.in_ok-admit_page.ensures.notes)

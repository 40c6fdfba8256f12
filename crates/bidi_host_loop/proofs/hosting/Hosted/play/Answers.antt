use Rattle.std.proofs.Common.{Some, ap, option_map, slice_get, string_bytes, subst, sym, ◌∙◌}
use Rattle.std.proofs.lemmas.Option.{slice_get-get_or, slice_get-map}
use Rattle.bidi_host_loop.specs.Goes.{By}
use Rattle.bidi_host_loop.specs.Runs.{TakesPageLine}
use Rattle.bidi_host_loop.proofs.RunLemmas.{line_done, taken_at}
use Rattle.bidi_host_loop.proofs.hosting.Hosted.play.Goals as goal

pub returns-in_ok-deliver-in-Some-2 : goal.returns-in_ok-deliver-in-Some-2
returns-in_ok-deliver-in-Some-2 g c _ =
    let place = c.args.place in
    let items = c.args.self.now.page.items in
    let line = c.in-Some.line.now in
    let look = c.in-Some.ensures.lookup in
    let at = slice_get-map string_bytes items place
    ∙ ap (option_map string_bytes)
    (ap (λ xs. slice_get xs place) (sym c.deref.ensures.value) ∙ slice_get-get_or c.deref.result.now place line look.3.0 ∙ ap Some (sym look.1)) in
    taken_at place (string_bytes line) c.args.self.now c.deliver.new.self at
    (subst (λ s. By (TakesPageLine s) c.args.self.now c.deliver.new.self) c.as_str.ensures.value
    (line_done c.as_str.result.now _ _ c.args.self.now c.deliver.new.self c.page_line.new.self.end c.in-Some-2.is c.in_ok-taken.ensures.some
    c.in_ok-deliver-in-Some-2.ensures.0 c.in_ok-deliver-in-Some-2.ensures.1 c.in_ok-deliver-in-Some-2.ensures.2))

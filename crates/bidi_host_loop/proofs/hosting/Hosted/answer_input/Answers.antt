use Rattle.std.proofs.Common.{string_bytes, subst}
use Rattle.bidi_host_loop.specs.Goes.{By, opening_of}
use Rattle.bidi_host_loop.specs.Runs.{Says}
use Rattle.bidi_host_loop.proofs.RunLemmas.{entered_run}
use Rattle.bidi_host_loop.proofs.hosting.Hosted.answer_input.Goals as goal

pub returns : goal.returns
returns g c first before =
    entered_run (string_bytes c.args.line) _ first before c.args.self.now c.page_says.new.self c.answer_line.new.self
    (subst (λ s. By (Says (opening_of c.args.self.now) s) c.args.self.now c.page_says.new.self) c.as_str.ensures.value c.in_ok-answer.ensures)
    c.in_ok-answer_line.ensures

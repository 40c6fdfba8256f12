use Rattle.bidi_host_loop.specs.Goes.{By, opening_of}
use Rattle.bidi_host_loop.specs.Runs.{Says}
use Rattle.bidi_host_loop.proofs.RunLemmas.{line_said, none_then}
use Rattle.bidi_host_loop.proofs.hosting.Hosted.line_is_said.Goals as goal

pub returns-in-Some : goal.returns-in-Some
returns-in-Some g c = line_said c.args.text.now _ _ c.args.self.now c.says_line.new.self c.in-Some.is c.in_ok-answer.ensures.some

pub returns-in_ok-reason-in-None : goal.returns-in_ok-reason-in-None
returns-in_ok-reason-in-None g c = none_then (By (Says (opening_of c.args.self.now) c.args.text.now) c.args.self.now c.says_line.new.self) _ c.because.result c.in-None.is c.in_ok-answer.ensures.none

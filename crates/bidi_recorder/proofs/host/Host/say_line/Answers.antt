use Rattle.std.proofs.Common.{◌∙◌, sym}
use Rattle.bidi_script_lines.specs.View.{said_by}
use Rattle.bidi_recorder.proofs.HostLemmas.{no_page_line, untouched}
use Rattle.bidi_recorder.proofs.host.Host.say_line.Goals as goal

pub returns-then-not-is_said_by_pages-clause-none : goal.returns-then-not-is_said_by_pages-clause-none
returns-then-not-is_said_by_pages-clause-none c = (
  no_page_line (said_by c.args.said) c.args.line.now c.requires.line (sym c.is_said_by_pages.ensures ∙ c.if-not-is_said_by_pages.true),
  untouched c.args.self.now.end,
)

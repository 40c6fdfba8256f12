use Rattle.std.proofs.Common.{◌∙◌, ◌++◌, ap, codes, sym}
use Rattle.json.proofs.Numbered.{HasNumbers-get}
use Rattle.json.specs.Value.{value_view}
use Rattle.bidi_classic.proofs.commands.command_in.Goals as goal

pub compact-requires : goal.compact-requires
compact-requires c = HasNumbers-get (codes "capabilities") (value_view c.args.body.now) (value_view c.in-Some.capabilities.now) c.requires c.in-Some.ensures

pub returns : goal.returns
returns c = (
  value_view c.in-Some.capabilities.now,
  sym c.in-Some.ensures,
  c.in_ok-format.ensures.ok ∙ ap (λ s. codes "{\"id\":0,\"method\":\"session.new\",\"params\":{\"capabilities\":" ++ (s ++ codes "}}")) c.in_ok-capabilities.ensures,
)

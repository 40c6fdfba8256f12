use Rattle.std.proofs.Common.{◌≡◌, Option, Some, None, option_map, refl, ap, ◌∙◌}
use Rattle.std.specs.Prelude.{unwrap_or}
use Rattle.bidi_rules.specs.Names.{name_of}
use Rattle.bidi_shape.specs.Name as told_name
use Rattle.bidi_blame.specs.Reason.{Reason, or_name}
use Rattle.bidi_blame.specs.View.{draft_of}
use Rattle.bidi_rules.specs.declared.name.Name.{Name}
use Rattle.bidi_blame.proofs.draft.Draft.set_name.Goals as goal

abbrev with_name : Reason → told_name.Name → Reason
with_name r n = record { steps = r.steps; wants = r.wants; found = r.found; named = Some n; tags = r.tags }

named : (o : Option Name) (n : Name) → name_of (unwrap_or o n) ≡ or_name (option_map name_of o) (name_of n)
named None n = refl
named (Some m) n = refl

pub returns : goal.returns
returns c =
    let r = draft_of c.args.self.now in
    let is : name_of c.unwrap_or.result ≡ or_name r.named (name_of c.args.name) = ap name_of c.unwrap_or.ensures ∙ named c.args.self.now.named c.args.name in
    ap (λ n. with_name r n) is

use Rattle.std.proofs.Common.{◌∙◌, Some, ap, sym}
use Rattle.bidi_tree.specs.Node as tree
use Rattle.bidi_tree.specs.Node.{get_member}
use Rattle.bidi_shape.specs.Outcome.{handed_on}
use Rattle.bidi_messages.proofs.EnvelopeLemmas.{envelope_read, no_map, no_head, no_method, no_params}
use Rattle.bidi_messages.proofs.envelope.read_envelope.Goals as goal

pub returns-in_err-check_map-clause-no_fit : goal.returns-in_err-check_map-clause-no_fit
returns-in_err-check_map-clause-no_fit g c =
    λ τ says. handed_on _ _ c.from_residual.ensures.1 c.in_err-check_map.ensures.no_fit
    (no_map c.args.name.now g.X.Shape.shape g.K.Named.words g.D.Payload.payload τ says _)

pub returns-in_err-head-clause-no_fit : goal.returns-in_err-head-clause-no_fit
returns-in_err-head-clause-no_fit g c =
    λ τ says. handed_on _ _ c.from_residual-in_err-head.ensures.1 c.in_err-head.ensures.no_fit
    (no_head c.args.name.now g.X.Shape.shape g.K.Named.words g.D.Payload.payload τ says _ _ c.in_ok-check_map.ensures.ok)

pub returns-in_err-kind-clause-no_fit : goal.returns-in_err-kind-clause-no_fit
returns-in_err-kind-clause-no_fit g c =
    λ τ says. handed_on _ _ c.from_residual-in_err-kind.ensures.1 c.in_err-kind.ensures.no_fit
    (no_method c.args.name.now g.X.Shape.shape g.K.Named.words g.D.Payload.payload τ says _ _ c.in_ok-check_map.ensures.ok)

pub returns-in_err-payload-clause-no_fit : goal.returns-in_err-payload-clause-no_fit
returns-in_err-payload-clause-no_fit g c =
    λ τ says. handed_on _ _ c.from_residual-in_err-payload.ensures.1 c.in_err-payload.ensures.no_fit
    (no_params c.args.name.now g.X.Shape.shape g.K.Named.words g.D.Payload.payload τ says _ _ c.in_ok-kind.kind
    c.in_ok-check_map.ensures.ok c.in_ok-kind.ensures.ok)

pub returns-clause-ok : goal.returns-clause-ok
returns-clause-ok g c =
    let head = c.in_ok-head.ensures in
    let v = c.in_ok-payload in
    let method = c.in_ok-kind.ensures.ok ∙ ap (λ k. Some (tree.text (g.K.Named.words.text_of k))) (sym v.ensures.ok.0) in
    envelope_read c.args.name.now g.X.Shape.shape g.K.Named.words g.D.Payload.payload c.in_ok-head.field-0.0 v.payload c.in_ok-head.field-0.1 _
    _ c.requires.once c.in_ok-check_map.ensures.ok head.sorted
    head.ok.0.0 head.ok.1.0 method v.ensures.ok.1 v.ensures.ok.2 head.rest.0 head.rest.1

use Rattle.bidi_shape.specs.Table.{table_read, members_exit, fields_exit}
use Rattle.bidi_shape.proofs.fields.read_fields.Goals as goal

pub returns-in_err-check_map-clause-no_fit : goal.returns-in_err-check_map-clause-no_fit
returns-in_err-check_map-clause-no_fit g c = λ τ says. members_exit _ τ _ _ says _ _ c.from_residual.ensures.1 c.in_err-check_map.ensures.no_fit

pub returns-in_err-fields-clause-no_fit : goal.returns-in_err-fields-clause-no_fit
returns-in_err-fields-clause-no_fit g c =
    λ τ says. fields_exit _ _ τ _ _ _ c.requires.table c.in_ok-check_map.ensures.ok says _ _ c.from_residual-in_err-fields.ensures.1
    c.in_err-fields.ensures.no_fit

pub returns-clause-ok : goal.returns-clause-ok
returns-clause-ok g c =
    let f = c.in_ok-fields in
    let p = table_read _ _ _ (g.F.Fields.table.parts _ f.fields) _ _ _ c.requires.table c.in_ok-check_map.ensures.ok f.ensures.ok.0
    f.ensures.sorted f.ensures.rest.0 f.ensures.rest.1 in
    (p.0, (f.ensures.ok.1, p.1))

use Rattle.std.proofs.Common.{◌≡◌, ◌∙◌, ◌++◌, false, option_map, ap, refl, rules}
use Rattle.std.specs.Prelude.{bytes_eq, codes}
use Rattle.bidi_handles.specs.declared.id.IdKind.TheVariants.{Session as OfSession}
use Rattle.bidi_handles.specs.Ids.{id_of}
use Rattle.bidi_active.specs.declared.sessions.Session.{Session}
use Rattle.bidi_active.specs.SessionView.{opened_by}
use Rattle.bidi_sessions.proofs.FindLemmas.{find-none, differ}
use Rattle.bidi_active.proofs.sessions.opening_of.Goals as goal

pub returns-in_err-id : goal.returns-in_err-id
returns-in_err-id c =
    let resource = c.args.resource.now in
    let other : bytes_eq resource (codes "/session") ≡ false = search (rules, c.if-eq.ensures) in
    let none = find-none (λ (s : Session). bytes_eq resource (codes "/session/" ++ id_of OfSession s.number)) c.args.sessions.now
    (λ s. differ resource (codes "/session/" ++ id_of OfSession s.number) (c.in_err-id.ensures.cases (id_of OfSession s.number))) in
    ap (option_map opened_by) c.from_residual.ensures ∙ rw (other, none) refl

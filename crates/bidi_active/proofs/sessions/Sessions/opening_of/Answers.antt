use Rattle.std.proofs.Common.{◌∙◌, ◌++◌, ℕ, Some, None, option_map, sym, ap}
use Rattle.std.specs.Prelude.{bytes_eq, codes, find, if◌then◌else◌}
use Rattle.bidi_handles.specs.declared.id.IdKind.TheVariants.{Session as OfSession}
use Rattle.bidi_handles.specs.Ids.{id_of}
use Rattle.bidi_active.specs.SessionView.{session_row_of}
use Rattle.bidi_sessions.proofs.ListLemmas.{find-map}
use Rattle.bidi_active.proofs.sessions.Sessions.opening_of.Goals as goal

pub returns : goal.returns
returns c =
    let resource = c.args.resource.now in
    let named = λ (n : ℕ). bytes_eq resource (codes "/session/" ++ id_of OfSession n) in
    c.opening_of.ensures ∙ ap (λ o. if bytes_eq resource (codes "/session") then Some None else o)
    (ap (λ items. option_map (λ s. Some s.number) (find (λ s. named s.number) items)) c.deref.ensures.value
    ∙ sym (find-map session_row_of (λ r. Some r.number) (λ r. named r.number) c.args.self.now.active.items))

use Rattle.std.proofs.Common.{◌≡◌, ◌<◌, ◌^◌, ℕ, Bool, true, Some, IfSome, option_map, rules, tests}
use Rattle.std.specs.Prelude.{bytes_eq, find}
use Rattle.std.proofs.lemmas.Iterator.{YieldsList-from_slice}
use Rattle.std.proofs.lemmas.Iterator.Search.{find_from_yields_List}
use Rattle.bidi_handles.specs.declared.id.IdKind.TheVariants.{Session as OfSession}
use Rattle.bidi_handles.specs.Ids.{id_of}
use Rattle.bidi_active.specs.declared.sessions.Session.{Session}
use Rattle.bidi_active.proofs.sessions.session_named.Goals as goal

-- with any test in place of the text of an id, which a search would write out
pub returns : goal.returns
returns c =
    let by : (t : ℕ → Bool) → IfSome c.id_number-number.result (λ n. (n < 2 ^ 48) × (t n ≡ true))
    → ((n : ℕ) → n < 2 ^ 48 → t n ≡ true → c.id_number-number.result ≡ Some n)
    → c.map.result ≡ option_map (λ s. s.number) (find (λ s. t s.number) c.args.sessions.now) = λ t some every.
    let found = find_from_yields_List (λ (s : Session). t s.number) _ _ c.find.result c.find.ensures.ran
    (YieldsList-from_slice c.args.sessions.now (cc)) (λ x b q k. search (rules, tests)) in
    search (rules, found) in
    by (λ n. bytes_eq c.args.id.now (id_of OfSession n)) c.id_number-number.ensures.some c.id_number-number.ensures.every

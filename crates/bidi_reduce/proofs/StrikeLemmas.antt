-- One step more of a play that is struck for a session.
use Rattle.std.proofs.Common.{◌≡◌, ◌∙◌, ℕ, ◌+◌, ◌<◌, ◌≤◌, Bool, true, false, not, List, [], ◌∷◌, ◌++◌, length, length-append, reverse, append-nil}
use Rattle.std.proofs.Common.{refl, sym, ap, subst, arith, map, take, get_or, Ok, Err}
use Rattle.std.specs.Prelude.{if◌then◌else◌, Result, IsErr, IsErrAnd}
use Rattle.std.specs.List.{items_where_true}
use Rattle.std.proofs.lemmas.List.{length-map, length-take, map-append, reverse-append, take_more}
use Rattle.bidi_remote.specs.declared.remote_end.RemoteEnd.{RemoteEnd}
use Rattle.bidi_remote.specs.declared.remote_end.RemoteFault.{RemoteFault}
use Rattle.bidi_sessions.specs.declared.step.Step as declared
use Rattle.bidi_sessions.specs.Step.{Step}
use Rattle.bidi_remote.specs.Machine.History.{Input, AreHeardAs}
use Rattle.bidi_remote.specs.Machine.Outcome.{deeds}
use Rattle.bidi_remote.specs.Strike.{is_struck}
use Rattle.bidi_reduce.specs.Kept.{keeps_after, strike_steps}
use Rattle.bidi_remote.specs.State.Stands.{StandsFor}
use Rattle.bidi_sessions.specs.View.{step_of}
use Rattle.bidi_remote.proofs.AnswerLemmas.{reverse_behind}
use Rattle.bidi_remote.proofs.HeardLemmas.{heard-kept, length-heard}
use Rattle.bidi_reduce.specs.Own.{Alike}
use Rattle.bidi_reduce.specs.Follows.{Follows, is_kept}
use Rattle.bidi_reduce.specs.Strikes.{Strikes}
use Rattle.bidi_reduce.proofs.AlikeLemmas.{alike-kept, alike-struck, sees-strike, strike-strike, struck-alike}
use Rattle.bidi_sessions.specs.Limits.{most_steps}

-- ---- what is kept

-- of one input more
keeps_more : (h : List Input) (s : ℕ) (inputs : List Input) (i : Input)
    → keeps_after h s (inputs ++ i ∷ []) ≡ keeps_after h s inputs ++ not (is_struck (deeds (reverse inputs ++ h)) s i) ∷ []
keeps_more h s [] i = refl
keeps_more h s (x ∷ inputs) i =
    ap (λ ks. not (is_struck (deeds h) s x) ∷ ks)
    (keeps_more (x ∷ h) s inputs i ∙ ap (λ g. keeps_after (x ∷ h) s inputs ++ not (is_struck (deeds g) s i) ∷ []) (reverse_behind x inputs h))

length-keeps : (h : List Input) (s : ℕ) (inputs : List Input) → length (keeps_after h s inputs) ≡ length inputs
length-keeps h s [] = refl
length-keeps h s (i ∷ inputs) = let ih = length-keeps (i ∷ h) s inputs in omega (arith, ih)

-- of one place more
places_more : {X : Type 0} (ks : List Bool) (xs : List X) (k : Bool) (x : X) → length ks ≡ length xs
    → items_where_true (ks ++ k ∷ []) (xs ++ x ∷ []) ≡ items_where_true ks xs ++ (if k then x ∷ [] else [])
places_more [] [] true x e = refl
places_more [] [] false x e = refl
places_more [] (y ∷ xs) k x e = absurd (omega (arith, e))
places_more (b ∷ ks) [] k x e = absurd (omega (arith, e))
places_more (true ∷ ks) (y ∷ xs) k x e = ap (λ zs. y ∷ zs) (places_more ks xs k x (omega (arith, e)))
places_more (false ∷ ks) (y ∷ xs) k x e = places_more ks xs k x (omega (arith, e))

-- of one step more
pub strike_more : (s : ℕ) (steps : List Step) (inputs : List Input) (x : Step) (i : Input) → AreHeardAs steps inputs
    → strike_steps (steps ++ x ∷ []) (inputs ++ i ∷ []) s ≡ strike_steps steps inputs s ++ (if is_kept s inputs i then x ∷ [] else [])
strike_more s steps inputs x i heard =
    ap (λ ks. items_where_true ks (steps ++ x ∷ []))
    (keeps_more [] s inputs i ∙ ap (λ g. keeps_after [] s inputs ++ not (is_struck (deeds g) s i) ∷ []) (append-nil (reverse inputs)))
    ∙ places_more (keeps_after [] s inputs) steps (is_kept s inputs i) x (length-keeps [] s inputs ∙ length-heard steps inputs heard)

-- what is left of the steps, and what the session sees of it
pub strikes : (s : ℕ) (steps kept : List Step) (inputs : List Input) → AreHeardAs steps inputs → kept ≡ strike_steps steps inputs s → Strikes s steps kept
strikes s steps kept inputs heard left = record {
  inputs = inputs;
  heard = heard;
  left = left;
  heard_left = subst (λ xs. AreHeardAs xs (items_where_true (keeps_after [] s inputs) inputs)) (sym left) (heard-kept (keeps_after [] s inputs) steps inputs heard);
  same = sees-strike inputs s;
  again = strike-strike inputs s;
}

-- ---- steps in hand

-- one that is not kept is not added
pub none_added : (xs : List Step) (x : Step) (b : Bool) → b ≡ false → xs ≡ xs ++ (if b then x ∷ [] else [])
none_added xs x b none = subst (λ k. xs ≡ xs ++ (if k then x ∷ [] else [])) (sym none) (sym (append-nil xs))

-- one that is kept is
pub one_added : (olds news : List declared.Step) (y : declared.Step) (x : Step) (b : Bool)
    → news ≡ olds ++ y ∷ [] → step_of y ≡ x → b ≡ true → map step_of news ≡ map step_of olds ++ (if b then x ∷ [] else [])
one_added olds news y x b grown same one =
    ap (map step_of) grown ∙ (map-append step_of olds (y ∷ []) ∙ (ap (λ z. map step_of olds ++ z ∷ []) same
    ∙ ap (λ k. map step_of olds ++ (if k then x ∷ [] else [])) (sym one)))

-- the first steps, and one more
pub taken_more : (steps : List declared.Step) (n : ℕ) (x : declared.Step) → n < length steps → x ≡ get_or steps n x
    → map step_of (take (n + 1) steps) ≡ map step_of (take n steps) ++ step_of x ∷ []
taken_more steps n x less at =
    ap (map step_of) (take_more steps n x less ∙ ap (λ y. take n steps ++ y ∷ []) (sym at)) ∙ map-append step_of (take n steps) (x ∷ [])

-- there is one more step than inputs of those before it
pub one_further : (steps : List declared.Step) (n : ℕ) (inputs : List Input)
    → AreHeardAs (map step_of (take n steps)) inputs → n < length steps → most_steps ≤ length inputs → most_steps < length steps
one_further steps n inputs heard less many =
    let same = length-heard (map step_of (take n steps)) inputs heard in
    let mapped = length-map (take n steps) step_of in
    let front = length-take n steps in
    omega (arith, same, mapped, front, less, many)

-- the fault that a call handed on
pub fault_same : {T : Type 0} (r : Result T RemoteFault) (e f : RemoteFault) → IsErr r × IsErrAnd r (λ x. x ≡ e) → r ≡ Err f → e ≡ f
fault_same (Ok x) e f p is = cc
fault_same (Err x) e f p is = let same = p.1 in cc

-- ---- an end that is handed what is kept

-- it has taken nothing
pub follows_none : (end : RemoteEnd) (s : ℕ) → StandsFor end [] → Follows end s []
follows_none end s stands = record { taken = []; stands = stands; alike = refl; few = omega arith }

-- an input that is struck is not taken
pub follows_struck : (end after : RemoteEnd) (s : ℕ) (inputs : List Input) (i : Input) (f : Follows end s inputs)
    → ((h : List Input) → StandsFor end h → StandsFor after h) → true ≡ is_struck (deeds f.taken) s i
    → (false ≡ is_kept s inputs i) × Follows after s (inputs ++ i ∷ [])
follows_struck end after s inputs i f stays struck =
    let is : is_struck (deeds (reverse inputs)) s i ≡ true = struck-alike s (deeds (reverse inputs)) (deeds f.taken) i f.alike ∙ sym struck in
    let long = length-append inputs (i ∷ []) in
    let few = f.few in (
      sym (ap not is),
      record {
        taken = f.taken;
        stands = stays f.taken f.stands;
        alike =
            subst (λ h. Alike s (deeds h) (deeds f.taken)) (sym (reverse-append inputs (i ∷ [])))
            (alike-struck s (deeds (reverse inputs)) (deeds f.taken) i f.alike is);
        few = omega (arith, long, few);
      },
    )

-- one that is kept is taken
pub follows_kept : (end after : RemoteEnd) (s : ℕ) (inputs : List Input) (i : Input) (f : Follows end s inputs)
    → (StandsFor end f.taken → StandsFor after (i ∷ f.taken)) → false ≡ is_struck (deeds f.taken) s i
    → (true ≡ is_kept s inputs i) × Follows after s (inputs ++ i ∷ [])
follows_kept end after s inputs i f takes kept =
    let is : is_struck (deeds (reverse inputs)) s i ≡ false = struck-alike s (deeds (reverse inputs)) (deeds f.taken) i f.alike ∙ sym kept in
    let long = length-append inputs (i ∷ []) in
    let few = f.few in (
      sym (ap not is),
      record {
        taken = i ∷ f.taken;
        stands = takes f.stands;
        alike =
            subst (λ h. Alike s (deeds h) (deeds (i ∷ f.taken))) (sym (reverse-append inputs (i ∷ [])))
            (alike-kept s (deeds (reverse inputs)) (deeds f.taken) i f.alike is);
        few = omega (arith, long, few);
      },
    )

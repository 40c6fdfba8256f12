-- `then` makes a value of no bytes, at one more than the count that it is shown.
use Rattle.std.proofs.Common.{ℕ, ◌+◌, [], ◌∷◌, refl}
use Rattle.std.proofs.raw_atomic.Walks.{proved}
use mir.Syntax.{named}
use mir.Val.{vptr, vstruct, vnil}
use types.Kit.{‵, raw, ◌⊛◌, ◌$◌, ◌∵◌, !, qed, split, keep, suffices, done}
use types.Run.{enter, no_more, returns}
use types.Part.{agg}
use types.ByLocal.{alloc_all, pass_all, free_all, look_at, sets}
use denote.Exit.{yes}
use denote.Ref.{shr_vals, shr_Tells}
use denote.Shadow.{pure_i}
use denote.RattleType.{owns}
use denote.Signature.{plain, types_at}
use denote.Triple.Entry.{alive}
use denote.Triple.Walked.{says, Stays, stay_none_ref, Goes-none_ref, ends_at}
use Rattle.bidi_lines.specs.declared.tally.Tally.{Tally}
use Rattle.bidi_lines.specs.contracts.tally.Tally as T
use Rattle.bidi_lines.specs.contracts.tally.Tally.then as f
use Rattle.bidi_lines.proofs.tally.Tally.then.Statement.{statement}
use Rattle.bidi_lines.proofs.tally.Tally.then.Code as code

abbrev one_more : ℕ → Tally
one_more n = record { count = n + 1 }

abbrev stayed : Stays f.ended.signature.params f.ended.kept
stayed = (stay_none_ref (0 ∷ []) tt (plain (λ _. T.the_row)) yes, tt)

pub then_spec : {M : Type 1} → statement M
then_spec 𝓤 𝓛 𝓜 𝓡 wired =
    let c = f.clauses 𝓛 𝓜.mem 𝓡.returns in
    proved 𝓛 f.ended stayed c 𝓜 𝓡 (Goes-none_ref 𝓛 1 (0 ∷ []) tt (plain (λ _. T.the_row)) yes, tt)
    f.Key.name code.function (code.unfolded 𝓤 𝓛.H 𝓜 𝓡 wired)
    (λ κs. (shr_vals, tt)) (λ κs. (shr_Tells (named 0) κs.0 T.the_row, tt)) (λ κs qs bounds a g are.
    let before = vptr a.0.ref_ptr.0 a.0.ref_ptr.1 ∷ [] in
    let after = one_more a.0.now.count in
    qed 𝓛 ((raw (alive 𝓛 f.signature κs qs) ⊛ ‵ (owns (types_at f.signature.params κs) a (before, tt))) ∷ raw ((c κs a).requires g) ∷ []) ∵ split ! $
    enter ! _ _ _ _ _ $ alloc_all ! (λ l. pass_all ! refl ((tt, tt), tt) $
    sets ! (agg ! (no_more !)) refl (tt, tt) $
    returns ! (look_at ! 0 refl) $ free_all ! refl $
    pure_i ! (T.the_row.own_val after (vstruct vnil ∷ [])) ((λ vss. (tt, tt)), tt) ((tt, (refl, tt)), tt) $
    suffices ! _ (ends_at 𝓛 f.ended stayed c ((κs, qs, bounds, a, (before, tt)), g) (vstruct vnil) after (tt, tt) (tt, tt)) $ says ! refl $
    keep ! (1 ∷ 2 ∷ 0 ∷ []) $ done !))

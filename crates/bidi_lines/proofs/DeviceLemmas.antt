-- Several reads or writes, one after the other.
use Rattle.std.proofs.Common.{◌≡◌, ℕ, ◌+◌, ◌-◌, ◌<◌, List, [], ◌++◌, length, take, drop, Option, Result, Ok, Err, OnErr, sym}
use Rattle.std.proofs.Common.{ap, subst, ◌∙◌, arith, append_assoc, append-nil, take-append-drop, length-append}
use lib.Seq.{take-append_seam}
use Rattle.std.proofs.lemmas.List.{take_rest}
use Rattle.std.specs.Io.KnownBytes.{Appends, Keeps}
use Rattle.std.proofs.KnownBytes.{Appends-kept, Consumes-nil, Consumes-trans}
use Rattle.bidi_lines.specs.Devices.{AppendsBeginning, ReadsOn}

-- a fact that always holds also holds after an Err
pub OnErr-anyhow : {T E P : Type 0} (r : Result T E) → P → OnErr r P
OnErr-anyhow (Ok x) p = tt
OnErr-anyhow (Err e) p = p

-- n bytes move from the front of the rest to the end of what is done
pub moves_front : (all done rest : List ℕ) (n : ℕ) → all ≡ done ++ rest → all ≡ (done ++ take n rest) ++ take (length rest - n) (drop n rest)
moves_front all done rest n e =
    e ∙ ap (λ l. done ++ l) (sym (take-append-drop n rest))
    ∙ sym (append_assoc done (take n rest) (drop n rest)) ∙ ap (λ l. (done ++ take n rest) ++ l) (sym (take_rest rest n))

-- the bytes that are done are a beginning of all, as long as some are left
pub AppendsBeginning-kept : (a b c : Option (List ℕ)) (all done rest : List ℕ)
    → all ≡ done ++ rest → 0 < length rest → Appends a b done → Keeps b c → AppendsBeginning a c all
AppendsBeginning-kept a b c all done rest whole more appended kept =
    let front : take (length done) all ≡ done = ap (take (length done)) whole ∙ take-append_seam done rest in
    let long : length all ≡ length done + length rest = ap length whole ∙ length-append done rest in
    (length done, omega arith, subst (Appends a c) (sym front) (Appends-kept a b c done appended kept))

-- no byte was read
pub ReadsOn-nil : (a : Option (List ℕ)) (old : List ℕ) → ReadsOn a a old old
ReadsOn-nil a old = ([], sym (append-nil old), Consumes-nil a)

-- two reads together
pub ReadsOn-trans : (a b c : Option (List ℕ)) (old mid new : List ℕ) → ReadsOn a b old mid → ReadsOn b c mid new → ReadsOn a c old new
ReadsOn-trans a b c old mid new (bs, e, p) (cs, f, q) =
    (bs ++ cs, f ∙ ap (λ l. l ++ cs) e ∙ append_assoc old bs cs, Consumes-trans a b c bs cs p q)

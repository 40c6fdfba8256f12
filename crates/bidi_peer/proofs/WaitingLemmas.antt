-- What a stream takes and gives, one call after another.
use Rattle.std.proofs.Common.{◌≡◌, ◌∙◌, ◌+◌, ◌-◌, ◌≤◌, ◌<◌, ◌++◌, ℕ, List, [], Option, None, Some, ap, append-nil, append_assoc, arith, drop, length, sym, take}
use Rattle.std.proofs.Math.Seq.{take-add}
use Rattle.std.proofs.lemmas.List.{drop-drop, drop-take, length-drop, length-take-le, take-append-drop}
use Rattle.std.specs.Io.KnownBytes.{Appends, Consumes, Keeps}
use Rattle.std.specs.Prelude.{slice_range}
use Rattle.bidi_peer.specs.Waiting.{Reads, Writes}

-- what is left of a part of a list without its front
pub without-front : (xs : List ℕ) (start end n m : ℕ) → m ≡ n → n ≤ end - start → slice_range xs (start + m) end ≡ drop n (slice_range xs start end)
without-front xs start end n m same fits =
    let k = end - (start + n) in
    let parts : n + k ≡ end - start = omega (arith, fits) in
    ap (λ j. slice_range xs (start + j) end) same ∙ ap (λ l. take k l) (sym (drop-drop n start xs)) ∙ sym (drop-take n k (drop start xs))
    ∙ ap (λ j. drop n (take j (drop start xs))) parts

-- what is behind a front that stays, up to its end
pub kept-front : (xs ys : List ℕ) (start end : ℕ) → start ≤ end → take end ys ≡ take end xs → slice_range ys start end ≡ slice_range xs start end
kept-front xs ys start end ordered front =
    let k = end - start in
    let whole : start + k ≡ end = omega (arith, ordered) in
    sym (drop-take start k ys) ∙ ap (λ j. drop start (take j ys)) whole ∙ ap (drop start) front ∙ ap (λ j. drop start (take j xs)) (sym whole) ∙ drop-take start k xs

-- a part of a list that grows at its end
pub grown-part : (xs : List ℕ) (start end n : ℕ) → start ≤ end → slice_range xs start (end + n) ≡ slice_range xs start end ++ take n (drop end xs)
grown-part xs start end n ordered =
    let k = end - start in
    let whole : start + k ≡ end = omega (arith, ordered) in
    let parts : end + n - start ≡ k + n = omega (arith, ordered) in
    ap (λ j. take j (drop start xs)) parts ∙ take-add k n (drop start xs)
    ∙ ap (λ l. take k (drop start xs) ++ take n l) (drop-drop k start xs ∙ ap (λ j. drop j xs) whole)

part-length : (xs : List ℕ) (start end : ℕ) → end ≤ length xs → length (slice_range xs start end) ≡ end - start
part-length xs start end inside = length-take-le (end - start) (drop start xs) (omega (arith, length-drop start xs, inside))

-- a part that grows is longer
pub grows : (w xs : List ℕ) (start end n : ℕ) → start ≤ end → slice_range xs start end ≡ w → end + n ≤ length xs → (n ≡ 0 → ⊥) → length w < length (slice_range xs start (end + n))
grows w xs start end n ordered was inside more =
    omega (arith, ordered, inside, part-length xs start (end + n) inside, part-length xs start end (omega (arith, inside)), ap length was, some n more)
  where
    some : (n : ℕ) → (n ≡ 0 → ⊥) → 0 < n
    some n more = omega (arith, more)

-- known bytes lose one piece and then another
pub consumes-then : (u v w : Option (List ℕ)) (a b : List ℕ) → Consumes u v a → Consumes v w b → Consumes u w (a ++ b)
consumes-then None v w a b x y = tt
consumes-then (Some xs) None w a b x y = absurd x
consumes-then (Some xs) (Some ys) None a b x y = absurd y
consumes-then (Some xs) (Some ys) (Some zs) a b x y = x ∙ ap (λ t. a ++ t) y ∙ sym (append_assoc a b zs)

-- kept bytes lose nothing
pub keeps-consumes : (u v : Option (List ℕ)) → Keeps u v → Consumes u v []
keeps-consumes None v k = tt
keeps-consumes (Some xs) None k = absurd k
keeps-consumes (Some xs) (Some ys) k = sym k

module _ {S : Type 0} (remaining : S → Option (List ℕ)) where
  -- one read after another
  pub reads_then : (a b c : List ℕ) (s t u : S) → Reads remaining a b s t → Reads remaining b c t u → Reads remaining a c s u
  reads_then a b c s t u x y = record {
    came = x.came ++ y.came;
    joins = y.joins ∙ ap (λ l. l ++ y.came) x.joins ∙ append_assoc a x.came y.came;
    given = consumes-then (remaining s) (remaining t) (remaining u) x.came y.came x.given y.given;
  }

  -- bytes came behind a part of a list
  pub reads_more : (w xs : List ℕ) (start end n : ℕ) (s t u : S) → start ≤ end → slice_range xs start end ≡ w → Keeps (remaining s) (remaining t)
      → Consumes (remaining t) (remaining u) (take n (drop end xs)) → Reads remaining w (slice_range xs start (end + n)) s u
  reads_more w xs start end n s t u ordered same keeps given = record {
    came = take n (drop end xs);
    joins = grown-part xs start end n ordered ∙ ap (λ l. l ++ take n (drop end xs)) same;
    given = consumes-then (remaining s) (remaining t) (remaining u) [] (take n (drop end xs)) (keeps-consumes (remaining s) (remaining t) keeps) given;
  }

  -- the stream gave nothing
  pub reads_nothing : (a b : List ℕ) (s t : S) → b ≡ a → Keeps (remaining s) (remaining t) → Reads remaining a b s t
  reads_nothing a b s t same keeps = record { came = []; joins = same ∙ sym (append-nil a); given = keeps-consumes (remaining s) (remaining t) keeps }

-- known bytes grow by one piece and then by another
pub appends-then : (u v w : Option (List ℕ)) (a b : List ℕ) → Appends u v a → Appends v w b → Appends u w (a ++ b)
appends-then None v w a b x y = tt
appends-then (Some xs) None w a b x y = absurd x
appends-then (Some xs) (Some ys) None a b x y = absurd y
appends-then (Some xs) (Some ys) (Some zs) a b x y = y ∙ ap (λ t. t ++ b) x ∙ append_assoc xs a b

-- kept bytes grow by nothing
pub keeps-appends : (u v : Option (List ℕ)) → Keeps u v → Appends u v []
keeps-appends None v k = tt
keeps-appends (Some xs) None k = absurd k
keeps-appends (Some xs) (Some ys) k = k ∙ sym (append-nil xs)

module _ {S : Type 0} (contents : S → Option (List ℕ)) where
  -- the stream took nothing
  pub writes_keeps : (w m : List ℕ) (s t u : S) → Writes contents w m s t → Keeps (contents t) (contents u) → Writes contents w m s u
  writes_keeps w m s t u a k = record {
    went = a.went ++ [];
    parts = a.parts ∙ ap (λ x. x ++ m) (sym (append-nil a.went));
    taken = appends-then (contents s) (contents t) (contents u) a.went [] a.taken (keeps-appends (contents t) (contents u) k);
  }

  -- one write after another, with bytes that joined between them
  pub writes_then : (w m l bytes : List ℕ) (s t u : S) → Writes contents w m s t → Writes contents (m ++ bytes) l t u → Writes contents (w ++ bytes) l s u
  writes_then w m l bytes s t u a b = record {
    went = a.went ++ b.went;
    parts = ap (λ x. x ++ bytes) a.parts ∙ append_assoc a.went m bytes ∙ ap (λ x. a.went ++ x) b.parts ∙ sym (append_assoc a.went b.went l);
    taken = appends-then (contents s) (contents t) (contents u) a.went b.went a.taken b.taken;
  }

  -- the stream took some more off the front
  pub writes_more : (w first second : List ℕ) (sent n : ℕ) (s t u : S) → Writes contents w (drop sent first ++ second) s t
      → Appends (contents t) (contents u) (take n (drop sent first)) → Writes contents w (drop (sent + n) first ++ second) s u
  writes_more w first second sent n s t u a more =
      let front = take n (drop sent first) in
      let back = drop n (drop sent first) in
      let same : back ≡ drop (sent + n) first = drop-drop n sent first in
      let split : drop sent first ++ second ≡ front ++ (drop (sent + n) first ++ second) =
      ap (λ x. x ++ second) (sym (take-append-drop n (drop sent first))) ∙ append_assoc front back second ∙ ap (λ x. front ++ (x ++ second)) same in
      record {
        went = a.went ++ front;
        parts = a.parts ∙ ap (λ x. a.went ++ x) split ∙ sym (append_assoc a.went front (drop (sent + n) first ++ second));
        taken = appends-then (contents s) (contents t) (contents u) a.went front a.taken more;
      }

-- Looking up what was read of a node, and what a place was made of.
use Rattle.std.proofs.Common.{◌≡◌, ◌<◌, ◌≤◌, ◌+◌, take, ℕ, zero, suc, List, [], ◌∷◌, ◌++◌, length, get_or, map, Option, Some, None, refl, sym, ap, subst, ◌∙◌, arith, string_bytes}
use Rattle.std.specs.List.{AllZip}
use Rattle.std.specs.Prelude.{String}
use Rattle.std.specs.Global.{Vec}
use Rattle.std.specs.declared.alloc.Global.{Global}
use Rattle.std.proofs.lemmas.List.{get_or-map, take_more, take_all}
use Rattle.bidi_grammar.specs.Source as source
use Rattle.bidi_grammar.specs.Source.{Entry, Source, of_type, never}
use Rattle.bidi_cddl.specs.declared.written.Node.{Node}
use Rattle.bidi_cddl.specs.declared.written.Rule.{Rule}
use Rattle.bidi_cddl.specs.declared.written.Written as code
use Rattle.bidi_loader.specs.declared.draft.Origin.{Origin}
use Rattle.bidi_loader.specs.declared.reading.Reading.{Reading}
use Rattle.bidi_loader.specs.Plain.{unescaped}
use Rattle.bidi_loader.specs.Meaning.{written_trees}
use Rattle.bidi_loader.specs.Readings.{IsNode, AreTexts, text_in, text_at, lists_view, lists_at, named_at, source_of, source_at}

-- one more element at the end of two lists
pub both_more : {A B : Type 0} (R : A → B → Type 0) (xs : List A) (ys : List B) (x : A) (y : B) → AllZip R xs ys → R x y → AllZip R (xs ++ x ∷ []) (ys ++ y ∷ [])
both_more R [] [] x y h r = (r, tt)
both_more R [] (z ∷ ys) x y h r = absurd h
both_more R (z ∷ xs) [] x y h r = absurd h
both_more R (v ∷ xs) (z ∷ ys) x y h r = (h.0, both_more R xs ys x y h.1 r)

-- the elements at one place of two lists
pub both_at : {A B : Type 0} (R : A → B → Type 0) (xs : List A) (ys : List B) (k : ℕ) (x : A) (y : B) → AllZip R xs ys → k < length xs
    → x ≡ get_or xs k x → y ≡ get_or ys k y → R x y
both_at R [] ys k x y h l e f = absurd (omega (arith, l))
both_at R (v ∷ xs) [] k x y h l e f = absurd h
both_at R (v ∷ xs) (z ∷ ys) zero x y h l e f = subst (λ b. R x b) (sym f) (subst (λ a. R a z) (sym e) h.0)
both_at R (v ∷ xs) (z ∷ ys) (suc k) x y h l e f = both_at R xs ys k x y h.1 (omega (arith, l)) e f

-- the string at a place, as an option
text-at : (texts : List (String Global)) (k : ℕ) → k < length texts
    → get_or (map (λ (s : String Global). Some (string_bytes s)) texts) k None ≡ Some (text_at texts k)
text-at [] k l = absurd (omega (arith, l))
text-at (s ∷ texts) zero l = refl
text-at (s ∷ texts) (suc k) l = text-at texts k (omega (arith, l))

-- the string of a node, without its escapes
pub text-here : (w : code.Written) (texts : List (String Global)) (k : ℕ) (n : Node) → AreTexts w texts → IsNode w k n → k < length texts
    → unescaped (text_in n) ≡ Some (text_at texts k)
text-here w texts k n e h l =
    let f : Node → Option (List ℕ) = λ m. unescaped (text_in m) in
    ap f h.1 ∙ sym (get_or-map f w.nodes.items k n None h.0) ∙ ap (λ (xs : List (Option (List ℕ))). get_or xs k None) e ∙ text-at texts k l

-- the place of a type in the table
pub source-here : (w : code.Written) (reading : Reading) (origins : List Origin) (n : ℕ) (x : Origin) → n < length origins → x ≡ get_or origins n x
    → source_at w reading origins n ≡ source_of w reading x
source-here w reading origins n x l e = get_or-map (source_of w reading) origins n x never l ∙ ap (source_of w reading) (sym e)

-- the lists of entries of the map at a node
pub lists-here : (w : code.Written) (reading : Reading) (k : ℕ) (x : Vec (Vec ℕ)) → k < length reading.lists.items → x ≡ get_or reading.lists.items k x
    → lists_at w reading k ≡ lists_view (written_trees w) x
lists-here w reading k x l e =
    get_or-map (lists_view (written_trees w)) reading.lists.items k x [] l ∙ ap (lists_view (written_trees w)) (sym e)

-- the name of a rule, as a type
pub named-here : (w : code.Written) (i : ℕ) (r : Rule) → i < length w.rules.items → r ≡ get_or w.rules.items i r
    → named_at w i ≡ of_type (source.name r.name.now)
named-here w i r l e =
    let f : Rule → Source = λ (x : Rule). of_type (source.name x.name.now) in
    get_or-map f w.rules.items i r never l ∙ ap f (sym e)

-- one node more, and what was read of it
pub nodes_more : {A B : Type 0} (R : A → B → Type 0) (xs : List A) (ys zs : List B) (k : ℕ) (x : A) (y : B) → k < length xs → x ≡ get_or xs k x
    → zs ≡ ys ++ y ∷ [] → AllZip R (take k xs) ys → R x y → AllZip R (take (k + 1) xs) zs
nodes_more R xs ys zs k x y l e f h r =
    subst (λ vs. AllZip R vs zs) (sym (take_more xs k x l ∙ ap (λ v. take k xs ++ v ∷ []) (sym e)))
    (subst (λ vs. AllZip R (take k xs ++ x ∷ []) vs) (sym f) (both_more R (take k xs) ys x y h r))

-- all nodes
pub nodes_end : {A B : Type 0} (R : A → B → Type 0) (xs : List A) (ys : List B) (k : ℕ) → length xs ≤ k → AllZip R (take k xs) ys → AllZip R xs ys
nodes_end R xs ys k l h = subst (λ vs. AllZip R vs ys) (take_all k xs l) h

-- The lists of entries that the code makes are those of the group.
use Rattle.std.proofs.Common.{◌≡◌, ◌<◌, ◌+◌, ℕ, List, [], ◌∷◌, ◌++◌, length, get_or, map, take, Some, sym, ap, subst, ◌∙◌, append_assoc}
use Rattle.std.specs.Global.{Vec}
use Rattle.std.proofs.lemmas.List.{append-nil, map-append, map_push, map_more}
use Rattle.bidi_grammar.specs.Source.{Group, Entry, Rules, pairs, Lists, lists_both, lists_choice, lists_group, lists_named, lists_further, lists_maybe, maybe, both, choice, group, named, further, at_name, others, Written}
use Rattle.std.specs.Prelude.{Result, Ok, Err, IfOk}
use Rattle.bidi_cddl.specs.declared.written.Occurs.{Occurs}
use Rattle.bidi_cddl.specs.declared.written.Occurs.TheVariants.{Optional}
use Rattle.bidi_grammar.specs.Term.{Need}
use Rattle.bidi_loader.specs.Meaning.{Tree, entries_at, some_of}
use Rattle.bidi_loader.specs.Readings.{lists_view}

-- the entries of a list of nodes
abbrev entries_in : List Tree → Vec ℕ → List Entry
entries_in trees list = entries_at trees list.items

-- one list more
pub view-push : (trees : List Tree) (before after : Vec (Vec ℕ)) (list : Vec ℕ) → after.items ≡ before.items ++ list ∷ []
    → lists_view trees after ≡ lists_view trees before ++ entries_at trees list.items ∷ []
view-push trees before after list e =
    ap (map (entries_in trees)) e ∙ map_push (entries_in trees) before.items list

-- some lists more
pub view-append : (trees : List Tree) (before more after : Vec (Vec ℕ)) → after.items ≡ before.items ++ more.items
    → lists_view trees after ≡ lists_view trees before ++ lists_view trees more
view-append trees before more after e =
    ap (map (entries_in trees)) e ∙ map-append (entries_in trees) before.items more.items

-- a list that is two others, one after the other
pub entries-append : (trees : List Tree) (es bs cs : List ℕ) → cs ≡ es ++ bs → entries_at trees cs ≡ entries_at trees es ++ entries_at trees bs
entries-append trees es bs cs e = ap (entries_at trees) e ∙ map-append _ es bs

-- a list followed by one more of others
pub followed_more : (trees : List Tree) (es : List ℕ) (begin now : List (List Entry)) (seconds : List (Vec ℕ)) (i : ℕ) (x : Vec ℕ)
    → i < length seconds → x ≡ get_or seconds i x
    → now ≡ begin ++ map (λ ys. entries_at trees es ++ ys) (map (λ (l : Vec ℕ). entries_at trees l.items) (take i seconds))
    → now ++ (entries_at trees es ++ entries_at trees x.items) ∷ []
    ≡ begin ++ map (λ ys. entries_at trees es ++ ys) (map (λ (l : Vec ℕ). entries_at trees l.items) (take (i + 1) seconds))
followed_more trees es begin now seconds i x l e h =
    let f : Vec ℕ → List Entry = entries_in trees in
    let g : List Entry → List Entry = λ ys. entries_at trees es ++ ys in
    let more : map g (map f (take (i + 1) seconds)) ≡ map g (map f (take i seconds)) ++ g (f x) ∷ [] =
    ap (map g) (map_more f seconds i x l) ∙ map_push g (map f (take i seconds)) (f (get_or seconds i x))
    ∙ ap (λ (v : Vec ℕ). map g (map f (take i seconds)) ++ g (f v) ∷ []) (sym e) in
    ap (λ (xss : List (List Entry)). xss ++ g (f x) ∷ []) h
    ∙ append_assoc begin (map g (map f (take i seconds))) (g (f x) ∷ [])
    ∙ ap (λ (xss : List (List Entry)). begin ++ xss) (sym more)

-- one list more in front of others
pub pairs-push : (xss yss : List (List Entry)) (xs : List Entry) → pairs (xss ++ xs ∷ []) yss ≡ pairs xss yss ++ map (λ ys. xs ++ ys) yss
pairs-push [] yss xs = append-nil (map (λ ys. xs ++ ys) yss)
pairs-push (zs ∷ xss) yss xs =
    ap (λ (zss : List (List Entry)). map (λ ys. zs ++ ys) yss ++ zss) (pairs-push xss yss xs)
    ∙ sym (append_assoc (map (λ ys. zs ++ ys) yss) (pairs xss yss) (map (λ ys. xs ++ ys) yss))

-- the pairs of one list more of the first ones
pub pairs_more : (trees : List Tree) (firsts : List (Vec ℕ)) (yss now after : List (List Entry)) (i : ℕ) (x : Vec ℕ)
    → i < length firsts → x ≡ get_or firsts i x
    → now ≡ pairs (map (λ (l : Vec ℕ). entries_at trees l.items) (take i firsts)) yss
    → after ≡ now ++ map (λ ys. entries_at trees x.items ++ ys) yss
    → after ≡ pairs (map (λ (l : Vec ℕ). entries_at trees l.items) (take (i + 1) firsts)) yss
pairs_more trees firsts yss now after i x l e h k =
    let f : Vec ℕ → List Entry = entries_in trees in
    k ∙ ap (λ (zss : List (List Entry)). zss ++ map (λ ys. f x ++ ys) yss) h
    ∙ sym (pairs-push (map f (take i firsts)) yss (f x))
    ∙ ap (λ (v : Vec ℕ). pairs (map f (take i firsts) ++ f v ∷ []) yss) e
    ∙ ap (λ (zss : List (List Entry)). pairs zss yss) (sym (map_more f firsts i x l))

-- the lists of `A, B`
pub lists_of_both : (ρ : Rules) (G A B : Group) (zss xss yss : List (List Entry)) → G ≡ both A B → zss ≡ pairs xss yss → Lists ρ A xss → Lists ρ B yss → Lists ρ G zss
lists_of_both ρ G A B zss xss yss e f h k =
    subst (λ C. Lists ρ C zss) (sym e) (subst (λ vss. Lists ρ (both A B) vss) (sym f) (lists_both A B xss yss h k))

-- the lists of `A // B`
pub lists_of_choice : (ρ : Rules) (G A B : Group) (zss xss yss : List (List Entry)) → G ≡ choice A B → zss ≡ xss ++ yss → Lists ρ A xss → Lists ρ B yss → Lists ρ G zss
lists_of_choice ρ G A B zss xss yss e f h k =
    subst (λ C. Lists ρ C zss) (sym e) (subst (λ vss. Lists ρ (choice A B) vss) (sym f) (lists_choice A B xss yss h k))

-- the lists of a group by its name
pub lists_of_name : (ρ : Rules) (G A : Group) (k : List ℕ) (xss : List (List Entry)) → G ≡ group k → ρ.group_of k ≡ Some A → Lists ρ A xss → Lists ρ G xss
lists_of_name ρ G A k xss e f h = subst (λ C. Lists ρ C xss) (sym e) (lists_group k A xss f h)

-- the lists of a named member
pub lists_of_member : (ρ : Rules) (G : Group) (k : List ℕ) (need : Need) (σ : Written) (zss : List (List Entry)) → G ≡ named k need σ
    → zss ≡ (at_name k need σ ∷ []) ∷ [] → Lists ρ G zss
lists_of_member ρ G k need σ zss e f =
    subst (λ C. Lists ρ C zss) (sym e) (subst (λ vss. Lists ρ (named k need σ) vss) (sym f) (lists_named k need σ))

-- the lists of further members
pub lists_of_further : (ρ : Rules) (G : Group) (σ : Written) (zss : List (List Entry)) → G ≡ further σ → zss ≡ (others σ ∷ []) ∷ [] → Lists ρ G zss
lists_of_further ρ G σ zss e f =
    subst (λ C. Lists ρ C zss) (sym e) (subst (λ vss. Lists ρ (further σ) vss) (sym f) (lists_further σ))

-- a group that may be left out
pub maybe_is : {E : Type 0} (r : Result (Vec (Vec ℕ)) E) (lists : Vec (Vec ℕ)) (occurs : Occurs) → occurs ≡ Optional
    → IfOk r (λ found. (trees : List Tree) → lists_view trees found ≡ lists_view trees lists ++ [] ∷ [])
    → IfOk r (λ found. (ρ : Rules) (trees : List Tree) (A : Group) → Lists ρ A (lists_view trees lists) → Lists ρ (some_of occurs A) (lists_view trees found))
maybe_is (Ok found) lists occurs e h = λ ρ trees A k.
    subst (λ o. Lists ρ (some_of o A) (lists_view trees found)) (sym e)
    (subst (λ zss. Lists ρ (maybe A) zss) (sym (h trees)) (lists_maybe A (lists_view trees lists) k))
maybe_is (Err x) lists occurs e h = tt

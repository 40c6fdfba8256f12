-- What is told of several contexts: of all that are live, and of those that are removed.
use Rattle.std.proofs.Common.{◌≡◌, ◌∙◌, ℕ, Bool, true, false, List, [], ◌∷◌, ◌++◌, append-nil, cond, map, filter, refl, sym, ap, ap₂}
use Rattle.std.specs.Prelude.{◌==◌, flat_map, if◌then◌else◌}
use Rattle.std.proofs.lemmas.Bool.Decides.{Decides-eqb}
use Rattle.std.proofs.lemmas.List.{append_assoc}
use Rattle.bidi_contexts.specs.Acts.{Act}
use Rattle.bidi_contexts.specs.Accepted.{AreAccepted}
use Rattle.bidi_contexts.specs.Contexts.{user_of, children_of, subtree_of, tree_order}
use Rattle.bidi_contexts.specs.Occurrences.{Occurrence, realm_destroyed, context_destroyed, removal, tree_events}
use Rattle.bidi_contexts.specs.ContextRows.{ContextRow, row_at, created_in, realm_created_in, realm_destroyed_in}
use Rattle.bidi_contexts.proofs.MemberLemmas.{fails}
use Rattle.bidi_contexts.proofs.RowLemmas.{created-stand, realms-stand, realms_gone-stand}
use Rattle.bidi_contexts.proofs.TreeLemmas.{subtree-parts}

-- ---- all that are live

-- each context, then each realm, tells of the whole tree
pub events-told : (past : List Act) (first second : List ContextRow) (none some all : List Occurrence)
    → first ≡ map (row_at past) (tree_order past) → second ≡ map (row_at past) (tree_order past) → none ≡ []
    → some ≡ none ++ map created_in first → all ≡ some ++ map realm_created_in second → all ≡ tree_events past
events-told past first second none some all one two empty came realms =
    realms ∙ ap₂ (λ xs ys. xs ++ ys) (came ∙ (ap₂ (λ xs rs. xs ++ map created_in rs) empty one ∙ created-stand past (tree_order past)))
    (ap (map realm_created_in) two ∙ realms-stand past (tree_order past))

-- ---- those that are removed

-- what is told of a context, where it goes with a user context
abbrev pub removal_with : List Act → ℕ → ℕ → List Occurrence
removal_with past u c = if user_of past c == u then removal past c else []

-- of several, what is told of those that go
pub removals-with : (past : List Act) (u : ℕ) (cs : List ℕ) → flat_map (removal_with past u) cs ≡ flat_map (removal past) (filter (λ c. user_of past c == u) cs)
removals-with past u [] = refl
removals-with past u (c ∷ cs) = step (user_of past c == u) (removals-with past u cs)
  where
    rest : List ℕ
    rest = filter (λ c. user_of past c == u) cs

    step : (b : Bool) → flat_map (removal_with past u) cs ≡ flat_map (removal past) rest
        → (if b then removal past c else []) ++ flat_map (removal_with past u) cs ≡ flat_map (removal past) (cond b (c ∷ rest) rest)
    step true ih = ap (λ xs. removal past c ++ xs) ih
    step false ih = ih

-- behind what was told, that of one that goes
pub removal-gone : (past : List Act) (u c : ℕ) (row : ContextRow) (told after : List Occurrence)
    → row ≡ row_at past c → row.user ≡ u → after ≡ told ++ removal past c → after ≡ told ++ removal_with past u c
removal-gone past u c row told after is same made =
    made ∙ ap (λ t. told ++ (if t then removal past c else [])) (sym ((Decides-eqb (user_of past c) u).1 (sym (ap (λ (r : ContextRow). r.user) is) ∙ same)))

-- and nothing of one that stays
pub removal-stays : (past : List Act) (u c : ℕ) (row : ContextRow) (told after : List Occurrence)
    → row ≡ row_at past c → (row.user ≡ u → ⊥) → after ≡ told → after ≡ told ++ removal_with past u c
removal-stays past u c row told after is other made =
    let stays = fails (user_of past c == u) (λ e. absurd (other (ap (λ (r : ContextRow). r.user) is ∙ (Decides-eqb (user_of past c) u).0 e))) in
    made ∙ (sym (append-nil told) ∙ ap (λ t. told ++ (if t then removal past c else [])) (sym stays))

-- behind what was told, the realm of a context, those of all below it, then the context
pub removal-told : (past : List Act) (c : ℕ) → AreAccepted past → (rows : List ContextRow) (before first realms all : List Occurrence) (realm last : Occurrence)
    → rows ≡ map (row_at past) (flat_map (subtree_of past) (children_of past c)) → realm ≡ realm_destroyed past c → first ≡ before ++ realm ∷ []
    → realms ≡ first ++ map realm_destroyed_in rows → all ≡ realms ++ last ∷ [] → last ≡ context_destroyed past c → all ≡ before ++ removal past c
removal-told past c acc rows before first realms all realm last below one begun gone added is =
    let inner = flat_map (subtree_of past) (children_of past c) in
    let ends = map (realm_destroyed past) inner in
    let whole : realm_destroyed past c ∷ ends ≡ map (realm_destroyed past) (subtree_of past c) = sym (ap (map (realm_destroyed past)) (subtree-parts past acc c)) in
    added
    ∙ (ap₂ (λ xs x. xs ++ x ∷ [])
    (gone ∙ (ap₂ (λ xs ys. xs ++ ys) (begun ∙ ap (λ x. before ++ x ∷ []) one) (ap (map realm_destroyed_in) below ∙ realms_gone-stand past inner)
    ∙ (append_assoc before (realm_destroyed past c ∷ []) ends ∙ ap (λ xs. before ++ xs) whole)))
    is
    ∙ append_assoc before (map (realm_destroyed past) (subtree_of past c)) (context_destroyed past c ∷ []))

-- What is not born yet, and which contexts and rows there are once one was born.
use Rattle.std.proofs.Common.{◌≡◌, ◌+◌, ◌≤◌, ◌<◌, ℕ, zero, suc, Bool, true, false, List, [], ◌∷◌, ◌++◌, length, refl, sym, ◌∙◌, ap, arith, cond}
use Rattle.std.specs.Prelude.{◌==◌, not, ◌&&◌, ◌||◌, nat_lt, if◌then◌else◌, filter, Option, Some, None, unwrap_or}
use Rattle.std.proofs.lemmas.Bool.Decides.{nat_tests}
use Rattle.std.proofs.lemmas.List.Elements.{filter-append}
use Rattle.url.specs.Parts.{Parts}
use Rattle.bidi_handles.specs.declared.id.IdKind.{IdKind}
use Rattle.bidi_handles.specs.declared.id.IdKind.TheVariants.{Context, Realm, Window}
use Rattle.bidi_contexts.specs.Urls.{about_blank}
use Rattle.bidi_contexts.specs.Acts.{Act, Made, Framed, Removed, Moved, UserRemoved, gives, given, next_number}
use Rattle.bidi_contexts.specs.Contexts.{parent_of, top_of, level_of, window_of, user_of, is_under, is_gone, is_alive, up_to, contexts}
use Rattle.bidi_contexts.specs.Places.{begun_at}
use Rattle.bidi_contexts.specs.Accepted.{AreAccepted}
use Rattle.bidi_contexts.specs.ContextRows.{row_at}
use Rattle.bidi_contexts.proofs.AcceptedLemmas.{act-sound, alive-below}
use Rattle.bidi_contexts.proofs.HandleLemmas.{handles-unmade}

-- ---- what is not born yet

-- it stands below nothing but itself
under-unborn : (past : List Act) (a c : ℕ) → next_number past Context ≤ c → is_under past a c ≡ (a == c)
under-unborn [] a c unborn = refl
under-unborn (Framed p url ∷ past) a c unborn = let ih = under-unborn past a c in grind (arith, nat_tests, ih)
under-unborn (Made w u ∷ past) a c unborn = under-unborn past a c (omega arith)
under-unborn (act ∷ past) a c unborn = under-unborn past a c unborn

-- what goes with a live context is not it
gone-step : (u g : Bool) (a c : ℕ) → a < c → u ≡ (a == c) → g ≡ false → (u || g) ≡ false
gone-step u g a c smaller under stays = grind (arith, nat_tests)

-- so it is of what a navigation takes
moved-step : (u g : Bool) (a c : ℕ) → a < c → u ≡ (a == c) → g ≡ false → ((u && not (a == c)) || g) ≡ false
moved-step u g a c smaller under stays = grind (arith, nat_tests)

-- a live context has a smaller number than one that is not born yet
alive-smaller : (past : List Act) (a c : ℕ) → is_alive past a ≡ true → next_number past Context ≤ c → a < c
alive-smaller past a c alive unborn = let below = alive-below a (next_number past Context) (is_gone past a) alive in omega arith

-- it is in no user context but `default`
user-unborn : (past : List Act) (c : ℕ) → next_number past Context ≤ c → user_of past c ≡ 0
user-unborn [] c unborn = refl
user-unborn (Framed p url ∷ past) c unborn = let ih = user-unborn past c in grind (arith, nat_tests, ih)
user-unborn (Made w u ∷ past) c unborn = let ih = user-unborn past c in grind (arith, nat_tests, ih)
user-unborn (act ∷ past) c unborn = user-unborn past c unborn

-- so the removal of another one does not take it
user-step : (v u : ℕ) (g : Bool) → v ≡ 0 → 0 < u → g ≡ false → (v == u || g) ≡ false
user-step v u g none above stays = grind (arith, nat_tests)

-- what is not born yet is not gone
pub gone-unborn : (past : List Act) (c : ℕ) → AreAccepted past → next_number past Context ≤ c → is_gone past c ≡ false
gone-unborn [] c acc unborn = refl
gone-unborn (Framed p url ∷ past) c acc unborn = gone-unborn past c acc.2 (omega arith)
gone-unborn (Made w u ∷ past) c acc unborn = gone-unborn past c acc.2 (omega arith)
gone-unborn (Removed a ∷ past) c acc unborn =
    gone-step (is_under past a c) (is_gone past c) a c (alive-smaller past a c (act-sound past acc.0 (Removed a) acc.1) unborn)
    (under-unborn past a c unborn) (gone-unborn past c acc.2 unborn)
gone-unborn (Moved a move ∷ past) c acc unborn =
    moved-step (is_under past a c) (is_gone past c) a c (alive-smaller past a c (act-sound past acc.0 (Moved a move) acc.1) unborn)
    (under-unborn past a c unborn) (gone-unborn past c acc.2 unborn)
gone-unborn (UserRemoved u ∷ past) c acc unborn =
    user-step (user_of past c) u (is_gone past c) (user-unborn past c unborn) (act-sound past acc.0 (UserRemoved u) acc.1).above (gone-unborn past c acc.2 unborn)
gone-unborn (act ∷ past) c acc unborn = gone-unborn past c acc.2 unborn

-- it has no parent
pub parent-unborn : (past : List Act) (c : ℕ) → next_number past Context ≤ c → parent_of past c ≡ None
parent-unborn [] c unborn = refl
parent-unborn (Framed p url ∷ past) c unborn = let ih = parent-unborn past c in grind (arith, nat_tests, ih)
parent-unborn (Made w u ∷ past) c unborn = parent-unborn past c (omega arith)
parent-unborn (act ∷ past) c unborn = parent-unborn past c unborn

-- it is its own top-level context
top-unborn : (past : List Act) (c : ℕ) → next_number past Context ≤ c → top_of past c ≡ c
top-unborn [] c unborn = refl
top-unborn (Framed p url ∷ past) c unborn = let ih = top-unborn past c in grind (arith, nat_tests, ih)
top-unborn (Made w u ∷ past) c unborn = top-unborn past c (omega arith)
top-unborn (act ∷ past) c unborn = top-unborn past c unborn

-- it is at level 1
level-unborn : (past : List Act) (c : ℕ) → next_number past Context ≤ c → level_of past c ≡ 1
level-unborn [] c unborn = refl
level-unborn (Framed p url ∷ past) c unborn = let ih = level-unborn past c in grind (arith, nat_tests, ih)
level-unborn (Made w u ∷ past) c unborn = level-unborn past c (omega arith)
level-unborn (act ∷ past) c unborn = level-unborn past c unborn

-- ---- the rows

-- a number is itself
pub same-number : (n : ℕ) → (n == n) ≡ true
same-number n = grind (arith, nat_tests)

-- an older number is another
other-number : (c n : ℕ) → c ≤ n → (c == suc n) ≡ false
other-number c n older = grind (arith, nat_tests)

-- the numbers up to n that pass are the same where tests agree there
filter-up-to : (p q : ℕ → Bool) (n : ℕ) → ((c : ℕ) → c ≤ n → p c ≡ q c) → filter p (up_to n) ≡ filter q (up_to n)
filter-up-to p q zero tests = refl
filter-up-to p q (suc n) tests =
    let ih = filter-up-to p q n (λ c older. tests c (omega arith)) in
    let test = tests (suc n) (omega arith) in
    filter-append p (up_to n) (suc n ∷ []) ∙ (ap (λ xs. xs ++ filter p (suc n ∷ [])) ih
    ∙ (ap (λ b. filter q (up_to n) ++ cond b (suc n ∷ []) []) test ∙ sym (filter-append q (up_to n) (suc n ∷ []))))

-- the row of a context that was born before a top-level one
pub row-older-made : (past : List Act) (w : Option ℕ) (u c : ℕ) → c ≤ given past Context → row_at (Made w u ∷ past) c ≡ row_at past c
row-older-made past w u c older = rw (other-number c (given past Context) older) refl

-- also where a frame was born
pub row-older-framed : (past : List Act) (p : ℕ) (url : Parts) (c : ℕ) → c ≤ given past Context → row_at (Framed p url ∷ past) c ≡ row_at past c
row-older-framed past p url c older = rw (other-number c (given past Context) older) refl

-- a context that was born before is as alive as it was
born-older : (c n : ℕ) (g : Bool) → c ≤ n → ((nat_lt 0 c && nat_lt c (suc (suc n))) && not g) ≡ ((nat_lt 0 c && nat_lt c (suc n)) && not g)
born-older c n g older = grind (arith, nat_tests)

-- and the new one is alive
born-new : (n : ℕ) (g : Bool) → g ≡ false → ((nat_lt 0 (suc n) && nat_lt (suc n) (suc (suc n))) && not g) ≡ true
born-new n g stays = grind (arith, nat_tests)

-- with the new number at the end, the others are the same
numbers-new : (p q : ℕ → Bool) (n : ℕ) → ((c : ℕ) → c ≤ n → p c ≡ q c) → p (suc n) ≡ true → filter p (up_to (suc n)) ≡ filter q (up_to n) ++ suc n ∷ []
numbers-new p q n tests new =
    filter-append p (up_to n) (suc n ∷ []) ∙ (ap (λ xs. xs ++ filter p (suc n ∷ [])) (filter-up-to p q n tests)
    ∙ ap (λ b. filter q (up_to n) ++ cond b (suc n ∷ []) []) new)

-- a birth adds the new context, the youngest of all that live
pub contexts-born : (past : List Act) (act : Act)
    → AreAccepted past → gives Context act ≡ true → contexts (act ∷ past) ≡ contexts past ++ next_number past Context ∷ []
contexts-born past (Made w u) acc gives-it =
    let n = given past Context in
    numbers-new (is_alive (Made w u ∷ past)) (is_alive past) n (λ c older. born-older c n (is_gone past c) older)
    (born-new n (is_gone past (suc n)) (gone-unborn past (suc n) acc (omega arith)))
contexts-born past (Framed p url) acc gives-it =
    let n = given past Context in
    numbers-new (is_alive (Framed p url ∷ past)) (is_alive past) n (λ c older. born-older c n (is_gone past c) older)
    (born-new n (is_gone past (suc n)) (gone-unborn past (suc n) acc (omega arith)))
contexts-born past act acc gives-it = absurd (cc)

-- one more at most, of an act more
few-step : (b : Bool) (g n : ℕ) → g ≤ n + 1 → (if b then suc g else g) ≤ suc n + 1
few-step true g n few = omega arith
few-step false g n few = omega arith

-- no more ids of a kind were given out than acts, and one at the start
pub given-few : (past : List Act) (kind : IdKind) → given past kind ≤ length past + 1
given-few [] Context = omega arith
given-few [] Realm = omega arith
given-few [] Window = omega arith
given-few [] kind = omega arith
given-few (act ∷ past) kind = few-step (gives kind act) (given past kind) (length past) (given-few past kind)

-- the new context of a top-level birth
pub row-made : (past : List Act) (w : Option ℕ) (u : ℕ) → AreAccepted past → row_at (Made w u ∷ past) (next_number past Context)
    ≡ record {
      number = next_number past Context;
      parent = None;
      top = next_number past Context;
      level = 1;
      window = unwrap_or w (next_number past Window);
      user = u;
      realm = next_number past Realm;
      entries = begun_at about_blank;
      handles = [];
    }
row-made past w u acc =
    rw (
      same-number (next_number past Context),
      parent-unborn past (suc (given past Context)) (omega arith),
      top-unborn past (suc (given past Context)) (omega arith),
      level-unborn past (suc (given past Context)) (omega arith),
      handles-unmade past (next_number past Realm) acc (omega arith),
    ) refl

-- the new context of a frame
pub row-framed : (past : List Act) (p : ℕ) (url : Parts) → AreAccepted past → row_at (Framed p url ∷ past) (next_number past Context)
    ≡ record {
      number = next_number past Context;
      parent = Some p;
      top = top_of past p;
      level = suc (level_of past p);
      window = window_of past p;
      user = user_of past p;
      realm = next_number past Realm;
      entries = begun_at url;
      handles = [];
    }
row-framed past p url acc = rw (same-number (next_number past Context), handles-unmade past (next_number past Realm) acc (omega arith)) refl

-- Infos that are written as JSON: they fit their rule, and their tokens follow one another.
use Rattle.std.proofs.Common.{◌≡◌, ◌∙◌, ◌≤◌, ◌+◌, ℕ, Bool, true, false, List, [], ◌∷◌, ◌++◌, append-nil, codes, Option, Some, None, Result, Ok, Err, IfOk, String, Global, string_bytes}
use Rattle.std.proofs.Common.{refl, sym, ap, ap₂, subst, arith, append_assoc, zero-le}
use Rattle.std.specs.Prelude.{flat_map, OnOk, ◌||◌}
use Rattle.std.proofs.lemmas.Grind.{flat_map-append}
use Rattle.json.specs.Token.{Token, begin_object, end_object, begin_array, end_array, key, string, null as null_token}
use Rattle.json.specs.Written.{Written}
use Rattle.json.specs.Print.{print}
use Rattle.bidi_tree.specs.Node.{Node, null, text, levels, items_levels, has_odd, items_have_odd, IsSound, ItemsAreSound}
use Rattle.bidi_tree.specs.Data.{tokens_of, items_tokens}
use Rattle.bidi_tree.specs.Text.{compact_text}
use Rattle.bidi_tree.specs.View.{items_of}
use Rattle.bidi_tree.proofs.PartLemmas.{behind}
use Rattle.bidi_tree.proofs.RoundTrip.{print-tokens_of}
use Rattle.bidi_shape.specs.Name.{info}
use Rattle.bidi_shape.specs.Term as term
use Rattle.bidi_shape.specs.Term.{required, optional, extensible, either, list_of, no_more, rule}
use Rattle.bidi_shape.specs.Fits.{Fits, fits_text, fits_null, fits_map, fits_list, fits_first, fits_second, fits_rule, fits_capped, no_row, no_item, an_item, AllFit}
use Rattle.bidi_shape.proofs.FitsLemmas.{row_fits}
use Rattle.bidi_handles.specs.Maps.{listed}
use Rattle.bidi_handles.specs.Ids.{id_of}
use Rattle.bidi_handles.specs.declared.id.IdKind.TheVariants.{Context, Window}
use Rattle.bidi_contexts.specs.Urls.{url_text}
use Rattle.bidi_contexts.specs.Users.{user_id}
use Rattle.bidi_contexts.specs.Info.{parent_tree}
use Rattle.bidi_contexts.specs.ContextRows.{ContextRow, url_in, shown_info}
use Rattle.bidi_contexts.specs.InfosWritten.{IsInfo, AreInfos, AreChildren, parent_at, member_tokens, WroteInfos, WroteChildren, TellsInfos, infos_tree}

-- ---- tokens

-- what holds once all is written
pub on-ok : {E A B : Type 0} (r : Result (Unit {0}) E) → OnOk r A → (A → B) → OnOk r B
on-ok (Ok x) a f = f a
on-ok (Err e) a f = tt

-- the same where it is known for each of some
pub on-each : {E A C X Y : Type 0} {P : X → Y → Type 0} {B : X → Y → Type 0} (r : Result (Unit {0}) E) → OnOk r A → ((x : X) (y : Y) → P x y → OnOk r (B x y))
    → (A → ((x : X) (y : Y) → P x y → B x y) → C) → OnOk r C
on-each (Ok x) a each f = f a each
on-each (Err e) a each f = tt

-- the tokens of a list are those of its items, and its end
pub list-tokens : (ts : List Node) → items_tokens (items_of ts) ≡ flat_map tokens_of ts ++ end_array ∷ []
list-tokens [] = refl
list-tokens (t ∷ ts) = ap (λ xs. tokens_of t ++ xs) (list-tokens ts) ∙ sym (append_assoc (tokens_of t) (flat_map tokens_of ts) (end_array ∷ []))

-- what an Info has behind its children
abbrev own_tokens : Option Node → ContextRow → List Token
own_tokens parent row =
    (key (codes "clientWindow") ∷ string (id_of Window row.window) ∷ []) ++ ((key (codes "context") ∷ string (id_of Context row.number) ∷ [])
    ++ ((key (codes "originalOpener") ∷ null_token ∷ []) ++ (member_tokens (codes "parent") parent
    ++ ((key (codes "url") ∷ string (url_text (url_in row)) ∷ []) ++ ((key (codes "userContext") ∷ string (user_id row.user) ∷ []) ++ (end_object ∷ []))))))

-- the tokens of an Info
info-tokens : (parent : Option Node) (row : ContextRow) (children : Node)
    → begin_object ∷ (key (codes "children") ∷ (tokens_of children ++ own_tokens parent row)) ≡ tokens_of (shown_info parent row children)
info-tokens None row children = refl
info-tokens (Some p) row children = refl

-- behind its children an Info is written to its end
pub own-written : (parent : Option Node) (row : ContextRow) (children : Node) (ts s0 s1 s2 s3 s4 s5 s6 s7 : List Token)
    → s0 ≡ ts ++ (begin_object ∷ (key (codes "children") ∷ tokens_of children))
    → s1 ≡ s0 ++ (key (codes "clientWindow") ∷ string (id_of Window row.window) ∷ []) → s2 ≡ s1 ++ (key (codes "context") ∷ string (id_of Context row.number) ∷ [])
    → s3 ≡ s2 ++ (key (codes "originalOpener") ∷ null_token ∷ []) → s4 ≡ s3 ++ member_tokens (codes "parent") parent
    → s5 ≡ s4 ++ (key (codes "url") ∷ string (url_text (url_in row)) ∷ []) → s6 ≡ s5 ++ (key (codes "userContext") ∷ string (user_id row.user) ∷ [])
    → s7 ≡ s6 ++ end_object ∷ [] → s7 ≡ ts ++ tokens_of (shown_info parent row children)
own-written parent row children ts s0 s1 s2 s3 s4 s5 s6 s7 e0 e1 e2 e3 e4 e5 e6 e7 =
    let last = behind s5 _ _ e6 e7 in
    let address = behind s4 _ _ e5 last in
    let parent_too = behind s3 (member_tokens (codes "parent") parent) _ e4 address in
    let own = behind s0 _ _ e1 (behind s1 _ _ e2 (behind s2 _ _ e3 parent_too)) in
    behind ts (begin_object ∷ (key (codes "children") ∷ tokens_of children)) (own_tokens parent row) e0 own
    ∙ ap (λ xs. ts ++ xs) (info-tokens parent row children)

-- ---- trees

-- the id of a parent, or null
record Parent (t : Node) : Type 0 where
  fits : Fits t (either term.text term.null)
  sound : IsSound t
  no_odd : has_odd t ≡ false
  flat : levels t ≡ 0

parent-is : (p : Option ℕ) → Parent (parent_tree p)
parent-is None = record { fits = fits_second _ _ _ fits_null; sound = tt; no_odd = refl; flat = refl }
parent-is (Some p) = record { fits = fits_first _ _ _ (fits_text (id_of Context p)); sound = tt; no_odd = refl; flat = refl }

-- an Info without a parent
inner-is : (row : ContextRow) (children : Node) (n : ℕ) → AreChildren n children → n ≤ 59 → IsInfo (n + 1) (shown_info None row children)
inner-is r children n (fits, sound, whole) few =
    let below : levels children ≤ n = whole.1 in
    let deep : levels (shown_info None r children) ≤ n + 1 = omega (arith, below) in (
      fits_rule _ info (fits_capped _ _ (omega (arith, deep, few)) (fits_map _ _ extensible
          (row_fits _ (codes "children") required (either (list_of 0 (rule info)) term.null) _ fits
          (row_fits _ (codes "clientWindow") required term.text _ (fits_text (id_of Window r.window))
          (row_fits _ (codes "context") required term.text _ (fits_text (id_of Context r.number))
          (row_fits _ (codes "originalOpener") required (either term.text term.null) _ (fits_second _ _ _ fits_null)
          (row_fits _ (codes "url") required term.text _ (fits_text (url_text (url_in r)))
          (row_fits _ (codes "userContext") required term.text _ (fits_text (user_id r.user))
          (row_fits _ (codes "parent") optional (either term.text term.null) no_more tt (no_row _)))))))) (refl, zero-le))),
      (
        ((refl, (refl, (refl, (refl, (refl, tt))))), ((refl, (refl, (refl, (refl, tt)))), ((refl, (refl, (refl, tt))), ((refl, (refl, tt)), ((refl, tt), (tt, tt)))))),
        (sound, (tt, (tt, (tt, (tt, (tt, tt)))))),
      ),
      (rw whole.0 refl, deep),
    )

-- one with a parent
root-is : (row : ContextRow) (children p : Node) (n : ℕ) → Parent p → AreChildren n children → n ≤ 59 → IsInfo (n + 1) (shown_info (Some p) row children)
root-is r children p n is (fits, sound, whole) few =
    let below : levels children ≤ n = whole.1 in
    let flat : levels p ≡ 0 = is.flat in
    let deep : levels (shown_info (Some p) r children) ≤ n + 1 = omega (arith, below, flat) in (
      fits_rule _ info (fits_capped _ _ (omega (arith, deep, few)) (fits_map _ _ extensible
          (row_fits _ (codes "children") required (either (list_of 0 (rule info)) term.null) _ fits
          (row_fits _ (codes "clientWindow") required term.text _ (fits_text (id_of Window r.window))
          (row_fits _ (codes "context") required term.text _ (fits_text (id_of Context r.number))
          (row_fits _ (codes "originalOpener") required (either term.text term.null) _ (fits_second _ _ _ fits_null)
          (row_fits _ (codes "url") required term.text _ (fits_text (url_text (url_in r)))
          (row_fits _ (codes "userContext") required term.text _ (fits_text (user_id r.user))
          (row_fits _ (codes "parent") optional (either term.text term.null) no_more is.fits (no_row _)))))))) (refl, zero-le))),
      (
        (
          (refl, (refl, (refl, (refl, (refl, (refl, tt)))))),
          (
            (refl, (refl, (refl, (refl, (refl, tt))))),
            (
              (refl, (refl, (refl, (refl, tt)))),
              ((refl, (refl, (refl, tt))), ((refl, (refl, tt)), ((refl, tt), (tt, tt)))),
            ),
          ),
        ),
        (sound, (tt, (tt, (tt, (is.sound, (tt, (tt, tt))))))),
      ),
      (rw (whole.0, is.no_odd) refl, deep),
    )

-- the Info of a row fits its rule, and has one level more than its children
pub info-is : (is_root : Bool) (row : ContextRow) (children : Node) (n : ℕ) → AreChildren n children → n ≤ 59
    → IsInfo (n + 1) (shown_info (parent_at is_root row) row children)
info-is false row children n are few = inner-is row children n are few
info-is true row children n are few = root-is row children (parent_tree row.parent) n (parent-is row.parent) are few

-- no children
pub none-are : (n : ℕ) → AreChildren n null
none-are n = (fits_second _ _ _ fits_null, tt, (refl, zero-le))

all-fit : (n : ℕ) (ts : List Node) → AreInfos n ts → AllFit (items_of ts) (rule info)
all-fit n [] are = no_item _
all-fit n (t ∷ ts) are = an_item _ _ _ are.0.0 (all-fit n ts are.1)

pub all-sound : (n : ℕ) (ts : List Node) → AreInfos n ts → ItemsAreSound (items_of ts)
all-sound n [] are = tt
all-sound n (t ∷ ts) are = (are.0.1, all-sound n ts are.1)

pub none-odd : (n : ℕ) (ts : List Node) → AreInfos n ts → items_have_odd (items_of ts) ≡ false
none-odd n [] are = refl
none-odd n (t ∷ ts) are = ap₂ (λ a b. a || b) are.0.2.0 (none-odd n ts are.1)

pub all-below : (n : ℕ) (ts : List Node) → AreInfos n ts → items_levels (items_of ts) ≤ n
all-below n [] are = zero-le
all-below n (t ∷ ts) are = let first = are.0.2.1 in let rest = all-below n ts are.1 in omega (arith, first, rest)

-- a list of any number of Infos
pub list-fits : (n : ℕ) (ts : List Node) → AreInfos n ts → Fits (listed ts) (list_of 0 (rule info))
list-fits n ts are = fits_list (items_of ts) 0 (rule info) zero-le (all-fit n ts are)

-- can be the children of one
pub list-are : (n : ℕ) (ts : List Node) → AreInfos n ts → AreChildren (n + 1) (listed ts)
list-are n ts are = let below = all-below n ts are in (fits_first _ _ _ (list-fits n ts are), all-sound n ts are, (none-odd n ts are, omega (arith, below)))

-- ---- what was written

-- Infos before others
both-are : (n : ℕ) (ts us : List Node) → AreInfos n ts → AreInfos n us → AreInfos n (ts ++ us)
both-are n [] us first second = second
both-are n (t ∷ ts) us first second = (first.0, both-are n ts us first.1 second)

-- nothing yet
pub wrote-none : (out : Written) (n : ℕ) (AreTold : List Node → Type 0) → AreTold [] → WroteInfos out out n AreTold
wrote-none out n AreTold told = record { infos = []; before = refl; tokens = sym (append-nil out.tokens); well = tt; told = told }

-- and then more
pub wrote-more : (a b c : Written) (m n : ℕ) (First Second Both : List Node → Type 0) → WroteInfos a b n First → WroteInfos b c m Second → m ≡ n
    → ((ts us : List Node) → First ts → Second us → Both (ts ++ us)) → WroteInfos a c n Both
wrote-more a b c m n First Second Both one two same joined = record {
  infos = one.infos ++ two.infos;
  before = two.before ∙ one.before;
  tokens = behind a.tokens (flat_map tokens_of one.infos) (flat_map tokens_of two.infos) one.tokens two.tokens ∙ ap (λ xs. a.tokens ++ xs) (sym (flat_map-append tokens_of one.infos two.infos));
  well = both-are n one.infos two.infos one.well (subst (λ k. AreInfos k two.infos) same two.well);
  told = joined one.infos two.infos one.told two.told;
}

-- what they are, said in another way
pub wrote-same : (a b : Written) (n : ℕ) (P Q : List Node → Type 0) → WroteInfos a b n P → ((ts : List Node) → P ts → Q ts) → WroteInfos a b n Q
wrote-same a b n P Q is same = record { infos = is.infos; before = is.before; tokens = is.tokens; well = is.well; told = same is.infos is.told }

-- one Info, from its children and what stands behind them
pub wrote-info : (is_root : Bool) (row : ContextRow) (n m : ℕ) (old s1 s2 s3 new : Written) (IsTold : Node → Type 0) (AreTold : List Node → Type 0)
    → s1.before ≡ old.before → s1.tokens ≡ old.tokens ++ begin_object ∷ [] → s2.before ≡ s1.before → s2.tokens ≡ s1.tokens ++ key (codes "children") ∷ []
    → WroteChildren s2 s3 n IsTold → n ≤ 59 → m ≡ n + 1 → new.before ≡ s3.before
    → ((ts : List Token) (children : Node) → s3.tokens ≡ ts ++ (begin_object ∷ (key (codes "children") ∷ tokens_of children))
    → new.tokens ≡ ts ++ tokens_of (shown_info (parent_at is_root row) row children))
    → ((children : Node) → IsTold children → AreTold (shown_info (parent_at is_root row) row children ∷ [])) → WroteInfos old new m AreTold
wrote-info is_root row n m old s1 s2 s3 new IsTold AreTold b1 t1 b2 t2 inner few more b4 own told = record {
  infos = shown_info (parent_at is_root row) row inner.children ∷ [];
  before = b4 ∙ (inner.before ∙ (b2 ∙ b1));
  tokens = own old.tokens inner.children (behind old.tokens (begin_object ∷ []) (key (codes "children") ∷ tokens_of inner.children) t1
      (behind s1.tokens (key (codes "children") ∷ []) (tokens_of inner.children) t2 inner.tokens))
      ∙ ap (λ xs. old.tokens ++ xs) (sym (append-nil (tokens_of (shown_info (parent_at is_root row) row inner.children))));
  well = (subst (λ k. IsInfo k (shown_info (parent_at is_root row) row inner.children)) (sym more) (info-is is_root row inner.children n inner.well few), tt);
  told = told inner.children inner.told;
}

-- a list of them
pub wrote-list : (n : ℕ) (old s1 s2 new : Written) (AreTold : List Node → Type 0) (IsTold : Node → Type 0)
    → s1.before ≡ old.before → s1.tokens ≡ old.tokens ++ begin_array ∷ [] → WroteInfos s1 s2 n AreTold
    → new.before ≡ s2.before → new.tokens ≡ s2.tokens ++ end_array ∷ [] → ((ts : List Node) → AreTold ts → IsTold (listed ts)) → WroteChildren old new (n + 1) IsTold
wrote-list n old s1 s2 new AreTold IsTold b1 t1 inner b3 t3 told = record {
  children = listed inner.infos;
  before = b3 ∙ (inner.before ∙ b1);
  tokens = behind old.tokens (begin_array ∷ []) (flat_map tokens_of inner.infos ++ end_array ∷ []) t1
      (behind s1.tokens (flat_map tokens_of inner.infos) (end_array ∷ []) inner.tokens t3) ∙ ap (λ xs. old.tokens ++ begin_array ∷ xs) (sym (list-tokens inner.infos));
  well = list-are n inner.infos inner.well;
  told = told inner.infos inner.told;
}

-- no list
pub wrote-null : (n : ℕ) (old new : Written) (IsTold : Node → Type 0) → new.before ≡ old.before → new.tokens ≡ old.tokens ++ null_token ∷ []
    → IsTold null → WroteChildren old new n IsTold
wrote-null n old new IsTold before tokens told = record { children = null; before = before; tokens = tokens; well = none-are n; told = told }

pub children-same : (a b : Written) (n : ℕ) (P Q : Node → Type 0) → WroteChildren a b n P → ((t : Node) → P t → Q t) → WroteChildren a b n Q
children-same a b n P Q is same = record { children = is.children; before = is.before; tokens = is.tokens; well = is.well; told = same is.children is.told }

-- ---- the whole text

-- the text of the object with the list
pub infos-printed : (infos : List Node) (s0 s1 s2 : List Token) → AreInfos 34 infos
    → s0 ≡ (begin_object ∷ (key (codes "contexts") ∷ (begin_array ∷ []))) ++ flat_map tokens_of infos
    → s1 ≡ s0 ++ end_array ∷ [] → s2 ≡ s1 ++ end_object ∷ [] → print s2 ≡ compact_text (infos_tree infos)
infos-printed infos s0 s1 s2 are e0 e1 e2 =
    ap print (e2 ∙ (ap (λ s. s ++ end_object ∷ []) (e1 ∙ ap (λ s. s ++ end_array ∷ []) e0)
    ∙ ap (λ xs. begin_object ∷ (key (codes "contexts") ∷ (begin_array ∷ (xs ++ end_object ∷ [])))) (sym (list-tokens infos))))
    ∙ print-tokens_of (infos_tree infos) (rw (none-odd 34 infos are) refl)

-- what is known of the text of some Infos
pub told-text : {E : Type 0} (r : Result (String Global) E) (infos : List Node) (AreTold : List Node → Type 0)
    → IfOk r (λ s. string_bytes s ≡ compact_text (infos_tree infos)) → AreInfos 34 infos → AreTold infos → IfOk r (λ s. TellsInfos (string_bytes s) AreTold)
told-text (Ok s) infos AreTold written well told = record { infos = infos; written = written; well = well; told = told }
told-text (Err e) infos AreTold written well told = tt

-- what they are, said in another way
pub tells-same : (s : List ℕ) (P Q : List Node → Type 0) → TellsInfos s P → ((ts : List Node) → P ts → Q ts) → TellsInfos s Q
tells-same s P Q is same = record { infos = is.infos; written = is.written; well = is.well; told = same is.infos is.told }

pub text-same : {E : Type 0} (r : Result (String Global) E) (P Q : List Node → Type 0)
    → IfOk r (λ s. TellsInfos (string_bytes s) P) → ((ts : List Node) → P ts → Q ts) → IfOk r (λ s. TellsInfos (string_bytes s) Q)
text-same (Ok s) P Q is same = tells-same (string_bytes s) P Q is same
text-same (Err e) P Q is same = tt

-- ---- depths

-- a depth that is there has one value
pub some-same : (a b : ℕ) → Some a ≡ Some b → a ≡ b
some-same a b same = cc

-- and is not absent
pub none-some : {A : Type 0} (n : ℕ) → (let none : Option ℕ = None in none ≡ Some n) → A
none-some n same = absurd (cc)

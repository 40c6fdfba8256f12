-- Params of events and results of commands that are written straight: their texts, and that their trees are sound.
use Rattle.std.specs.Prelude.{decimal, IfOk, OnOk, IsTrue, Bool, true, not, ◌&&◌, leb}
use Rattle.std.proofs.Common.{◌≡◌, ◌∙◌, ◌++◌, ◌⊎◌, inl, inr, ◌+◌, ◌<◌, ◌≤◌, ℕ, List, [], ◌∷◌, Option, Some, None, Result, Ok, Err, String, Global, codes, length, get_or, take, option_map}
use Rattle.std.proofs.Common.{refl, sym, ap, ap₂, arith, append_assoc, string_bytes}
use Rattle.std.proofs.Math.Dec.{eqb}
use Rattle.std.proofs.lemmas.Bool.{and_parts, eqb-false, eqb-true, le-ltb, leb-true, ne_eqb, not-true}
use Rattle.std.proofs.lemmas.Grind.{flat_map-append}
use Rattle.std.proofs.lemmas.List.{take_more}
use Rattle.json.specs.Print.{escape, escape_byte}
use Rattle.bidi_tree.specs.Node.{Node, no_members, map, text, IsSound}
use Rattle.bidi_tree.specs.Text.{compact_text}
use Rattle.bidi_tree.proofs.PartLemmas.{behind}
use Rattle.bidi_shape.specs.Table.{same_some}
use Rattle.bidi_shape.specs.ValueLaws.{others_of}
use Rattle.bidi_shape.specs.ChoiceLaws.{nullable_shape}
use Rattle.bidi_shape.specs.contracts.scalars.StringShape.TheImpl as texts
use Rattle.bidi_shape.specs.declared.ext.Ext.{Ext}
use Rattle.bidi_params.specs.declared.base.EmptyResult.{EmptyResult}
use Rattle.bidi_params.specs.declared.browser.UserContextInfo.{UserContextInfo}
use Rattle.bidi_params.specs.declared.browsing_context.create.CreateResult.{CreateResult}
use Rattle.bidi_params.specs.declared.browsing_context.navigate.NavigateResult.{NavigateResult}
use Rattle.bidi_params.specs.declared.browsing_context.navigate.NavigationInfo.{NavigationInfo}
use Rattle.bidi_params.specs.declared.session.subscribe.SubscribeResult.{SubscribeResult}
use Rattle.bidi_params.specs.contracts.browser.UserContextInfoShape.TheImpl as user
use Rattle.bidi_params.specs.contracts.browsing_context.create.CreateResultShape.TheImpl as made
use Rattle.bidi_params.specs.contracts.browsing_context.navigate.NavigateResultShape.TheImpl as navigated
use Rattle.bidi_params.specs.contracts.session.subscribe.SubscribeResultShape.TheImpl as subscribed
use Rattle.bidi_params.specs.contracts.browsing_context.navigate.NavigationInfoShape.TheImpl as navigation
use Rattle.bidi_scripts.specs.declared.realms.RealmInfo.{RealmInfo}
use Rattle.bidi_scripts.specs.declared.realms.RealmDestroyedParameters.{RealmDestroyedParameters}
use Rattle.bidi_scripts.specs.contracts.realms.RealmInfoShape.TheImpl as realm
use Rattle.bidi_scripts.specs.contracts.realms.RealmDestroyedParametersShape.TheImpl as gone
use Rattle.bidi_methods.specs.declared.event_data.EventData.{EventData}
use Rattle.bidi_methods.specs.declared.event_data.EventData.TheVariants as event
use Rattle.bidi_methods.specs.declared.result_data.ResultData.{ResultData}
use Rattle.bidi_methods.specs.declared.result_data.ResultData.TheVariants as of
use Rattle.bidi_messages.specs.Payloads.{event_params, result_tree}

-- nothing is a list without items
nothing : {A : Type 0} (xs : List A) → length xs ≡ 0 → xs ≡ []
nothing [] e = refl
nothing (x ∷ xs) e = absurd (cc)

-- without entries there are no further members
pub none-further : (e : Ext) (n : ℕ) → n ≡ length e.members.entries → IsTrue (eqb n 0) → others_of e ≡ no_members
none-further e n is none = rw (nothing e.members.entries (sym is ∙ eqb-true n 0 none)) refl

-- no byte is escaped but a control character, a quotation mark and a reverse solidus
plain-byte : (b : ℕ) → 32 ≤ b → (b ≡ 34 → ⊥) → (b ≡ 92 → ⊥) → escape_byte b ≡ b ∷ []
unfolding escape_byte
plain-byte b high quote slash =
    let other = λ (n : ℕ) (low : n < 32). ne_eqb b n (λ same. omega (arith, high, low, same)) in
    rw (ne_eqb b 34 quote, ne_eqb b 92 slash, other 8 (omega arith), other 12 (omega arith), other 10 (omega arith), other 13 (omega arith), other 9 (omega arith), le-ltb b 32 high) refl

-- one more byte that is not escaped
pub plain-more : (s bytes : List ℕ) (i : ℕ) → bytes ≡ s → escape (take i s) ≡ take i s → i < length bytes
    → 32 ≤ get_or bytes i 0 → (get_or bytes i 0 ≡ 34 → ⊥) → (get_or bytes i 0 ≡ 92 → ⊥) → escape (take (i + 1) s) ≡ take (i + 1) s
plain-more s bytes i same was below high quote slash =
    let b = get_or bytes i 0 in
    let more : take (i + 1) s ≡ take i s ++ b ∷ [] = sym (ap (take (i + 1)) same) ∙ (take_more bytes i 0 below ∙ ap (λ xs. take i xs ++ b ∷ []) same) in
    ap escape more ∙ (flat_map-append escape_byte (take i s) (b ∷ []) ∙ (ap₂ (λ x y. x ++ (y ++ [])) was (plain-byte b high quote slash) ∙ sym more))

-- the same of a byte of which all is known at once
pub plain-still : (plain : Bool) (s bytes : List ℕ) (i : ℕ) → bytes ≡ s → (plain ≡ true → escape (take i s) ≡ take i s) → i < length bytes
    → plain && ((leb 32 (get_or bytes i 0) && not (eqb (get_or bytes i 0) 34)) && not (eqb (get_or bytes i 0) 92)) ≡ true → escape (take (i + 1) s) ≡ take (i + 1) s
plain-still plain s bytes i same was below all =
    let b = get_or bytes i 0 in
    let (before, own) = and_parts plain _ all in
    let (two, slash) = and_parts _ (not (eqb b 92)) own in
    let (high, quote) = and_parts (leb 32 b) (not (eqb b 34)) two in
    plain-more s bytes i same (was before) below (leb-true 32 b high) (eqb-false b 34 (not-true _ quote)) (eqb-false b 92 (not-true _ slash))

-- a string of such bytes, whose closing quotation mark stands in front of the rest
pub closed : (front v rest : List ℕ) → escape v ≡ v → front ++ (v ++ 34 ∷ rest) ≡ front ++ ((escape v ++ 34 ∷ []) ++ rest)
closed front v rest plain =
    ap (λ x. front ++ x) (sym (append_assoc v (34 ∷ []) rest) ∙ ap (λ x. (x ++ 34 ∷ []) ++ rest) (sym plain))

-- what holds in any case
pub if-ok : {E A B : Type 0} (r : Result A E) → B → OnOk r B
if-ok (Ok x) b = b
if-ok (Err e) b = tt

-- a text, or null
abbrev pub nullable : Option (String Global) → Node
nullable value = (nullable_shape texts.ghosts.shape).tree_of value

-- one in which nothing is escaped, or null
pub nullable-text : (o : Option (String Global)) (v s0 s1 s2 s3 : List ℕ) → option_map string_bytes o ≡ Some v → escape v ≡ v
    → s1 ≡ s0 ++ 34 ∷ [] → s2 ≡ s1 ++ v → s3 ≡ s2 ++ 34 ∷ [] → s3 ≡ s0 ++ compact_text (nullable o)
nullable-text (Some t) v s0 s1 s2 s3 is plain e1 e2 e3 =
    behind s0 (34 ∷ []) (v ++ 34 ∷ []) e1 (behind s1 v (34 ∷ []) e2 e3)
    ∙ ap (λ x. s0 ++ 34 ∷ (x ++ 34 ∷ [])) (sym plain ∙ ap escape (sym (same_some is)))
nullable-text None v s0 s1 s2 s3 is plain e1 e2 e3 = absurd (cc)

-- ---- a navigation

navigation-is : (v : NavigationInfo) → others_of v.ext ≡ no_members
    → codes "{\"context\":\"" ++ ((escape (string_bytes v.context) ++ 34 ∷ []) ++ (codes ",\"navigation\":" ++ (compact_text (nullable v.navigation)
    ++ (codes ",\"timestamp\":" ++ (decimal v.timestamp.value ++ (codes ",\"url\":\"" ++ ((escape (string_bytes v.url) ++ 34 ∷ []) ++ codes "}")))))))
    ≡ compact_text (navigation.ghosts.shape.tree_of v)
unfolding escape_byte
navigation-is v none = rw none refl

pub navigation-text : (v : NavigationInfo) (s0 s1 s2 s3 s4 s5 s6 s7 s8 s9 c d u : List ℕ) → others_of v.ext ≡ no_members
    → escape (string_bytes v.context) ≡ string_bytes v.context → escape (string_bytes v.url) ≡ string_bytes v.url
    → s1 ≡ s0 ++ codes "{\"context\":\"" → s2 ≡ s1 ++ c → s3 ≡ s2 ++ codes "\",\"navigation\":" → s4 ≡ s3 ++ compact_text (nullable v.navigation)
    → s5 ≡ s4 ++ codes ",\"timestamp\":" → s6 ≡ s5 ++ d → s7 ≡ s6 ++ codes ",\"url\":\"" → s8 ≡ s7 ++ u → s9 ≡ s8 ++ codes "\"}"
    → c ≡ string_bytes v.context → d ≡ decimal v.timestamp.value → u ≡ string_bytes v.url → s9 ≡ s0 ++ compact_text (navigation.ghosts.shape.tree_of v)
navigation-text v s0 s1 s2 s3 s4 s5 s6 s7 s8 s9 c d u none own address e1 e2 e3 e4 e5 e6 e7 e8 e9 context digits to =
    let n = compact_text (nullable v.navigation) in
    let later = λ (x y : List ℕ). codes ",\"navigation\":" ++ (n ++ (codes ",\"timestamp\":" ++ (x ++ y))) in
    let all = behind s0 (codes "{\"context\":\"") _ e1 (behind s1 c _ e2 (behind s2 (codes "\",\"navigation\":") _ e3 (behind s3 n _ e4
    (behind s4 (codes ",\"timestamp\":") _ e5 (behind s5 d _ e6 (behind s6 (codes ",\"url\":\"") _ e7 (behind s7 u (codes "\"}") e8 e9))))))) in
    all ∙ ap (λ x. s0 ++ x)
    (ap₂ (λ x y. codes "{\"context\":\"" ++ (x ++ 34 ∷ later y (codes ",\"url\":\"" ++ (u ++ codes "\"}")))) context digits
    ∙ (ap (λ x. codes "{\"context\":\"" ++ (string_bytes v.context ++ 34 ∷ later (decimal v.timestamp.value) (codes ",\"url\":\"" ++ (x ++ codes "\"}")))) to
    ∙ (ap (λ x. codes "{\"context\":\"" ++ (string_bytes v.context ++ 34 ∷ later (decimal v.timestamp.value) x))
    (closed (codes ",\"url\":\"") (string_bytes v.url) (codes "}") address)
    ∙ (closed (codes "{\"context\":\"") (string_bytes v.context) (later (decimal v.timestamp.value) (codes ",\"url\":\"" ++ ((escape (string_bytes v.url) ++ 34 ∷ []) ++ codes "}"))) own
    ∙ navigation-is v none))))

pub nullable-sound : (value : Option (String Global)) → IsSound (nullable value)
nullable-sound None = tt
nullable-sound (Some s) = tt

pub navigation-sound : (v : NavigationInfo) → others_of v.ext ≡ no_members → IsSound (navigation.ghosts.shape.tree_of v)
navigation-sound v none = rw none (
  ((refl, (refl, (refl, tt))), ((refl, (refl, tt)), ((refl, tt), (tt, tt)))),
  (tt, (nullable-sound v.navigation, (v.timestamp.in_range, (tt, tt)))),
)

-- ---- a realm

realm-is : (v : RealmInfo) → others_of v.ext ≡ no_members
    → codes "{\"context\":\"" ++ ((escape (string_bytes v.context) ++ 34 ∷ []) ++ (codes ",\"origin\":\"" ++ ((escape (string_bytes v.origin) ++ 34 ∷ [])
    ++ (codes ",\"realm\":\"" ++ ((escape (string_bytes v.realm) ++ 34 ∷ []) ++ codes ",\"type\":\"window\"}"))))) ≡ compact_text (realm.ghosts.shape.tree_of v)
unfolding escape_byte
realm-is v none = rw none refl

pub realm-text : (v : RealmInfo) (s0 s1 s2 s3 s4 s5 s6 s7 c o r : List ℕ) → others_of v.ext ≡ no_members → escape (string_bytes v.context) ≡ string_bytes v.context
    → escape (string_bytes v.origin) ≡ string_bytes v.origin → escape (string_bytes v.realm) ≡ string_bytes v.realm
    → s1 ≡ s0 ++ codes "{\"context\":\"" → s2 ≡ s1 ++ c → s3 ≡ s2 ++ codes "\",\"origin\":\"" → s4 ≡ s3 ++ o → s5 ≡ s4 ++ codes "\",\"realm\":\""
    → s6 ≡ s5 ++ r → s7 ≡ s6 ++ codes "\",\"type\":\"window\"}" → c ≡ string_bytes v.context → o ≡ string_bytes v.origin → r ≡ string_bytes v.realm
    → s7 ≡ s0 ++ compact_text (realm.ghosts.shape.tree_of v)
realm-text v s0 s1 s2 s3 s4 s5 s6 s7 c o r none own_plain origin_plain realm_plain e1 e2 e3 e4 e5 e6 e7 own origin number =
    let kind = codes ",\"type\":\"window\"}" in
    let all = behind s0 (codes "{\"context\":\"") _ e1 (behind s1 c _ e2 (behind s2 (codes "\",\"origin\":\"") _ e3 (behind s3 o _ e4
    (behind s4 (codes "\",\"realm\":\"") _ e5 (behind s5 r (34 ∷ kind) e6 e7))))) in
    let third : codes ",\"realm\":\"" ++ (r ++ 34 ∷ kind) ≡ codes ",\"realm\":\"" ++ ((escape (string_bytes v.realm) ++ 34 ∷ []) ++ kind) =
    ap (λ x. codes ",\"realm\":\"" ++ (x ++ 34 ∷ kind)) number ∙ closed (codes ",\"realm\":\"") (string_bytes v.realm) kind realm_plain in
    let second = λ (rest : List ℕ). ap (λ x. codes ",\"origin\":\"" ++ (x ++ 34 ∷ rest)) origin ∙ closed (codes ",\"origin\":\"") (string_bytes v.origin) rest origin_plain in
    let first = λ (rest : List ℕ). ap (λ x. codes "{\"context\":\"" ++ (x ++ 34 ∷ rest)) own ∙ closed (codes "{\"context\":\"") (string_bytes v.context) rest own_plain in
    all ∙ ap (λ x. s0 ++ x)
    (ap (λ x. codes "{\"context\":\"" ++ (c ++ 34 ∷ (codes ",\"origin\":\"" ++ (o ++ 34 ∷ x)))) third
    ∙ (ap (λ x. codes "{\"context\":\"" ++ (c ++ 34 ∷ x)) (second _) ∙ (first _ ∙ realm-is v none)))

pub realm-sound : (v : RealmInfo) → others_of v.ext ≡ no_members → IsSound (realm.ghosts.shape.tree_of v)
realm-sound v none = rw none (((refl, (refl, (refl, tt))), ((refl, (refl, tt)), ((refl, tt), (tt, tt)))), (tt, (tt, (tt, (tt, tt)))))

-- ---- the result of a navigation

navigated-is : (v : NavigateResult) → others_of v.ext ≡ no_members
    → codes "{\"navigation\":" ++ (compact_text (nullable v.navigation) ++ (codes ",\"url\":\"" ++ ((escape (string_bytes v.url) ++ 34 ∷ []) ++ codes "}")))
    ≡ compact_text (navigated.ghosts.shape.tree_of v)
unfolding escape_byte
navigated-is v none = rw none refl

pub navigated-text : (v : NavigateResult) (s0 s1 s2 s3 s4 s5 u : List ℕ) → others_of v.ext ≡ no_members → escape (string_bytes v.url) ≡ string_bytes v.url
    → s1 ≡ s0 ++ codes "{\"navigation\":" → s2 ≡ s1 ++ compact_text (nullable v.navigation) → s3 ≡ s2 ++ codes ",\"url\":\"" → s4 ≡ s3 ++ u
    → s5 ≡ s4 ++ codes "\"}" → u ≡ string_bytes v.url → s5 ≡ s0 ++ compact_text (navigated.ghosts.shape.tree_of v)
navigated-text v s0 s1 s2 s3 s4 s5 u none address e1 e2 e3 e4 e5 to =
    let n = compact_text (nullable v.navigation) in
    let all = behind s0 (codes "{\"navigation\":") _ e1 (behind s1 n _ e2 (behind s2 (codes ",\"url\":\"") _ e3 (behind s3 u (codes "\"}") e4 e5))) in
    all ∙ ap (λ x. s0 ++ x)
    (ap (λ x. codes "{\"navigation\":" ++ (n ++ x)) (ap (λ x. codes ",\"url\":\"" ++ (x ++ codes "\"}")) to
    ∙ closed (codes ",\"url\":\"") (string_bytes v.url) (codes "}") address) ∙ navigated-is v none)

pub navigated-sound : (v : NavigateResult) → others_of v.ext ≡ no_members → IsSound (navigated.ghosts.shape.tree_of v)
navigated-sound v none = rw none (((refl, tt), (tt, tt)), (nullable-sound v.navigation, (tt, tt)))

-- ---- objects with one member

-- the text of one, by what stands in front of its string, and that its tree is sound
pub record OneIs (front value : List ℕ) (t : Node) : Type 0 where
  pub written : front ++ ((escape value ++ 34 ∷ []) ++ codes "}") ≡ compact_text t
  pub sound : IsSound t

pub gone-is : (v : RealmDestroyedParameters) → others_of v.ext ≡ no_members → OneIs (codes "{\"realm\":\"") (string_bytes v.realm) (gone.ghosts.shape.tree_of v)
unfolding escape_byte
gone-is v none = record { written = rw none refl; sound = rw none ((tt, tt), (tt, tt)) }

pub subscribed-is : (v : SubscribeResult) → others_of v.ext ≡ no_members → OneIs (codes "{\"subscription\":\"") (string_bytes v.subscription) (subscribed.ghosts.shape.tree_of v)
unfolding escape_byte
subscribed-is v none = record { written = rw none refl; sound = rw none ((tt, tt), (tt, tt)) }

pub made-is : (v : CreateResult) → others_of v.ext ≡ no_members → OneIs (codes "{\"context\":\"") (string_bytes v.context) (made.ghosts.shape.tree_of v)
unfolding escape_byte
made-is v none = record { written = rw none refl; sound = rw none ((tt, tt), (tt, tt)) }

pub user-is : (v : UserContextInfo) → others_of v.ext ≡ no_members → OneIs (codes "{\"userContext\":\"") (string_bytes v.user_context) (user.ghosts.shape.tree_of v)
unfolding escape_byte
user-is v none = record { written = rw none refl; sound = rw none ((tt, tt), (tt, tt)) }

-- such a text behind another
pub one-text : {E : Type 0} (r : Result (String Global) E) (s0 front value is : List ℕ) (t : Node) → OneIs front value t → is ≡ value → escape value ≡ value
    → IfOk r (λ s. string_bytes s ≡ s0 ++ (front ++ (is ++ codes "\"}"))) → IfOk r (λ s. string_bytes s ≡ s0 ++ compact_text t)
one-text (Ok s) s0 front value is t told same plain written =
    written ∙ ap (λ x. s0 ++ x) (ap (λ v. front ++ (v ++ codes "\"}")) same ∙ (closed front value (codes "}") plain ∙ told.written))
one-text (Err e) s0 front value is t told same plain written = tt

-- ---- what has these as its params or its result

pub params-of-navigation : (d : EventData) (v : NavigationInfo) → (d ≡ event.NavigationStarted v) ⊎ ((d ≡ event.DomContentLoaded v) ⊎ (d ≡ event.Load v))
    → event_params d ≡ navigation.ghosts.shape.tree_of v
params-of-navigation d v (inl e) = rw e refl
params-of-navigation d v (inr (inl e)) = rw e refl
params-of-navigation d v (inr (inr e)) = rw e refl

pub result-of-navigation : (d : ResultData) (v : NavigateResult) → (d ≡ of.BrowsingContextNavigate v) ⊎ (d ≡ of.BrowsingContextReload v)
    → result_tree d ≡ navigated.ghosts.shape.tree_of v
result-of-navigation d v (inl e) = rw e refl
result-of-navigation d v (inr e) = rw e refl

pub result-of-nothing : (d : ResultData) (v : EmptyResult) → others_of v.ext ≡ no_members → (d ≡ of.SessionEnd v) ⊎ ((d ≡ of.SessionUnsubscribe v) ⊎ ((d ≡ of.BrowsingContextActivate v)
    ⊎ ((d ≡ of.BrowsingContextClose v) ⊎ ((d ≡ of.BrowsingContextTraverseHistory v) ⊎ ((d ≡ of.ScriptDisown v) ⊎ (d ≡ of.BrowserRemoveUserContext v))))))
    → result_tree d ≡ map no_members
result-of-nothing d v none (inl e) = rw (e, none) refl
result-of-nothing d v none (inr (inl e)) = rw (e, none) refl
result-of-nothing d v none (inr (inr (inl e))) = rw (e, none) refl
result-of-nothing d v none (inr (inr (inr (inl e)))) = rw (e, none) refl
result-of-nothing d v none (inr (inr (inr (inr (inl e))))) = rw (e, none) refl
result-of-nothing d v none (inr (inr (inr (inr (inr (inl e)))))) = rw (e, none) refl
result-of-nothing d v none (inr (inr (inr (inr (inr (inr e)))))) = rw (e, none) refl

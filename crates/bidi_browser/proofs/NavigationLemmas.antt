-- Why a navigation in hand is that of the definitions.
use Rattle.std.proofs.Common.{◌≡◌, ◌∙◌, ◌≤◌, ◌<◌, ◌+◌, ◌-◌, ℕ, ℤ, zero, suc, Bool, true, false, List, [], ◌∷◌, ◌++◌, length, take}
use Rattle.std.proofs.Common.{drop, take_all, map, Option, Some, None, Ok, String, Global, codes, pos, string_bytes, option_map, unwrap_or, refl, sym, ap, ap₂, subst, arith}
use Rattle.std.specs.Prelude.{min, slice_get, nat_lt, if◌then◌else◌, flat_map, option_and_then}
use Rattle.std.proofs.lemmas.List.{append_assoc, drop_all, length-append, length-take-le, length-drop}
use Rattle.std.proofs.lemmas.List.{drop-append-le, length-map, take-map, drop-map, map-append}
use Rattle.std.proofs.Math.Seq.{take-append_seam, drop-append_seam}
use Rattle.std.proofs.lemmas.Bool.Decides.{Decides-ltb}
use Rattle.url.specs.Parts.{Parts}
use Rattle.bidi_tree.specs.Node.{Node, Members, put, text, whole}
use Rattle.bidi_tree.specs.Node.{map as map_node}
use Rattle.bidi_shape.specs.Table.{TableWell, same_some}
use Rattle.bidi_shape.specs.ValueLaws.{others_of}
use Rattle.bidi_shape.specs.ChoiceLaws.{nullable_shape}
use Rattle.bidi_shape.specs.declared.ext.Ext.{Ext}
use Rattle.bidi_shape.specs.contracts.scalars.StringShape.TheImpl as texts
use Rattle.bidi_params.specs.declared.browsing_context.navigate.NavigationInfo.{NavigationInfo}
use Rattle.bidi_params.specs.contracts.browsing_context.navigate.NavigationInfoShape.TheImpl as infos
use Rattle.bidi_methods.specs.declared.event_data.EventName.{EventName}
use Rattle.bidi_methods.specs.declared.event_data.EventName.TheVariants.{NavigationStarted, DomContentLoaded, Load}
use Rattle.bidi_methods.specs.declared.result_data.ResultData.{ResultData}
use Rattle.bidi_handles.specs.declared.id.IdKind.TheVariants.{Realm, Navigation}
use Rattle.bidi_contexts.specs.declared.occurrence.Occurrence as in_hand
use Rattle.bidi_browser.specs.declared.navigation.Told.{Told}
use Rattle.bidi_browser.specs.declared.plan.Plan.{Plan}
use Rattle.bidi_contexts.specs.declared.navigation.Navigation as planned
use Rattle.bidi_browser.specs.declared.plan.Edit.TheVariants.{Navigate}
use Rattle.bidi_contexts.specs.Urls.{about_blank}
use Rattle.bidi_contexts.specs.Acts.{Act, Moved, Move, next_number}
use Rattle.bidi_contexts.specs.Actions.{Wait, Started, Interactive, Complete, Action, is_asked}
use Rattle.bidi_contexts.specs.Contexts.{children_of}
use Rattle.bidi_contexts.specs.Places.{Entries, with_entry, present, entries_of, place_across, shifted}
use Rattle.bidi_contexts.specs.HistoryInHand.{move_of, Leads}
use Rattle.bidi_contexts.specs.Occurrences.{Occurrence, realm_created, realm_destroyed, removal, navigation_event}
use Rattle.bidi_browser.specs.Occurs.{Item, Happens, Replies, led_to, replying, unloading, navigating, navigated_result, wait_in}
use Rattle.bidi_contexts.specs.Outcome.{outcome}
use Rattle.bidi_contexts.specs.ContextRows.{ContextRow, row_at, occurrence_in, realm_began_in, navigation_info_in}
use Rattle.bidi_browser.specs.Navigations.{navigation_events, before_reply, IsTold}
use Rattle.bidi_browser.specs.Plans.{Plans}
use Rattle.bidi_contexts.specs.View.{AreWell}
use Rattle.bidi_contexts.specs.View.{occurrence_of, seen}
use Rattle.bidi_browser.specs.View.{result_tree}
use Rattle.bidi_browser.specs.declared.command_result.CommandResult.TheVariants.{Data}
use Rattle.bidi_contexts.proofs.BirthLemmas.{same-number}

-- ---- where it leads

-- the entry behind the first n of a list
behind : (xs : List Parts) (n : ℕ) (x : Parts) → length xs ≡ n → slice_get (xs ++ x ∷ []) n ≡ Some x
behind [] n x long = subst (λ k. slice_get (x ∷ []) k ≡ Some x) long refl
behind (y ∷ xs) zero x long = absurd (omega arith)
behind (y ∷ xs) (suc n) x long = behind xs n x (omega arith)

-- a new entry is the present one
pub new-entry-present : (e : Entries) (url : Parts) → length e.urls ≤ 50 → e.place < length e.urls → present (with_entry e url) ≡ url
new-entry-present e url few stands =
    let kept = take (e.place + 1) e.urls in
    let k = length (kept ++ url ∷ []) - 50 in
    let long = length-append kept (url ∷ []) in
    let short = length-take-le (e.place + 1) e.urls (omega arith) in
    let left = length-drop k kept in
    ap (λ us. unwrap_or (slice_get us (min (e.place + 1) 49)) about_blank) (drop-append-le k kept (url ∷ []) (omega (arith, long)))
    ∙ ap (λ o. unwrap_or o about_blank) (behind (drop k kept) (min (e.place + 1) 49) url (omega (arith, long, short, left, few, stands)))

-- a place that lies so far away is one of an entry
pub across-leads : (e : Entries) (delta : ℤ) (n : ℕ) → place_across e delta ≡ Some n → n < length e.urls
across-leads e delta n is = by (shifted e.place delta) is
  where
    step : (b : Bool) (m : ℕ) → nat_lt m (length e.urls) ≡ b → (if b then Some m else None) ≡ Some n → n < length e.urls
    step true m less same = let eq : m ≡ n = cc in let below = (Decides-ltb m (length e.urls)).0 less in omega (arith, eq, below)
    step false m less same = absurd (cc)

    by : (o : Option ℕ) → option_and_then (λ m. if nat_lt m (length e.urls) then Some m else None) o ≡ Some n → n < length e.urls
    by None same = absurd (cc)
    by (Some m) same = step (nat_lt m (length e.urls)) m refl same

-- ---- its params once more

-- a text, or null
abbrev nullable : Option (String Global) → Node
nullable value = (nullable_shape texts.ghosts.shape).tree_of value

nullable-same : (a b : Option (String Global)) → option_map string_bytes a ≡ option_map string_bytes b → nullable a ≡ nullable b
nullable-same None None same = refl
nullable-same (Some a) (Some b) same = ap text (same_some same)
nullable-same None (Some b) same = absurd (cc)
nullable-same (Some a) None same = absurd (cc)

-- the params of these parts
abbrev again : NavigationInfo → String Global → Option (String Global) → String Global → Ext → NavigationInfo
again v context navigation url ext = record { context = context; navigation = navigation; timestamp = v.timestamp; url = url; ext = ext }

abbrev params_of : Node → Node → Node → Node → Members → Node
params_of context navigation timestamp url others =
    map_node (put (codes "context") context (put (codes "navigation") navigation (put (codes "timestamp") timestamp (put (codes "url") url others))))

pub again-tree : (v : NavigationInfo) (context : String Global) (navigation : Option (String Global)) (url : String Global) (ext : Ext)
    → string_bytes context ≡ string_bytes v.context → option_map string_bytes navigation ≡ option_map string_bytes v.navigation
    → string_bytes url ≡ string_bytes v.url → others_of ext ≡ others_of v.ext → infos.ghosts.shape.tree_of (again v context navigation url ext) ≡ infos.ghosts.shape.tree_of v
again-tree v context navigation url ext of id to others =
    let t = whole (pos v.timestamp.value) in
    ap (λ c. params_of c (nullable navigation) t (text (string_bytes url)) (others_of ext)) (ap text of)
    ∙ (ap (λ n. params_of (text (string_bytes v.context)) n t (text (string_bytes url)) (others_of ext)) (nullable-same navigation v.navigation id)
    ∙ ap₂ (λ u o. params_of (text (string_bytes v.context)) (nullable v.navigation) t u o) (ap text to) others)

again-well-id : (a b : Option (String Global)) → option_map string_bytes a ≡ option_map string_bytes b → (nullable_shape texts.ghosts.shape).well b
    → (nullable_shape texts.ghosts.shape).well a
again-well-id None None same well = well
again-well-id (Some a) b same well = tt
again-well-id None (Some b) same well = absurd (cc)

pub again-well : (v : NavigationInfo) (context : String Global) (navigation : Option (String Global)) (url : String Global) (ext : Ext)
    → option_map string_bytes navigation ≡ option_map string_bytes v.navigation → others_of ext ≡ others_of v.ext
    → infos.ghosts.shape.well v → infos.ghosts.shape.well (again v context navigation url ext)
again-well v context navigation url ext id others well =
    ((tt, (again-well-id navigation v.navigation id well.0.1.0, (tt, (tt, tt)))), subst (TableWell _ _) (sym others) well.1)

-- ---- its events

-- one of its three
pub event-told : (past : List Act) (moment c number : ℕ) (url to : Parts) (event : EventName) (row : ContextRow) (o : Occurrence) (info : Node)
    → row ≡ row_at past c → number ≡ next_number past Navigation → to ≡ url
    → o ≡ occurrence_in row event info → info ≡ navigation_info_in row moment number url → o ≡ navigation_event past moment c to event
event-told past moment c number url to event row o info is next leads told tells =
    told ∙ (ap (occurrence_in row event) tells ∙ (ap₂ (λ r n. occurrence_in r event (navigation_info_in r moment n url)) is next
    ∙ ap (λ u. navigation_event past moment c u event) (sym leads)))

-- the realm that comes
pub realm-told : (past : List Act) (c realm : ℕ) (move : Move) (url : Parts) (row : ContextRow) (o : Occurrence)
    → row ≡ row_at past c → realm ≡ next_number past Realm → led_to past c move ≡ url
    → o ≡ realm_began_in row realm url → o ≡ realm_created (Moved c move ∷ past) c
realm-told past c realm move url row o is next leads told =
    told ∙ (ap₂ (λ r n. realm_began_in r n url) is next
    ∙ (ap (realm_began_in (row_at past c) (next_number past Realm)) (sym leads) ∙ sym (rw (same-number c) refl)))

-- one more is told
pub one-told : (now after : List in_hand.Occurrence) (o : in_hand.Occurrence) (is : Occurrence)
    → after ≡ now ++ o ∷ [] → seen (o ∷ []) ≡ is ∷ [] → seen after ≡ seen now ++ is ∷ []
one-told now after o is added told = ap seen added ∙ (map-append _ now (o ∷ []) ∙ ap (λ os. seen now ++ os) told)

-- four more, one by one
four-more : {A : Type 0} (xs : List A) (p q r s : A) → (((xs ++ p ∷ []) ++ q ∷ []) ++ r ∷ []) ++ s ∷ [] ≡ xs ++ p ∷ q ∷ r ∷ s ∷ []
four-more [] p q r s = refl
four-more (x ∷ xs) p q r s = ap (λ ys. x ∷ ys) (four-more xs p q r s)

-- all of them
pub all-told : (past : List Act) (moment c : ℕ) (move : Move) (none first gone ended begun ready : List Occurrence) (all : List Occurrence) → none ≡ []
    → first ≡ none ++ navigation_event past moment c (led_to past c move) NavigationStarted ∷ []
    → gone ≡ first ++ flat_map (removal past) (children_of past c) → ended ≡ gone ++ realm_destroyed past c ∷ []
    → begun ≡ ended ++ realm_created (Moved c move ∷ past) c ∷ [] → ready ≡ begun ++ navigation_event past moment c (led_to past c move) DomContentLoaded ∷ []
    → all ≡ ready ++ navigation_event past moment c (led_to past c move) Load ∷ [] → all ≡ navigation_events past moment c move
all-told past moment c move none first gone ended begun ready all a b d e f g h =
    let url = led_to past c move in
    let started = navigation_event past moment c url NavigationStarted in
    let below = flat_map (removal past) (children_of past c) in
    let over = realm_destroyed past c in
    let new = realm_created (Moved c move ∷ past) c in
    let there = navigation_event past moment c url DomContentLoaded in
    let loaded = navigation_event past moment c url Load in
    h ∙ (ap (λ xs. xs ++ loaded ∷ []) (g ∙ ap (λ xs. xs ++ there ∷ [])
    (f ∙ ap (λ xs. xs ++ new ∷ []) (e ∙ ap (λ xs. xs ++ over ∷ []) (d ∙ ap (λ xs. xs ++ below) (b ∙ ap (λ xs. xs ++ started ∷ []) a)))))
    ∙ four-more (started ∷ below) over new there loaded)

-- ---- the reply among them

-- where it waits for the last event but one
before-last : {A : Type 0} (front : List A) (l : A) (all : List A) (n : ℕ) (x : A)
    → all ≡ front ++ l ∷ [] → n ≡ length all - 1 → take n all ++ x ∷ drop n all ≡ front ++ x ∷ l ∷ []
before-last front l all n x is at =
    let long = length-append front (l ∷ []) in
    let size = ap length is in
    let here : n ≡ length front = omega (arith, long, size, at) in
    ap₂ (λ k xs. take k xs ++ x ∷ drop k xs) here is ∙ ap₂ (λ xs ys. xs ++ x ∷ ys) (take-append_seam front (l ∷ [])) (drop-append_seam front (l ∷ []))

-- of the first n, and of those behind, a message can be made
pub take-well : (n : ℕ) (os : List in_hand.Occurrence) → AreWell os → AreWell (take n os)
take-well zero os well = tt
take-well (suc n) [] well = tt
take-well (suc n) (o ∷ os) well = (well.0, take-well n os well.1)

pub drop-well : (n : ℕ) (os : List in_hand.Occurrence) → AreWell os → AreWell (drop n os)
drop-well zero os well = well
drop-well (suc n) [] well = tt
drop-well (suc n) (o ∷ os) well = drop-well n os well.1

-- the reply among the events, where its wait places it
parted : (wait : Wait) (reply s r l : Item) (unloaded all : List Item) (n : ℕ) → all ≡ s ∷ unloaded ++ r ∷ l ∷ []
    → n ≡ before_reply wait (length all) → take n all ++ reply ∷ drop n all ≡ replying wait reply s unloaded r l
parted Started reply s r l unloaded all n is at = ap₂ (λ k xs. take k xs ++ reply ∷ drop k xs) at is
parted Interactive reply s r l unloaded all n is at =
    before-last (s ∷ unloaded ++ r ∷ []) l all n reply (is ∙ sym (append_assoc (s ∷ unloaded) (r ∷ []) (l ∷ []))) at
    ∙ append_assoc (s ∷ unloaded) (r ∷ []) (reply ∷ l ∷ [])
parted Complete reply s r l unloaded all n is at =
    ap₂ (λ xs ys. xs ++ reply ∷ ys) (take_all n all (omega (arith, at))) (drop_all n all (omega (arith, at)))
    ∙ (ap (λ xs. xs ++ reply ∷ []) is ∙ append_assoc (s ∷ unloaded) (r ∷ l ∷ []) (reply ∷ []))

-- all events happen
all-happen : (past : List Act) (moment c : ℕ) (move : Move) → (let url = led_to past c move in map Happens (navigation_events past moment c move)
    ≡ Happens (navigation_event past moment c url NavigationStarted) ∷ unloading past (Moved c move) c
    ++ Happens (navigation_event past moment c url DomContentLoaded) ∷ Happens (navigation_event past moment c url Load) ∷ [])
all-happen past moment c move =
    let url = led_to past c move in
    let started = navigation_event past moment c url NavigationStarted in
    let below = flat_map (removal past) (children_of past c) in
    let over = realm_destroyed past c in
    let new = realm_created (Moved c move ∷ past) c in
    let there = navigation_event past moment c url DomContentLoaded in
    let loaded = navigation_event past moment c url Load in
    ap (λ xs. Happens started ∷ xs)
    (map-append Happens below (over ∷ new ∷ there ∷ loaded ∷ [])
    ∙ sym (append_assoc (map Happens below) (Happens over ∷ Happens new ∷ []) (Happens there ∷ Happens loaded ∷ [])))

-- the events in hand, parted where the reply stands
pub told-parted : (past : List Act) (moment c : ℕ) (move : Move) (wait : Wait) (told : Told) (xs : List in_hand.Occurrence) (n : ℕ)
    → seen xs ≡ navigation_events past moment c move → n ≡ before_reply wait (length xs)
    → told.before.items ≡ take n xs → told.after.items ≡ drop n xs → IsTold told past moment wait c move
told-parted past moment c move wait told xs n all at before after = λ reply.
    let url = led_to past c move in
    let happened = λ (os : List in_hand.Occurrence). map Happens (seen os) in
    ap₂ (λ os ps. happened os ++ reply ∷ happened ps) before after
    ∙ (ap₂ (λ is js. is ++ reply ∷ js) (sym (ap (take n) (seen-map xs) ∙ (take-map _ n xs ∙ sym (seen-map (take n xs)))))
    (sym (ap (drop n) (seen-map xs) ∙ (drop-map _ n xs ∙ sym (seen-map (drop n xs)))))
    ∙ parted wait reply (Happens (navigation_event past moment c url NavigationStarted)) (Happens (navigation_event past moment c url DomContentLoaded))
    (Happens (navigation_event past moment c url Load)) (unloading past (Moved c move) c)
    (happened xs) n (ap (map Happens) all ∙ all-happen past moment c move) (at ∙ ap (before_reply wait) (sym (ap length (seen-map xs) ∙ length-map xs _))))
  where
    seen-map : (os : List in_hand.Occurrence) → map Happens (seen os) ≡ map (λ o. Happens (occurrence_of o)) os
    seen-map [] = refl
    seen-map (o ∷ os) = ap (λ is. Happens (occurrence_of o) ∷ is) (seen-map os)

-- ---- plans

-- what plans a navigation
pub navigation-plans : (plan : Plan) (told : Told) (n : planned.Navigation) (r : ResultData) (past : List Act) (moment c : ℕ) (move : Move)
    (action : Action) → is_asked action ≡ true → outcome past action ≡ Ok (Moved c move)
    → IsTold told past moment (wait_in action) c move → result_tree (Data r) ≡ navigated_result past (led_to past c move) move
    → n.context ≡ c → move_of n.to ≡ move
    → n.realm ≡ next_number past Realm → Leads (entries_of past c) move
    → plan.before ≡ told.before → plan.result ≡ Some (Data r) → plan.after ≡ told.after → plan.change.edit ≡ Navigate n → Plans (Ok plan) past moment action
navigation-plans plan told n r past moment c move action asked done is result at to realm leads before reply after change = (
  Moved c move,
  done,
  rw (before, reply, after) (is (Replies (result_tree (Data r))) ∙ ap (λ t. navigating past moment (wait_in action) c move (Replies t)) result),
  rw (reply, asked) refl,
  rw change (
    ap₂ (λ k m. Moved k m) (sym at) (sym to),
    record {
      realm = realm;
      leads = subst (λ k. Leads (entries_of past k) (move_of n.to)) (sym at) (subst (Leads (entries_of past c)) (sym to) leads);
    },
  ),
  λ unasked. let both = sym asked ∙ unasked in absurd (cc),
)

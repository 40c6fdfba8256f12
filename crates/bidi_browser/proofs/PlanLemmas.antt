-- Why a plan in hand is that of the definitions.
use Rattle.std.proofs.Common.{◌≡◌, ◌∙◌, ◌≤◌, ◌+◌, ℕ, suc, Bool, true, false, List, [], ◌∷◌, ◌++◌}
use Rattle.std.proofs.Common.{map, Option, Some, None, Result, Ok, Err, unwrap_or, refl, sym, ap, ap₂, subst, arith}
use Rattle.std.specs.Prelude.{not, find, nat_lt, if◌then◌else◌, is_none, is_some, option_map, option_to_list, IfSome, IfOk, IfErr}
use Rattle.std.specs.Borrow.{Bor}
use Rattle.std.specs.Result.{IsErrAnd}
use Rattle.std.proofs.lemmas.Simd.{map-map}
use Rattle.url.specs.Parts.{Parts}
use Rattle.bidi_tree.specs.Node.{Node, levels, items_levels}
use Rattle.bidi_tree.specs.View.{items_of}
use Rattle.bidi_methods.specs.declared.result_data.ResultData.{ResultData}
use Rattle.bidi_params.specs.declared.error_code.ErrorCode.TheVariants.{NoSuchFrame}
use Rattle.bidi_methods.specs.contracts.result_data.ResultDataPayloadMethod.TheImpl as results
use Rattle.bidi_scripts.specs.declared.log_entry.Level.{Level}
use Rattle.bidi_handles.specs.declared.refusal.Refusal.{Refusal}
use Rattle.bidi_handles.specs.declared.refusal.Refusal.TheVariants.{Code, NoMemory}
use Rattle.bidi_contexts.specs.declared.occurrence.Occurrence as in_hand
use Rattle.bidi_contexts.specs.declared.context.Context as declared_context
use Rattle.bidi_browser.specs.declared.plan.Plan.{Plan}
use Rattle.bidi_browser.specs.declared.plan.Edit.TheVariants.{Keep}
use Rattle.bidi_handles.specs.declared.id.IdKind.TheVariants.{Context, Realm, Window}
use Rattle.bidi_contexts.specs.Urls.{about_blank, parsed}
use Rattle.bidi_contexts.specs.Acts.{Act, Made, Framed, Tabled, Logged, Looked, next_number}
use Rattle.bidi_contexts.specs.Places.{begun_at}
use Rattle.bidi_contexts.specs.Accepted.{AreAccepted}
use Rattle.bidi_contexts.specs.Actions.{Action, Log, TableRow, is_asked}
use Rattle.bidi_browser.specs.Found.{IsLookedAt}
use Rattle.bidi_handles.specs.Maps.{nothing}
use Rattle.bidi_contexts.specs.Contexts.{parent_of, top_of, level_of, window_of, user_of, contexts, context_of, tops}
use Rattle.bidi_handles.specs.Checks.{found}
use Rattle.bidi_contexts.specs.Limits.{lowest_level}
use Rattle.bidi_contexts.specs.Outcome.{outcome, context_named, looked, looked_at, has_room, frame_outcome, log_outcome, oldest_window, row_in, row_checked}
use Rattle.bidi_contexts.specs.Occurrences.{Occurrence, realm_info, removal}
use Rattle.bidi_browser.specs.Occurs.{Happens, Replies, roots, realm_holders, birth, occurs}
use Rattle.bidi_contexts.specs.ContextRows.{ContextRow, row_of, row_at, realm_info_in, created_in, realm_created_in, entry_added_in}
use Rattle.bidi_handles.specs.Params.{text_at}
use Rattle.bidi_browser.specs.Plans.{Plans, Makes, IsWellResult, IsWellTold, reply_in, leaves_tables}
use Rattle.bidi_contexts.specs.View.{AreWell}
use Rattle.bidi_contexts.specs.View.{seen}
use Rattle.bidi_browser.specs.View.{result_tree}
use Rattle.bidi_browser.specs.declared.command_result.CommandResult.{CommandResult}
use Rattle.bidi_browser.specs.declared.command_result.CommandResult.TheVariants.{Data}
use Rattle.bidi_contexts.proofs.BirthLemmas.{row-made, row-framed}
use Rattle.bidi_contexts.proofs.RowLemmas.{oldest-window}

-- ---- what only looks

-- its result, and nothing else; the tables stay
pub kept-plans : (plan : Plan) (past : List Act) (moment : ℕ) (action : Action) (act : Act) (r : CommandResult)
    → is_asked action ≡ true → leaves_tables act ≡ true → outcome past action ≡ Ok act
    → Replies (result_tree r) ∷ [] ≡ occurs past moment action act → plan.before.items ≡ []
    → plan.result ≡ Some r → plan.after.items ≡ [] → plan.change.edit ≡ Keep → Plans (Ok plan) past moment action
kept-plans plan past moment action act r asked leaves checked told before reply after change =
    (act, checked, rw (before, reply, after) told, rw (reply, asked) refl, rw change leaves, λ unasked. after)

-- what only looks has its result
pub looked-plans : (plan : Plan) (past : List Act) (moment : ℕ) (action : Action) (r : ResultData)
    → is_asked action ≡ true → outcome past action ≡ Ok Looked → Replies (result_tree (Data r)) ∷ [] ≡ occurs past moment action Looked
    → plan.before.items ≡ [] → plan.result ≡ Some (Data r) → plan.after.items ≡ [] → plan.change.edit ≡ Keep → Plans (Ok plan) past moment action
looked-plans plan past moment action r asked = kept-plans plan past moment action Looked (Data r) asked refl

-- the context that is asked for
pub root-found : (past : List Act) (id : List ℕ) (c : ℕ) (root : Option (List ℕ))
    → root ≡ Some id → context_named past id ≡ Ok c → (looked_at past root ≡ Ok Looked) × (roots past root ≡ c ∷ [])
root-found past id c root is named = rw is (ap looked named, ap option_to_list (of-found (context_of past id) c named))
  where
    of-found : (o : Option ℕ) (c : ℕ) → found o NoSuchFrame ≡ Ok c → o ≡ Some c
    of-found None c e = absurd (cc)
    of-found (Some d) c e = cc

-- the one whose realm is asked for
pub holder-found : (past : List Act) (id : List ℕ) (c : ℕ) (context : Option (List ℕ))
    → context ≡ Some id → context_named past id ≡ Ok c → (looked_at past context ≡ Ok Looked) × (realm_holders past context true ≡ c ∷ [])
holder-found past id c context is named = root-found-holds (root-found past id c context is named)
  where
    holders-are : (o : Option (List ℕ)) → o ≡ Some id → realm_holders past o true ≡ roots past o
    holders-are None e = absurd (cc)
    holders-are (Some x) e = refl

    root-found-holds : (looked_at past context ≡ Ok Looked) × (roots past context ≡ c ∷ [])
        → (looked_at past context ≡ Ok Looked) × (realm_holders past context true ≡ c ∷ [])
    root-found-holds found = (found.0, holders-are context is ∙ found.1)

-- the one that is shown
pub one-shown : {A B : Type 0} (see : A → B) (f : ℕ → B) (c : ℕ) (none all : List A) (x : A)
    → all ≡ none ++ x ∷ [] → none ≡ [] → see x ≡ f c → map see all ≡ map f (c ∷ [])
one-shown see f c none all x pushed empty is = ap (map see) (pushed ∙ ap (λ xs. xs ++ x ∷ []) empty) ∙ ap (λ t. t ∷ []) is

-- the realms of windows, where they are asked for
pub windows-told : {X : Type 0} (see : X → ContextRow) (past : List Act) (id : Option (List ℕ)) (b : Bool) (xs : List X)
    → map see xs ≡ map (row_at past) (realm_holders past id true)
    → (if b then map (λ x. realm_info_in (see x)) xs else []) ≡ map (realm_info past) (realm_holders past id b)
windows-told see past id false xs same = none-held id
  where
    none-held : (id : Option (List ℕ)) → (let none : List Node = [] in none ≡ map (realm_info past) (realm_holders past id false))
    none-held None = refl
    none-held (Some x) = refl
windows-told see past id true xs same =
    sym (map-map realm_info_in see xs) ∙ (ap (map realm_info_in) same ∙ map-map realm_info_in (row_at past) (realm_holders past id true))

-- the check of what looks fails
pub refused-looks : {A : Type 0} (q : Result A Refusal) (r : Result Plan Refusal) (refusal : Refusal) (past : List Act) (moment : ℕ) (action : Action)
    → IsLookedAt q (outcome past action) → q ≡ Err refusal → IsErrAnd r (λ e. e ≡ refusal) → Plans r past moment action
refused-looks q (Err e) (Code code) past moment action checked failed is =
    subst (λ x. Plans (Err x) past moment action) (sym is) (subst (λ x. IsLookedAt x (outcome past action)) failed checked)
refused-looks q (Err e) NoMemory past moment action checked failed is = subst (λ x. Plans (Err x) past moment action) (sym is) tt
refused-looks q (Ok plan) refusal past moment action checked failed is = absurd is

-- what is told of a realm has texts alone
realm-flat : (row : ContextRow) → levels (realm_info_in row) ≡ 1
realm-flat row = refl

-- so the list of some has two levels
pub windows-flat : {X : Type 0} (see : X → ContextRow) (b : Bool) (xs : List X)
    → items_levels (items_of (if b then map (λ x. realm_info_in (see x)) xs else [])) ≤ 1
windows-flat see false xs = omega arith
windows-flat see true [] = omega arith
windows-flat see true (x ∷ xs) =
    let flat = realm-flat (see x) in
    let rest = windows-flat see true xs in
    omega (arith, flat, rest)

-- a result of which a message can be made
pub result-well : (r : ResultData) (t : Node) → results.ghosts.payload.well r → result_tree (Data r) ≡ t → levels t ≤ 61 → IsWellResult (Data r)
result-well r t well is few = (well, subst (λ u. levels u ≤ 61) (sym is) few)

-- a plan without events, with a result of which a message can be made
pub alone-well : (plan : Plan) (r : CommandResult) → plan.before.items ≡ [] → plan.result ≡ Some r → plan.after.items ≡ [] → IsWellResult r → IsWellTold plan
alone-well plan r before reply after well = record {
  before = subst AreWell (sym before) tt;
  result = subst (λ o. IfSome o IsWellResult) (sym reply) well;
  after = subst AreWell (sym after) tt;
}

-- a plan without events, with such a result
pub told-well : (plan : Plan) (r : ResultData) → plan.before.items ≡ [] → plan.result ≡ Some (Data r) → plan.after.items ≡ [] → IsWellResult (Data r) → IsWellTold plan
told-well plan r = alone-well plan (Data r)

-- ---- births

-- the checks of a frame
pub frame-passes : (past : List Act) (id address : List ℕ) (p : ℕ) (url : Parts)
    → context_named past id ≡ Ok p → parsed address ≡ Some url → has_room past ≡ true → nat_lt (level_of past p) lowest_level ≡ true
    → frame_outcome past id address ≡ Ok (Framed p url)
frame-passes past id address p url named read room high = rw (named, read, room, high) refl

-- the events of a birth
born-told : (past : List Act) (act : Act) (row : ContextRow) (os : List Occurrence)
    → row ≡ row_at (act ∷ past) (next_number past Context) → os ≡ created_in row ∷ realm_created_in row ∷ []
    → map Happens os ≡ birth past act
born-told past act row os is told = ap (map Happens) (told ∙ ap (λ r. created_in r ∷ realm_created_in r ∷ []) is)

-- a birth that somebody asked for
pub asked-birth : (past : List Act) (act : Act) (row : ContextRow) (before after : List in_hand.Occurrence) (reply : Option CommandResult) (t : Node)
    → row ≡ row_at (act ∷ past) (next_number past Context)
    → seen before ≡ created_in row ∷ realm_created_in row ∷ [] → reply_in reply ≡ Replies t ∷ [] → after ≡ []
    → map Happens (seen before) ++ (reply_in reply ++ map Happens (seen after)) ≡ birth past act ++ Replies t ∷ []
asked-birth past act row before after reply t is told replied none =
    ap₂ (λ xs ys. xs ++ ys) (born-told past act row (seen before) is told) (ap₂ (λ xs os. xs ++ map Happens (seen os)) replied none)

-- and one that nobody asked for
pub unasked-birth : (past : List Act) (act : Act) (row : ContextRow) (before after : List in_hand.Occurrence)
    → row ≡ row_at (act ∷ past) (next_number past Context)
    → seen before ≡ created_in row ∷ realm_created_in row ∷ [] → after ≡ [] → map Happens (seen before) ++ map Happens (seen after) ≡ birth past act
unasked-birth past act row before after is told none = ap₂ (λ xs os. xs ++ map Happens (seen os)) (born-told past act row (seen before) is told) none

-- whether there is no window yet
pub none-is : (o : Option ℕ) (b : Bool) → is_some o ≡ not b → b ≡ is_none o
none-is None true e = refl
none-is None false e = absurd (cc)
none-is (Some n) true e = absurd (cc)
none-is (Some n) false e = refl

-- the row of a new top-level context
pub made-row : (past : List Act) (w : Option ℕ) (u : ℕ) (row : ContextRow) (number window realm next : ℕ) → AreAccepted past
    → number ≡ next_number past Context → realm ≡ next_number past Realm → next ≡ next_number past Window → window ≡ unwrap_or w next
    → row ≡ record { number = number; parent = None; top = number; level = 1; window = window; user = u; realm = realm; entries = begun_at about_blank; handles = [] }
    → row ≡ row_at (Made w u ∷ past) (next_number past Context)
made-row past w u row number window realm next accepted n r v opened is =
    is ∙ (ap₂ (λ k x. record { number = k; parent = None; top = k; level = 1; window = x; user = u; realm = realm; entries = begun_at about_blank; handles = [] })
    n (opened ∙ ap (unwrap_or w) v)
    ∙ (ap (λ x. record {
      number = next_number past Context;
      parent = None;
      top = next_number past Context;
      level = 1;
      window = unwrap_or w (next_number past Window);
      user = u;
      realm = x;
      entries = begun_at about_blank;
      handles = [];
    }) r
    ∙ sym (row-made past w u accepted)))

-- the row of a new child
pub framed-row : (past : List Act) (p : ℕ) (url : Parts) (parent row : ContextRow) (number realm : ℕ)
    → AreAccepted past → number ≡ next_number past Context → realm ≡ next_number past Realm → parent ≡ row_at past p
    → row ≡ record {
      number = number;
      parent = Some parent.number;
      top = parent.top;
      level = parent.level + 1;
      window = parent.window;
      user = parent.user;
      realm = realm;
      entries = begun_at url;
      handles = [];
    }
    → row ≡ row_at (Framed p url ∷ past) (next_number past Context)
framed-row past p url parent row number realm accepted n r is made =
    made ∙ (ap₂ (λ k x. record {
      number = k;
      parent = Some parent.number;
      top = parent.top;
      level = parent.level + 1;
      window = parent.window;
      user = parent.user;
      realm = x;
      entries = begun_at url;
      handles = [];
    }) n r
    ∙ (ap (λ (q : ContextRow). record {
      number = next_number past Context;
      parent = Some q.number;
      top = q.top;
      level = q.level + 1;
      window = q.window;
      user = q.user;
      realm = next_number past Realm;
      entries = begun_at url;
      handles = [];
    }) is
    ∙ (ap (λ k. record {
      number = next_number past Context;
      parent = Some p;
      top = top_of past p;
      level = k;
      window = window_of past p;
      user = user_of past p;
      realm = next_number past Realm;
      entries = begun_at url;
      handles = [];
    })
    (one-more (level_of past p))
    ∙ sym (row-framed past p url accepted))))
  where
    one-more : (n : ℕ) → n + 1 ≡ suc n
    one-more n = omega arith

-- ---- windows

-- the window of the oldest top-level context in hand
pub window-stands : (past : List Act) (o : Option (Bor declared_context.Context)) (window : Option ℕ) → window ≡ option_map (λ c. (row_of c.now).window) o
    → option_map (λ c. row_of c.now) o ≡ option_map (row_at past) (find (λ c. is_none (parent_of past c)) (contexts past))
    → window ≡ oldest_window past (tops past)
window-stands past o window is found =
    is ∙ (window-rows o ∙ (ap (option_map (λ (r : ContextRow). r.window)) found
    ∙ (window-at (find (λ c. is_none (parent_of past c)) (contexts past)) ∙ sym (oldest-window past))))
  where
    window-rows : (o : Option (Bor declared_context.Context))
        → option_map (λ c. (row_of c.now).window) o ≡ option_map (λ (r : ContextRow). r.window) (option_map (λ c. row_of c.now) o)
    window-rows None = refl
    window-rows (Some c) = refl

    window-at : (o : Option ℕ) → option_map (λ (r : ContextRow). r.window) (option_map (row_at past) o) ≡ option_map (window_of past) o
    window-at None = refl
    window-at (Some c) = refl

-- ---- removals

-- a removal that somebody asked for
pub asked-removal : (gone : List Occurrence) (before after : List in_hand.Occurrence) (reply : Option CommandResult)
    → seen before ≡ gone → reply_in reply ≡ Replies nothing ∷ [] → after ≡ []
    → map Happens (seen before) ++ (reply_in reply ++ map Happens (seen after)) ≡ map Happens gone ++ Replies nothing ∷ []
asked-removal gone before after reply told replied none = ap₂ (λ os xs. map Happens os ++ xs) told (ap₂ (λ xs os. xs ++ map Happens (seen os)) replied none)

-- ---- the log

-- an entry is told, and nobody asked for it
pub logged-plans : (past : List Act) (moment c : ℕ) (id : List ℕ) (level : Level) (line : List ℕ) (row : ContextRow)
    (before after : List in_hand.Occurrence) → context_named past id ≡ Ok c → row ≡ row_at past c
    → seen before ≡ entry_added_in row moment level line ∷ [] → after ≡ []
    → (act : Act) × (log_outcome past id level line ≡ Ok act)
    × (map Happens (seen before) ++ map Happens (seen after) ≡ occurs past moment (Log id level line) act)
    × (false ≡ false) × (leaves_tables act ≡ true) × (false ≡ false → after ≡ [])
logged-plans past moment c id level line row before after named is told none = (
  Logged c level line,
  rw named refl,
  ap₂ (λ xs os. map Happens xs ++ map Happens (seen os)) (told ∙ ap (λ r. entry_added_in r moment level line ∷ []) is) none,
  refl,
  refl,
  λ unasked. none,
)

-- ---- the table

-- a row is set, of which nothing is told
pub row-plans : (plan : Plan) (past : List Act) (moment : ℕ) (row : Option Node) (t : Node)
    → row ≡ Some t → row_checked past t ≡ Ok tt → plan.before.items ≡ [] → plan.result ≡ None → plan.after.items ≡ []
    → Makes plan.change past (Tabled (text_at "text" t) (row_in t)) → Plans (Ok plan) past moment (TableRow row)
row-plans plan past moment row t is checked before reply after makes = (
  Tabled (text_at "text" t) (row_in t),
  rw (is, checked) refl,
  rw (before, reply, after) refl,
  rw reply refl,
  makes,
  λ unasked. after,
)

-- so does what may find no memory for it
pub tabled-plans : (r : Result Plan Refusal) (past : List Act) (moment : ℕ) (row : Option Node) (t : Node)
    → row ≡ Some t → row_checked past t ≡ Ok tt → IfOk r (λ p. (p.before.items ≡ []) × (p.result ≡ None) × (p.after.items ≡ []))
    → IfOk r (λ p. Makes p.change past (Tabled (text_at "text" t) (row_in t))) → IfErr r (λ e. e ≡ NoMemory) → Plans r past moment (TableRow row)
tabled-plans (Ok plan) past moment row t is checked told makes err = row-plans plan past moment row t is checked told.0 told.1 told.2 makes
tabled-plans (Err e) past moment row t is checked told makes err = subst (λ e. Plans (Err e) past moment (TableRow row)) (sym err) tt

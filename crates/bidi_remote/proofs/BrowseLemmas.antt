-- A plan of the browser is told, and so is what comes of it.
use Rattle.std.proofs.Common.{◌≡◌, ◌∙◌, ℕ, Bool, true, false, List, [], ◌∷◌, ◌++◌, append-nil, map, flat_map, Option}
use Rattle.std.proofs.Common.{Some, None, Result, Ok, Err, Vec, Global, IfOk, refl, sym, ap, ap₂, subst}
use Rattle.std.specs.Prelude.{is_some, option_map}
use Rattle.std.specs.Option.{option_zip}
use Rattle.std.specs.declared.rc.Rc.{Rc}
use Rattle.bidi_params.specs.declared.error_code.ErrorCode.{ErrorCode}
use Rattle.bidi_browser.specs.declared.command_result.CommandResult.{CommandResult}
use Rattle.bidi_browser.specs.declared.plan.Plan.{Plan}
use Rattle.bidi_contexts.specs.Acts.{Act, Logged, Looked, Ending}
use Rattle.bidi_contexts.specs.Actions.{Action, Activate, Close, Create, GetTree, Navigate, Reload, TraverseHistory, Evaluate}
use Rattle.bidi_contexts.specs.Actions.{CallFunction, Disown, GetRealms, CreateUserContext, GetUserContexts, RemoveUserContext}
use Rattle.bidi_contexts.specs.Actions.{Frame, Unframe, Log, TableRow, is_asked}
use Rattle.bidi_handles.specs.Checks.{◌>>=◌}
use Rattle.bidi_contexts.specs.Outcome as browser
use Rattle.bidi_contexts.specs.Occurrences.{Occurrence, entry_added}
use Rattle.bidi_browser.specs.Occurs.{Item, Happens, Replies, occurs}
use Rattle.bidi_browser.specs.Plans as planned
use Rattle.bidi_browser.specs.Plans.{Plans}
use Rattle.bidi_contexts.specs.View.{seen}
use Rattle.bidi_scripts.specs.declared.log_entry.Level.{Level}
use Rattle.bidi_active.specs.declared.event_text.EventText.{EventText}
use Rattle.bidi_sessions.specs.declared.step.Sent as declared_sent
use Rattle.bidi_remote.specs.declared.state.State.{State}
use Rattle.bidi_remote.specs.declared.turn.Asker.{Asker}
use Rattle.bidi_remote.specs.declared.turn.Change.TheVariants.{Browse}
use Rattle.bidi_remote.specs.declared.turn.Reply.{Reply}
use Rattle.bidi_remote.specs.declared.turn.Turn.{Turn}
use Rattle.bidi_remote.specs.Machine.Commands.{OfBrowser}
use Rattle.bidi_remote.specs.Machine.History.{Input, OfPage, Deed, Did, acts, moment}
use Rattle.bidi_remote.specs.Machine.Outcome.{deeds, did, in_page, turn}
use Rattle.bidi_remote.specs.Machine.Sent.{Sent, sent_unasked, to_hearers, items, told}
use Rattle.bidi_remote.specs.Machine.Messages.{AllReadBack}
use Rattle.bidi_active.specs.Written.{Written, written_of, written_in}
use Rattle.bidi_remote.specs.State.EventTexts.{AreMessages}
use Rattle.bidi_remote.specs.State.Stands.{AgreeWith, Takes}
use Rattle.bidi_remote.specs.State.Turns.{Decides, IsMade, IsQuiet, is_log, deed_of, reply_in, asker_in, items_in, sent_of_item, sent_for}
use Rattle.bidi_sessions.specs.View.{sent_of}
use Rattle.bidi_sessions.proofs.ListLemmas.{flat_map-same}
use Rattle.bidi_remote.proofs.TakeLemmas.{takes, all_taken}

-- ---- the reply

-- the result, for who asked
abbrev reply_of : Asker × CommandResult → Reply
reply_of r = record { to = r.0; outcome = r.1 }

-- the reply in a plan, where somebody asked
reply-asked : (asker : Asker) (o : Option CommandResult) → reply_in (option_map reply_of (option_zip (Some asker) o)) ≡ planned.reply_in o
reply-asked asker None = refl
reply-asked asker (Some r) = refl

-- it goes to who asked
asker-asked : (asker : Asker) (o : Option CommandResult)
    → is_some o ≡ true → asker_in (option_map reply_of (option_zip (Some asker) o)) ≡ Some (asker.conn.value, asker.id.value)
asker-asked asker None e = absurd (cc)
asker-asked asker (Some r) e = refl

-- and where nobody did, there is none
reply-unasked : (o : Option CommandResult) → is_some o ≡ false → planned.reply_in o ≡ []
reply-unasked None e = refl
reply-unasked (Some r) e = absurd (cc)

-- ---- what logs

-- the act of an action is no entry of the log
EndsQuiet : Result Act ErrorCode → Type 0
EndsQuiet r = (act : Act) → r ≡ Ok act → IsQuiet act

quiet-ok : (act : Act) → IsQuiet act → EndsQuiet (Ok act)
unfolding EndsQuiet
quiet-ok act quiet other e = let same : act ≡ other = cc in subst IsQuiet same quiet

quiet-err : (code : ErrorCode) → EndsQuiet (Err code)
unfolding EndsQuiet
quiet-err code act e = absurd (cc)

-- a check and what follows it
quiet-then : {A : Type 0} (r : Result A ErrorCode) (next : A → Result Act ErrorCode) → ((x : A) → EndsQuiet (next x)) → EndsQuiet (r >>= next)
quiet-then (Ok x) next quiet = quiet x
quiet-then (Err code) next quiet = quiet-err code

quiet-looked : {A : Type 0} (r : Result A ErrorCode) → EndsQuiet (browser.looked r)
quiet-looked (Ok x) = quiet-ok Looked tt
quiet-looked (Err code) = quiet-err code

quiet-at : (past : List Act) (id : Option (List ℕ)) → EndsQuiet (browser.looked_at past id)
quiet-at past None = quiet-ok Looked tt
quiet-at past (Some id) = quiet-looked (browser.context_named past id)

quiet-ending : (past : List Act) (r : ℕ) (owned : Bool) (ending : Ending) → EndsQuiet (browser.ending_outcome past r owned ending)
quiet-ending past r owned ending = quiet-then _ _ (λ u. quiet-ok _ tt)

-- only a log logs
ends-quiet : (past : List Act) (action : Action) → is_log action ≡ false → EndsQuiet (browser.outcome past action)
ends-quiet past (Activate id) other = quiet-looked (browser.top_named past id)
ends-quiet past (Close id) other = search (quiet-then, quiet-ok)
ends-quiet past (Create type reference user) other = search (quiet-then, quiet-ok)
ends-quiet past (GetTree depth root) other = quiet-at past root
ends-quiet past (Navigate id address wait) other = search (quiet-then, quiet-ok)
ends-quiet past (Reload id wait) other = search (quiet-then, quiet-ok)
ends-quiet past (TraverseHistory id delta) other = search (quiet-then, quiet-ok)
ends-quiet past (Evaluate expression target owned depth) other = search (quiet-then, quiet-ending)
ends-quiet past (CallFunction declaration target values this owned depth) other = search (quiet-then, quiet-ending)
ends-quiet past (Disown ids target) other = search (quiet-then, quiet-ok)
ends-quiet past (GetRealms context type) other = quiet-at past context
ends-quiet past CreateUserContext other = search (quiet-then, quiet-ok)
ends-quiet past GetUserContexts other = quiet-ok Looked tt
ends-quiet past (RemoveUserContext id) other = search (quiet-then, quiet-ok)
ends-quiet past (Frame id address) other = search (quiet-then, quiet-ok)
ends-quiet past (Unframe id) other = search (quiet-then, quiet-ok)
ends-quiet past (Log id level line) other = absurd (cc)
ends-quiet past (TableRow row) other = search (quiet-then, quiet-ok)

only-logs : (past : List Act) (action : Action) → is_log action ≡ false → (act : Act) → browser.outcome past action ≡ Ok act → IsQuiet act
unfolding EndsQuiet
only-logs past action quiet = ends-quiet past action quiet

-- what is asked for is no log
asked-quiet : (action : Action) → is_asked action ≡ true → is_log action ≡ false
asked-quiet (Log id level line) asked = absurd (cc)
asked-quiet action asked = refl

-- ---- a plan

module _ (turn : Turn) (plan : Plan) (past : List Deed) (action : Action) (to : Option Asker) (p : Plans (Ok plan) (acts past) (moment past) action)
    (same : turn.change ≡ Browse plan.change) (announced : turn.telling.announced.items ≡ []) (before : turn.telling.before ≡ plan.before)
    (reply : turn.telling.reply ≡ option_map reply_of (option_zip to plan.result)) (after : turn.telling.after ≡ plan.after) where
  -- all that it brings about is told
  planned-items : reply_in (option_map reply_of (option_zip to plan.result)) ≡ planned.reply_in plan.result
      → items_in turn.telling ≡ items past (Some action) (Did p.0)
  planned-items replied =
      rw (before, reply, after) (ap (λ xs. map Happens (seen plan.before.items) ++ (xs ++ map Happens (seen plan.after.items))) replied ∙ p.2)

  -- the change makes the act, which is no entry of the log
  planned-made : is_log action ≡ false → IsMade turn.change (acts past) p.0
  planned-made quiet = subst (λ x. IsMade x (acts past) p.0) (sym same) (p.4, only-logs (acts past) action quiet p.0 p.1)

-- what a command of the browser comes to
pub planned-decides : (turn : Turn) (plan : Plan) (past : List Deed) (action : Action) (asker : Asker)
    → is_asked action ≡ true → Plans (Ok plan) (acts past) (moment past) action
    → turn.change ≡ Browse plan.change → turn.telling.announced.items ≡ [] → turn.telling.before ≡ plan.before
    → turn.telling.reply ≡ option_map reply_of (option_zip (Some asker) plan.result) → turn.telling.after ≡ plan.after
    → Decides (Ok turn) past asker (OfBrowser action) (did (browser.outcome (acts past) action))
planned-decides turn plan past action asker asked p same announced before reply after = (
  p.0,
  ap did p.1 ∙ ap (λ x. Ok (deed_of x p.0)) (sym same),
  planned-made turn plan past action (Some asker) p same announced before reply after (asked-quiet action asked),
  rw same record {
    announced = ap written_in announced;
    messages = subst (λ es. AreMessages (written_in es)) (sym announced) tt;
    items = planned-items turn plan past action (Some asker) p same announced before reply after (reply-asked asker plan.result);
  },
  ap asker_in reply ∙ asker-asked asker plan.result (p.3 ∙ asked),
)

-- what is told of a step of a page
unasked-told : (past : List Deed) (action : Action) (act : Act) (ws : List Written) (all : List Item) → ws ≡ [] → all ≡ items past (Some action) (Did act)
    → sent_for past None (Did act) ws all ≡ told past (OfPage action) (Ok (Did act))
unasked-told past action act ws all none same = append-nil _ ∙ (flat_map-same _ _ all (λ item. one item) ∙ ap (flat_map (sent_unasked past)) same)
  where
    one : (item : Item) → sent_of_item past None item ≡ sent_unasked past item
    one (Happens o) = refl
    one (Replies result) = refl

-- a step of a page is taken
pub page_takes : {E : Type 0} (r : Result (Vec declared_sent.Sent Global) E) (t : State) (h : List Input) (turned : Turn) (plan : Plan) (action : Action)
    → is_asked action ≡ false → is_log action ≡ false → Plans (Ok plan) (acts (deeds h)) (moment (deeds h)) action
    → turned.change ≡ Browse plan.change → turned.telling.announced.items ≡ [] → turned.telling.before ≡ plan.before
    → turned.telling.reply ≡ option_map reply_of (option_zip None plan.result) → turned.telling.after ≡ plan.after
    → ((i : Input) (act : Act) → turn (deeds h) i ≡ Ok (deed_of turned.change act)
    → IsMade turned.change (acts (deeds h)) act → AreMessages (written_in turned.telling.announced.items)
    → IfOk r (λ all. (map sent_of all.items ≡ sent_for (deeds h) (asker_in turned.telling.reply) (deed_of turned.change act)
    (written_in turned.telling.announced.items) (items_in turned.telling))
    × AllReadBack (map sent_of all.items) × AgreeWith t (deed_of turned.change act ∷ deeds h)))
    → IfOk r (λ all. Takes t (map sent_of all.items) h (OfPage action))
page_takes r t h turned plan action unasked quiet p same announced before reply after taken =
    let past = deeds h in
    let act = p.0 in
    let ws = written_in turned.telling.announced.items in
    let turn_is : turn past (OfPage action) ≡ Ok (Did act) = ap in_page p.1 in
    let made = planned-made turned plan past action None p same announced before reply after quiet in
    let all = planned-items turned plan past action None p same announced before reply after (sym (reply-unasked plan.result (p.3 ∙ unasked))) in
    all_taken t h (OfPage action) (deed_of turned.change act) _ r
    (taken (OfPage action) act (turn_is ∙ ap (λ x. Ok (deed_of x act)) (sym same)) made (subst (λ es. AreMessages (written_in es)) (sym announced) tt))
    (turn_is ∙ ap (λ x. Ok (deed_of x act)) (sym same))
    (ap (λ x. sent_for past (asker_in turned.telling.reply) (deed_of x act) ws (items_in turned.telling)) same
    ∙ (ap (λ who. sent_for past who (Did act) ws (items_in turned.telling)) (ap asker_in reply) ∙ (unasked-told past action act ws
    (items_in turned.telling) (ap written_in announced) all ∙ ap (λ x. told past (OfPage action) (Ok (deed_of x act))) (sym same))))

-- ---- the log

-- what logs is named, and logs there
logs-there : (r : Result ℕ ErrorCode) (level : Level) (line : List ℕ) (act : Act)
    → (r >>= λ c. Ok (Logged c level line)) ≡ Ok act → (c : ℕ) × (act ≡ Logged c level line)
logs-there (Ok c) level line act is = (c, cc)
logs-there (Err code) level line act is = absurd (cc)

-- one event happens
one-happens : (os : List Occurrence) (o : Occurrence) → map Happens os ≡ Happens o ∷ [] → os ≡ o ∷ []
one-happens [] o is = absurd (cc)
one-happens (x ∷ []) o is = cc
one-happens (x ∷ y ∷ os) o is = absurd (cc)

-- a planned entry: where it was logged, its event, and its change
pub entry-planned : (past : List Deed) (id : List ℕ) (level : Level) (line : List ℕ) (plan : Plan)
    → Plans (Ok plan) (acts past) (moment past) (Log id level line)
    → (c : ℕ) × (browser.log_outcome (acts past) id level line ≡ Ok (Logged c level line))
    × (seen plan.before.items ≡ entry_added (acts past) (moment past) c level line ∷ []) × planned.Makes plan.change (acts past) (Logged c level line)
entry-planned past id level line plan p =
    let there = logs-there (browser.context_named (acts past) id) level line p.0 p.1 in
    let replied = reply-unasked plan.result p.3 in
    let behind = p.5 refl in
    let all = sym (append-nil (map Happens (seen plan.before.items)))
    ∙ (ap₂ (λ xs os. map Happens (seen plan.before.items) ++ (xs ++ map Happens (seen os))) (sym replied) (sym behind)
    ∙ (p.2 ∙ ap (occurs (acts past) (moment past) (Log id level line)) there.1)) in (
      there.0,
      p.1 ∙ ap Ok there.1,
      one-happens (seen plan.before.items) (entry_added (acts past) (moment past) there.0 level line) all,
      subst (planned.Makes plan.change (acts past)) there.1 p.4,
    )

-- of the texts of one event, the last is its own
pub last-written : (left : List (Rc EventText Global)) (e : Rc EventText Global) (w : Written) → written_in (left ++ e ∷ []) ≡ w ∷ [] → written_of e.value ≡ w
last-written [] e w is = cc
last-written (x ∷ []) e w is = absurd (cc)
last-written (x ∷ y ∷ left) e w is = absurd (cc)

-- an entry is taken
pub entry_takes : (t : State) (h : List Input) (c : ℕ) (id : List ℕ) (level : Level) (line : List ℕ) (sent : List Sent)
    → browser.log_outcome (acts (deeds h)) id level line ≡ Ok (Logged c level line)
    → sent ≡ to_hearers (deeds h) (entry_added (acts (deeds h)) (moment (deeds h)) c level line)
    → AllReadBack sent → AgreeWith t (Did (Logged c level line) ∷ deeds h) → Takes t sent h (OfPage (Log id level line))
entry_takes t h c id level line sent named is reads agree =
    takes t h (OfPage (Log id level line)) (Ok (Did (Logged c level line))) sent (ap in_page named)
    (is ∙ sym (append-nil (to_hearers (deeds h) (entry_added (acts (deeds h)) (moment (deeds h)) c level line)))) reads agree

-- How the steps of a host lead on.
use Rattle.std.proofs.Common.{◌≡◌, ℕ, Bool, true, false, List, [], ◌∷◌, ◌++◌, Option, Some, None, IfSome, IfNone, Result, Ok, Err, OnOk, codes, append_assoc, append-nil, ap, length, get_or, map, refl, string_bytes, slice_get, sym, take, subst, ◌∙◌, ◌<◌, ◌≤◌, ◌+◌}
use Rattle.std.proofs.lemmas.List.{take_all, take_more}
use Rattle.std.proofs.lemmas.Option.{get_or_from_slice_get}
use Rattle.bidi_scripted.specs.declared.scripted_end.ScriptedEnd.{ScriptedEnd}
use Rattle.bidi_script_lines.specs.ScriptLines.{Line, Plain, script_line_of}
use Rattle.bidi_sessions.specs.Step.{NotText, Open}
use Rattle.bidi_recorder.specs.Hosting.{IsTaken, SaysNoPageLine, Stays}
use Rattle.bidi_recorder.specs.PageLines.{is_said_by_pages}
use Rattle.bidi_recorder.specs.declared.host.Recorded.{Recorded}
use Rattle.bidi_host_loop.specs.Deeds as deed
use Rattle.bidi_host_loop.specs.Deeds.{Deed}
use Rattle.bidi_host_loop.specs.Goes.{HasRun, Keeps, Owes, Does, Rests, By, deeds_in, lines_of, opening_of}
use Rattle.bidi_host_loop.specs.Runs as run
use Rattle.bidi_host_loop.specs.Runs.{Runs, Takes, TakesPageLine, Hears, Loses, Says, Plays, Admits, AdmitsPage, Asks, Calls, Commands, IsNew, session_end, block, one_more, opening_lines, names_first}
use Rattle.bidi_host_loop.specs.declared.hosting.Hosted.{Hosted}

-- a kind of step
abbrev Step : Type 1
Step = ScriptedEnd → ScriptedEnd → List Deed → Type 0

-- a host that keeps its manners and lines twice has kept them
keeps_two : (old mid new : Hosted) → Keeps mid new → Keeps old mid → Keeps old new
keeps_two old mid new b a = (b.0 ∙ a.0, b.1 ∙ a.1)

-- one that keeps them has the same lines for each new browser
keeps_opening : (old new : Hosted) → Keeps old new → opening_of new ≡ opening_of old
keeps_opening old new k = λ i. opening_lines (k.0 i) (map string_bytes (k.1 i).items)

-- a line that the remote end took is taken by the host once its deeds are done
pub takes_done : (l : Line) (old new : Hosted) (end : ScriptedEnd) (t : Recorded) → IsTaken l old.host.end end t
    → Keeps old new → new.host.end ≡ end → deeds_in new ≡ deeds_in old ++ block end t → By (Takes l) old new
takes_done l old new end t taken keeps same does = record {
  keeps = keeps;
  more = block end t;
  goes = (t, subst (λ e. IsTaken l old.host.end e t) (sym same) taken, ap (λ e. block e t) (sym same));
  adds = does;
}

-- a step is one of another kind
pub by_kind : {S S' : Step} → ((e e' : ScriptedEnd) (m : List Deed) → S e e' m → S' e e' m) → (old new : Hosted) → By S old new → By S' old new
by_kind is old new b = record { keeps = b.keeps; more = b.more; goes = is old.host.end new.host.end b.more b.goes; adds = b.adds }

-- two steps, one after the other
pub by_two : {S S' S'' : Step} → ((e e' e'' : ScriptedEnd) (m m' : List Deed) → S e e' m → S' e' e'' m' → S'' e e'' (m ++ m'))
    → (old mid new : Hosted) → By S old mid → By S' mid new → By S'' old new
by_two is old mid new a b = record {
  keeps = keeps_two old mid new b.keeps a.keeps;
  more = a.more ++ b.more;
  goes = is old.host.end mid.host.end new.host.end a.more b.more a.goes b.goes;
  adds = b.adds ∙ ap (λ ds. ds ++ b.more) a.adds ∙ append_assoc (deeds_in old) a.more b.more;
}

-- a step of a host that then rests
pub by_rest : {S : Step} (old mid new : Hosted) → By S old mid → Rests mid new → By S old new
by_rest {S} old mid new a r = record {
  keeps = keeps_two old mid new r.0 a.keeps;
  more = a.more;
  goes = subst (λ e. S old.host.end e a.more) (sym r.1) a.goes;
  adds = r.2 ∙ a.adds;
}

-- a step of a host that first rests
pub rest_by : {S : Step} (old mid new : Hosted) → Rests old mid → By S mid new → By S old new
rest_by {S} old mid new r b = record {
  keeps = keeps_two old mid new b.keeps r.0;
  more = b.more;
  goes = subst (λ e. S e new.host.end b.more) r.1 b.goes;
  adds = b.adds ∙ ap (λ ds. ds ++ b.more) r.2;
}

-- no step at all
pub by_none : {S : Step} (old new : Hosted) → S old.host.end new.host.end [] → Keeps old new
    → deeds_in new ≡ deeds_in old → By S old new
by_none old new goes keeps same = record { keeps = keeps; more = []; goes = goes; adds = same ∙ sym (append-nil (deeds_in old)) }

-- a host that rests makes any step that is made by nothing
pub by_rests : {S : Step} (old new : Hosted) → S old.host.end old.host.end [] → Rests old new → By S old new
by_rests {S} old new goes r = by_none old new (subst (λ e. S old.host.end e []) (sym r.1) goes) r.0 r.2

-- more lines are played after others
plays_after : (xs ys : List (List ℕ)) (e e' e'' : ScriptedEnd) (m m' : List Deed) → Plays xs e e' m → Plays ys e' e'' m' → Plays (xs ++ ys) e e'' (m ++ m')
plays_after _ ys _ _ e'' _ m' (run.no_lines e) q = q
plays_after _ ys _ _ e'' _ m' (run.one_more text xs e mid e' done more takes p) q =
    subst (Plays (text ∷ xs ++ ys) e e'') (sym (append_assoc done more m'))
    (one_more text (xs ++ ys) e mid e'' done (more ++ m') takes (plays_after xs ys mid e' e'' more m' p q))

-- so does a host
pub played_two : (xs ys : List (List ℕ)) (old mid new : Hosted) → By (Plays xs) old mid → By (Plays ys) mid new → By (Plays (xs ++ ys)) old new
played_two xs ys = by_two (plays_after xs ys)

-- the deeds of a host that came to its end by some, and then did more
follows : (old new : Hosted) (done more : List Deed) (d : Deed) → deeds_in old ≡ done ++ d ∷ [] → deeds_in new ≡ deeds_in old ++ more
    → deeds_in new ≡ done ++ d ∷ more
follows old new done more d owed does = does ∙ ap (λ ds. ds ++ more) owed ∙ append_assoc done (d ∷ []) more

-- ---- the kinds of steps

-- a text that a lenient host eased is heard as it came
eased_as : (is_lenient : Bool) (c : ℕ) (text eased : List ℕ) → (is_lenient ≡ false → eased ≡ text) → (e e' : ScriptedEnd) (m : List Deed)
    → Hears false c eased e e' m → Hears is_lenient c text e e' m
eased_as is_lenient c text eased same e e' m (it, said, is, alike, takes) = (it, said, (λ calm. is refl ∙ same calm), alike, takes)

-- so does a host that eased it and then took it
pub eased_hears : (is_lenient : Bool) (c : ℕ) (text eased : List ℕ) (old mid new : Hosted) → (is_lenient ≡ false → eased ≡ text) → Rests old mid
    → By (Hears false c eased) mid new → By (Hears is_lenient c text) old new
eased_hears is_lenient c text eased old mid new same rests b =
    rest_by old mid new rests (by_kind (eased_as is_lenient c text eased same) mid new b)

-- a text is heard as any equal one
pub hears_same : (is_lenient : Bool) (c : ℕ) (text same : List ℕ) (old new : Hosted) → same ≡ text → By (Hears is_lenient c same) old new
    → By (Hears is_lenient c text) old new
hears_same is_lenient c text same old new is = subst (λ s. By (Hears is_lenient c s) old new) is

-- a session is ended before its connection is lost
pub ended_first : (c : ℕ) (old mid new : Hosted) → By (Hears false c session_end) old mid → By (Loses c) mid new → By (Loses c) old new
ended_first c = by_two run.ends

-- a call that asks for no command
pub no_call : (is_lenient : Bool) (host : Hosted) → By (Calls is_lenient) host host
no_call is_lenient host = by_none host host (run.no_command host.host.end) (refl, refl) refl

-- a command is heard on a connection that is dropped then
pub commanded : (is_lenient : Bool) (c : ℕ) (text : List ℕ) (old mid new : Hosted) → By (Hears is_lenient c text) old mid → By (Loses c) mid new
    → By (Commands is_lenient c) old new
commanded is_lenient c text = by_two (run.heard_and_dropped text)

-- a call whose connection is denied
pub call_denied : (is_lenient : Bool) (c : ℕ) (resource : List ℕ) (old new : Hosted) → By (Takes (Plain (Open c resource))) old new
    → By (Calls is_lenient) old new
call_denied is_lenient c resource = by_kind (run.is_denied c resource)

-- a call whose connection is opened for its command
pub call_made : (c : ℕ) (resource : List ℕ) (old mid new : Hosted) → By (Takes (Plain (Open c resource))) old mid
    → By (Commands mid.manners.is_lenient c) mid new → By (Calls old.manners.is_lenient) old new
call_made c resource old mid new opened made =
    by_two (run.is_made c resource) old mid new opened (subst (λ b. By (Commands b c) mid new) opened.keeps.0 made)

-- what is known of a line that was read and taken
abbrev TakenLine : List ℕ → ScriptedEnd → ScriptedEnd → Recorded → Type 0
TakenLine text old end t = (l : Line) × (is_said_by_pages l ≡ true) × (text ≡ script_line_of l) × IsTaken l old end t

-- a line of a page is taken by the host once its deeds are done
page_line_done : (text : List ℕ) (t : Recorded) (old new : Hosted) (end : ScriptedEnd) → TakenLine text old.host.end end t
    → Keeps old new → new.host.end ≡ end → deeds_in new ≡ deeds_in old ++ block end t
    → By (TakesPageLine text) old new
page_line_done text t old new end (l, is, same, taken) keeps ends does =
    by_kind (λ e e' m takes. (l, is, same, takes)) old new (takes_done l old new end t taken keeps ends does)

-- so is one that was found
pub line_done : (text : List ℕ) (found : Option Recorded) (t : Recorded) (old new : Hosted) (end : ScriptedEnd) → found ≡ Some t
    → IfSome found (TakenLine text old.host.end end) → Keeps old new → new.host.end ≡ end
    → deeds_in new ≡ deeds_in old ++ block end t → By (TakesPageLine text) old new
line_done text found t old new end is some =
    page_line_done text t old new end (subst (λ f. IfSome f (TakenLine text old.host.end end)) is some)

-- a line of a page that is taken is played
pub line_played : (text : List ℕ) (old new : Hosted) → By (TakesPageLine text) old new → By (Plays (text ∷ [])) old new
line_played text =
    by_kind (λ e e' m takes. subst (Plays (text ∷ []) e e') (append-nil m) (one_more text [] e e' e' m [] takes (run.no_lines e')))

-- no line is played
pub none_played : (host : Hosted) → By (Plays []) host host
none_played host = by_none host host (run.no_lines host.host.end) (refl, refl) refl

-- a host that is not lenient plays no line first
pub no_names_played : (is_lenient : Bool) (host : Hosted) → is_lenient ≡ false → By (Plays (names_first is_lenient)) host host
no_names_played is_lenient host is = subst (λ b. By (Plays (names_first b)) host host) (sym is) (none_played host)

-- one that is lenient plays `names *` first
pub names_played : (is_lenient : Bool) (old new : Hosted) → is_lenient ≡ true → By (TakesPageLine (codes "names *")) old new
    → By (Plays (names_first is_lenient)) old new
names_played is_lenient old new is b = subst (λ t. By (Plays (names_first t)) old new) (sym is) (line_played (codes "names *") old new b)

-- the line that is found at a place of the page is the one there
pub taken_at : (place : ℕ) (text : List ℕ) (old new : Hosted) → slice_get (lines_of old) place ≡ Some text → By (TakesPageLine text) old new
    → By (TakesPageLine (get_or (lines_of old) place [])) old new
taken_at place text old new at =
    subst (λ t. By (TakesPageLine t) old new) (sym (get_or_from_slice_get (lines_of old) place text [] at))

-- the lines before a place are played, and the one at it
pub next_played : (place : ℕ) (old mid new : Hosted) → place < length (lines_of old) → By (Plays (take place (lines_of old))) old mid
    → By (TakesPageLine (get_or (lines_of mid) place [])) mid new → By (Plays (take (place + 1) (lines_of old))) old new
next_played place old mid new within before b =
    let line = get_or (lines_of old) place [] in
    subst (λ ls. By (Plays ls) old new) (sym (take_more (lines_of old) place [] within))
    (played_two (take place (lines_of old)) (line ∷ []) old mid new before
    (line_played line mid new (subst (λ p. By (TakesPageLine (get_or (map string_bytes p.items) place [])) mid new) before.keeps.1 b)))

-- the lines before the end are all lines
pub all_played : (place : ℕ) (old new : Hosted) → length (lines_of old) ≤ place → By (Plays (take place (lines_of old))) old new
    → By (Plays (lines_of old)) old new
all_played place old new past = subst (λ ls. By (Plays ls) old new) (take_all place (lines_of old) past)

-- the lines of the page are played after that of the names
pub opening_played : (old mid new : Hosted) → By (Plays (names_first old.manners.is_lenient)) old mid → By (Plays (lines_of mid)) mid new
    → By (Plays (opening_of old)) old new
opening_played old mid new a b =
    played_two (names_first old.manners.is_lenient) (lines_of old) old mid new a
    (subst (λ p. By (Plays (map string_bytes p.items)) mid new) a.keeps.1 b)

-- a text that is no line of a page is said
pub no_line_said : (text : List ℕ) (found : Option Recorded) (old new : Hosted) → found ≡ None
    → IfNone found (SaysNoPageLine text × Stays old.host.end new.host.end) → Keeps old new
    → deeds_in new ≡ deeds_in old → By (Says (opening_of old) text) old new
no_line_said text found old new is none keeps same =
    let stays = subst (λ f. IfNone f (SaysNoPageLine text × Stays old.host.end new.host.end)) is none in
    by_none old new (run.no_line old.host.end new.host.end stays.0 stays.1) keeps same

-- a line of a page that was found and taken is said
pub line_said : {A : Type 0} (text : List ℕ) (found : Option A) (a : A) (old new : Hosted) → found ≡ Some a
    → IfSome found (λ _. By (TakesPageLine text) old new) → By (Says (opening_of old) text) old new
line_said text found a old new is some = by_kind run.a_line old new (subst (λ f. IfSome f (λ _. By (TakesPageLine text) old new)) is some)

-- what is known if nothing was found holds then, whatever the call that follows returns
pub none_then : {A B E : Type 0} (P : Type 0) (found : Option A) (r : Result B E) → found ≡ None → IfNone found P → OnOk r P
none_then P found (Ok x) is none = subst (λ f. IfNone f P) is none
none_then P found (Err e) is none = tt

-- `end` is said
pub end_said : (text : List ℕ) (old new : Hosted) → text ≡ codes "end" → Rests old new → By (Says (opening_of old) text) old new
end_said text old new is = by_rests old new (run.the_end old.host.end is)

-- `reset` is said
pub reset_said : (text : List ℕ) (old new : Hosted) → text ≡ codes "reset" → By (Says (opening_of old) (codes "reset")) old new
    → By (Says (opening_of old) text) old new
reset_said text old new is = subst (λ t. By (Says (opening_of old) t) old new) (sym is)

-- a new browser plays its lines
pub reset_done : (old mid new : Hosted) → Keeps old mid → IsNew mid.host.end
    → deeds_in mid ≡ deeds_in old ++ deed.Restarted ∷ [] → By (Plays (opening_of mid)) mid new → By (Says (opening_of old) (codes "reset")) old new
reset_done old mid new keeps fresh restarted b = record {
  keeps = keeps_two old mid new b.keeps keeps;
  more = deed.Restarted ∷ b.more;
  goes = run.a_reset old.host.end mid.host.end new.host.end b.more refl fresh
      (subst (λ ls. Plays ls mid.host.end new.host.end b.more) (keeps_opening old mid keeps) b.goes);
  adds = follows mid new (deeds_in old) b.more deed.Restarted restarted b.adds;
}

-- a step that the remote end has no part in
pub does_by : {S : Step} (ds : List Deed) (old new : Hosted) → S old.host.end old.host.end ds → Does ds old new → By S old new
does_by {S} ds old new goes does = record {
  keeps = does.0;
  more = ds;
  goes = subst (λ e. S old.host.end e ds) (sym does.1) goes;
  adds = does.2;
}

-- a page asks
pub page_asked : (place : ℕ) (resource : List ℕ) (old new : Hosted) → resource ≡ codes "/page" → By (AdmitsPage place) old new
    → By (Asks place resource) old new
page_asked place resource old new is = by_kind (λ e e' m admits. run.a_page e e' m is admits) old new

-- a handshake is refused by a test
pub refused_asked : (place status : ℕ) (resource : List ℕ) (old new : Hosted) → Does (deed.Refused place status ∷ []) old new
    → By (Asks place resource) old new
refused_asked place status resource old new = does_by (deed.Refused place status ∷ []) old new (run.is_refused old.host.end status)

-- the remote end is asked to open a connection
pub opened_asked : (place c : ℕ) (resource : List ℕ) (old mid new : Hosted) → By (Takes (Plain (Open c resource))) old mid
    → By (Admits place c) mid new → By (Asks place resource) old new
opened_asked place c resource = by_two (run.opens c)

-- ---- what came is met

-- a run by the manners and lines of a host
abbrev RunsAs : Hosted → ScriptedEnd → List Deed → ScriptedEnd → List Deed → Type 0
RunsAs host first before = Runs host.manners.is_lenient (opening_of host) first before

-- a run is one of each host that keeps these manners and lines
kept_run : (first : ScriptedEnd) (before : List Deed) (old new : Hosted) (end : ScriptedEnd) (done : List Deed) → Keeps old new
    → RunsAs old first before end done → RunsAs new first before end done
kept_run first before old new end done keeps so =
    subst (λ ls. Runs new.manners.is_lenient ls first before end done) (sym (keeps_opening old new keeps))
    (subst (λ b. Runs b (opening_of old) first before end done) (sym keeps.0) so)

-- a run to an end is one of the host that has this end and these deeds, and keeps its manners and lines
reached : (first : ScriptedEnd) (before : List Deed) (old new : Hosted) (done : List Deed) → Keeps old new
    → deeds_in new ≡ done → RunsAs old first before new.host.end done → HasRun first before new
reached first before old new done keeps same runs =
    kept_run first before old new new.host.end (deeds_in new) keeps (subst (RunsAs old first before new.host.end) (sym same) runs)

-- a host that met what came by one step has gone on
met : {S : Step} (d : Deed) (first : ScriptedEnd) (before : List Deed) (old new : Hosted)
    → ((done more : List Deed) → RunsAs old first before old.host.end done → S old.host.end new.host.end more
    → RunsAs old first before new.host.end (done ++ d ∷ more))
    → By S old new → Owes first before (d ∷ []) old → HasRun first before new
met d first before old new runs b o =
    reached first before old new _ b.keeps (follows old new o.done b.more d o.came b.adds) (runs o.done b.more o.runs b.goes)

-- the same where one more deed, the answer, comes at the end
met_by : {S : Step} (d answer : Deed) (first : ScriptedEnd) (before : List Deed) (old mid new : Hosted)
    → ((done more : List Deed) → RunsAs old first before old.host.end done → S old.host.end new.host.end more
    → RunsAs old first before new.host.end (done ++ d ∷ (more ++ answer ∷ [])))
    → By S old mid → Does (answer ∷ []) mid new → Owes first before (d ∷ []) old → HasRun first before new
met_by {S} d answer first before old mid new runs b does o =
    reached first before old new _ (keeps_two old mid new does.0 b.keeps)
    (does.2 ∙ ap (λ ds. ds ++ answer ∷ []) (follows old mid o.done b.more d o.came b.adds) ∙ append_assoc o.done (d ∷ b.more) (answer ∷ []))
    (runs o.done b.more o.runs (subst (λ e. S old.host.end e b.more) (sym does.1) b.goes))

-- a host that has heard a text has gone on
pub heard_run : (c : ℕ) (text : List ℕ) (first : ScriptedEnd) (before : List Deed) (old new : Hosted)
    → By (Hears old.manners.is_lenient c text) old new → Owes first before (deed.Heard c text ∷ []) old → HasRun first before new
heard_run c text first before old new =
    met (deed.Heard c text) first before old new (λ done more so hears. run.hears old.host.end new.host.end done more c text so hears)

-- so has one that has heard a binary message
pub heard_bytes_run : (c : ℕ) (first : ScriptedEnd) (before : List Deed) (old new : Hosted)
    → By (Takes (Plain (NotText c))) old new → Owes first before (deed.HeardBytes c ∷ []) old → HasRun first before new
heard_bytes_run c first before old new =
    met (deed.HeardBytes c) first before old new (λ done more so takes. run.hears_bytes old.host.end new.host.end done more c so takes)

-- so has one that has lost a connection
pub lost_run : (c : ℕ) (first : ScriptedEnd) (before : List Deed) (old new : Hosted)
    → By (Loses c) old new → Owes first before (deed.Gone c ∷ []) old → HasRun first before new
lost_run c first before old new =
    met (deed.Gone c) first before old new (λ done more so loses. run.loses old.host.end new.host.end done more c so loses)

-- so has one that was asked for a resource
pub asked_run : (place : ℕ) (resource : List ℕ) (first : ScriptedEnd) (before : List Deed) (old new : Hosted)
    → By (Asks place resource) old new → Owes first before (deed.Asked place resource ∷ []) old → HasRun first before new
asked_run place resource first before old new =
    met (deed.Asked place resource) first before old new (λ done more so asks. run.asks old.host.end new.host.end done more place resource so asks)

-- so has one that did what a page said, and answered it
pub said_run : (place : ℕ) (text answer : List ℕ) (first : ScriptedEnd) (before : List Deed) (old mid new : Hosted)
    → By (Says (opening_of old) text) old mid → Does (deed.Answered place answer ∷ []) mid new → Owes first before (deed.Said place text ∷ []) old
    → HasRun first before new
said_run place text answer first before old mid new =
    met_by (deed.Said place text) (deed.Answered place answer) first before old mid new
    (λ done more so says. run.says old.host.end new.host.end done more place text answer so says)

-- so has one that did what standard input said, and answered it
pub entered_run : (text answer : List ℕ) (first : ScriptedEnd) (before : List Deed) (old mid new : Hosted)
    → By (Says (opening_of old) text) old mid → Does (deed.AnsweredInput answer ∷ []) mid new → Owes first before (deed.Entered text ∷ []) old
    → HasRun first before new
entered_run text answer first before old mid new =
    met_by (deed.Entered text) (deed.AnsweredInput answer) first before old mid new
    (λ done more so says. run.enters old.host.end new.host.end done more text answer so says)

-- so has one that carried out a call, and replied to it
pub called_run : (place : ℕ) (first : ScriptedEnd) (before : List Deed) (old mid new : Hosted)
    → By (Calls old.manners.is_lenient) old mid → Does (deed.Replied place ∷ []) mid new → Owes first before (deed.Called place ∷ []) old
    → HasRun first before new
called_run place first before old mid new =
    met_by (deed.Called place) (deed.Replied place) first before old mid new
    (λ done more so calls. run.calls old.host.end new.host.end done more place so calls)

-- the deeds of a host that came to its end by some, and then did one more
answered : (first : ScriptedEnd) (before : List Deed) (d answer : Deed) (old new : Hosted)
    → ((done : List Deed) → RunsAs old first before old.host.end done
    → RunsAs old first before old.host.end (done ++ d ∷ answer ∷ []))
    → Does (answer ∷ []) old new → Owes first before (d ∷ []) old → HasRun first before new
answered first before d answer old new runs does o =
    reached first before old new _ does.0 (follows old new o.done (answer ∷ []) d o.came does.2)
    (subst (λ e. RunsAs old first before e (o.done ++ d ∷ answer ∷ [])) (sym does.1) (runs o.done o.runs))

-- a host that answered a binary message of a page has gone on
pub said_bytes_run : (place : ℕ) (answer : List ℕ) (first : ScriptedEnd) (before : List Deed) (old new : Hosted)
    → Does (deed.Answered place answer ∷ []) old new → Owes first before (deed.SaidBytes place ∷ []) old → HasRun first before new
said_bytes_run place answer first before old new =
    answered first before (deed.SaidBytes place) (deed.Answered place answer) old new (λ done so. run.says_bytes old.host.end done place answer so)

-- so has one that answered bytes of standard input that are no line
pub entered_bytes_run : (answer : List ℕ) (first : ScriptedEnd) (before : List Deed) (old new : Hosted)
    → Does (deed.AnsweredInput answer ∷ []) old new → Owes first before (deed.EnteredBytes ∷ []) old → HasRun first before new
entered_bytes_run answer first before old new =
    answered first before deed.EnteredBytes (deed.AnsweredInput answer) old new (λ done so. run.enters_bytes old.host.end done answer so)

-- a host that played lines has gone on
pub played_run : (first : ScriptedEnd) (before : List Deed) (old new : Hosted) → By (Plays (opening_of old)) old new → HasRun first before old
    → HasRun first before new
played_run first before old new b so =
    reached first before old new _ b.keeps b.adds (run.plays old.host.end new.host.end (deeds_in old) b.more so b.goes)

-- a host that rests has gone on
pub rests_run : (first : ScriptedEnd) (before : List Deed) (old new : Hosted) → Rests old new → HasRun first before old → HasRun first before new
rests_run first before old new r so =
    reached first before old new (deeds_in old) r.0 r.2 (subst (λ e. RunsAs old first before e (deeds_in old)) (sym r.1) so)

-- a host that owes nothing has run
pub owes_none : (first : ScriptedEnd) (before : List Deed) (old new : Hosted) → Rests old new → Owes first before [] old → HasRun first before new
owes_none first before old new r o =
    reached first before old new o.done r.0 (r.2 ∙ o.came ∙ append-nil o.done)
    (subst (λ e. RunsAs old first before e o.done) (sym r.1) o.runs)

-- a host that rests still owes what it owed
pub rests_owe : (last : List Deed) (first : ScriptedEnd) (before : List Deed) (old new : Hosted) → Rests old new → Owes first before last old
    → Owes first before last new
rests_owe last first before old new r o = record {
  done = o.done;
  runs = kept_run first before old new new.host.end o.done r.0 (subst (λ e. RunsAs old first before e o.done) (sym r.1) o.runs);
  came = r.2 ∙ o.came;
}

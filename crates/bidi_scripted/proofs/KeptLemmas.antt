-- What becomes of a message that asks for names of a test.
use Rattle.std.proofs.Common.{◌≡◌, ◌∙◌, ◌<◌, ◌^◌, ℕ, suc, Bool, true, false, not, List, [], ◌∷◌, map, length, Option, Some, None, Result, Ok, Err, Vec, Global, IfOk, refl, sym, ap, subst, arith}
use Rattle.std.specs.Prelude.{◌==◌, if◌then◌else◌, MatchBool, codes}
use Rattle.std.specs.List.{list_all}
use Rattle.std.proofs.lemmas.Bool.Decides.{nat_tests}
use Rattle.std.proofs.lemmas.List.{length-map}
use Rattle.bidi_params.specs.declared.error_code.ErrorCode.{ErrorCode}
use Rattle.bidi_params.specs.declared.error_code.ErrorCode.TheVariants.{InvalidArgument, UnknownError}
use Rattle.bidi_messages.specs.Message.{error_text}
use Rattle.bidi_rows.specs.Rows.{Result as ResultOf, reply_text}
use Rattle.bidi_sessions.specs.Scope.{Scope}
use Rattle.bidi_sessions.specs.Step as steps
use Rattle.bidi_sessions.specs.View.{sent_of}
use Rattle.bidi_sessions.specs.declared.step.Sent as declared_sent
use Rattle.bidi_sessions.proofs.ListLemmas.{some-same}
use Rattle.bidi_remote.specs.Machine.History.{Input, Deed}
use Rattle.bidi_remote.specs.Machine.Outcome.{deeds}
use Rattle.bidi_remote.specs.Machine.Sent.{Text, out}
use Rattle.bidi_remote.specs.State.Stands.{StandsFor}
use Rattle.bidi_remote.specs.declared.remote_end.RemoteEnd.{RemoteEnd}
use Rattle.bidi_remote.specs.declared.remote_end.RemoteFault.{RemoteFault}
use Rattle.bidi_scripted.specs.declared.scripted_end.Taken.{Taken}
use Rattle.bidi_scripted.specs.declared.scripted_end.Taken.TheVariants.{HandedOn}
use Rattle.bidi_scripted.specs.Taken.{IsOfTest}
use Rattle.bidi_names.specs.Asked.{Asked, Wanted, Subscribes, Unsubscribes, Ends, ending_text}
use Rattle.bidi_handles.specs.Ids.{id_text}
use Rattle.bidi_handles.specs.declared.id.IdKind.TheVariants.{Subscription}
use Rattle.bidi_names.specs.Replies.{succeeded, Gives, AreNumbers, id_result}
use Rattle.bidi_names.specs.Subscriptions.{holds_globally, dismissed, cancelled}
use Rattle.bidi_names.proofs.ReplyLemmas.{none_some}
use Rattle.bidi_scripted.specs.Becomes.{IsHandedOn}
use Rattle.bidi_scripted.proofs.FateLemmas.{on-short}
use Rattle.bidi_scripted.specs.Script.{Script}
use Rattle.bidi_remote.specs.Machine.Sessions.{sessions}
use Rattle.bidi_scripted.specs.Kept.{Taking, next_alone, with_made, keeps_any, Hears, Refuses, Succeeds, Makes, Keeps, Leaves, HearsText, Takes, IsNamed, has_room, part_or, scope_wanted, subscribing, unsubscribing, ending}

-- ---- what the machine heard

-- a message that was handed on
abbrev pub hears : (c : ℕ) (text : List ℕ) (old new : RemoteEnd) (t : Taken) (h : List Input) → StandsFor old h → IsHandedOn (steps.Text c text) old new (Ok t)
    → HearsText c text h new t
hears c text old new t h s on = (on.ok.0, on.ok.1, (on.ok.2 h s).0, (on.ok.2 h s).2, on-short (steps.Text c text) old new t h s on)

-- a message of a connection that speaks for no session
pub named-none : (c : ℕ) (text : List ℕ) (old new : RemoteEnd) (script after : Script) (r : Result Taken RemoteFault) (h : List Input) (o : Option ℕ) → o ≡ None
    → StandsFor old h → IsHandedOn (steps.Text c text) old new r → after ≡ script → IfOk r (λ t. IsNamed c text h o old script new after t)
named-none c text old new script after (Err e) h o none s on same = tt
named-none c text old new script after (Ok t) h o none s on same =
    subst (λ x. IsNamed c text h x old script new after t) (sym none) (hears c text old new t h s on, same)

-- whatever the test is
pub either-way : (b : Bool) (P : Type 0) → P → MatchBool b P P
either-way true P p = p
either-way false P p = p

-- a message that asks nothing of names
pub takes-none : (c : ℕ) (text : List ℕ) (old new : RemoteEnd) (script after : Script) (r : Result Taken RemoteFault) (h : List Input) (s : ℕ) → StandsFor old h
    → IsHandedOn (steps.Text c text) old new r → after ≡ script → IfOk r (λ t. Takes c h s None old script new after t (Hears text))
takes-none c text old new script after (Err e) h s stands on same = tt
takes-none c text old new script after (Ok t) h s stands on same =
    (hears c text old new t h stands on, either-way (succeeded (out h on.ok.0)) (after ≡ script) same)

-- ---- answers in place of the machine

module _ (c : ℕ) (h : List Input) (s : ℕ) (asked : Option Asked) (end : RemoteEnd) (script : Script) (r : Result Taken RemoteFault) where
  -- an error
  pub takes-refused : (id : ℕ) (code : ErrorCode)
      → IfOk r (IsOfTest (Text c (error_text (Some id) code) ∷ [])) → IfOk r (λ t. Takes c h s asked end script end script t (Refuses id code))
  takes-refused id code answers = of r answers
    where
      of : (x : Result Taken RemoteFault) → IfOk x (IsOfTest (Text c (error_text (Some id) code) ∷ []))
          → IfOk x (λ t. Takes c h s asked end script end script t (Refuses id code))
      of (Err e) a = tt
      of (Ok t) a = ((a, refl), refl)

  -- the same of a way of taking that is equal
  pub takes-as : (new : RemoteEnd) (after : Script) (a b : Taking) → a ≡ b → IfOk r (λ t. Takes c h s asked end script new after t a)
      → IfOk r (λ t. Takes c h s asked end script new after t b)
  takes-as new after a b e p = subst (λ x. IfOk r (λ t. Takes c h s asked end script new after t x)) e p

-- an empty result, after which what was asked is left so
pub takes-succeeded : (c : ℕ) (h : List Input) (s : ℕ) (asked : Option Asked) (end : RemoteEnd) (script after : Script) (t : Taken) (id : ℕ)
    → IsOfTest (Text c (reply_text id (ResultOf (codes "{}"))) ∷ []) t → Leaves s asked script after → Takes c h s asked end script end after t (Succeeds id)
takes-succeeded c h s asked end script after t id a leaves = ((a, refl), leaves)

-- ---- which way a command is taken

first_of : {X : Type 0} (b : Bool) (x y : X) → b ≡ true → (if b then x else y) ≡ x
first_of b x y is = rw is refl

other_of : {X : Type 0} (b : Bool) (x y : X) → b ≡ false → (if b then x else y) ≡ y
other_of b x y is = rw is refl

not-true : (b : Bool) → b ≡ true → not b ≡ false
not-true b e = ap not e

not-false : (b : Bool) → b ≡ false → not b ≡ true
not-false b e = ap not e

module _ (past : List Deed) (script : Script) (s : ℕ) (text : List ℕ) (w : Wanted) where
  -- there is no room
  pub subscribing-full : (scope : Scope) → has_room past script s (length w.foreign) ≡ false → Refuses w.id UnknownError ≡ subscribing past script s text w (Ok scope)
  subscribing-full scope full = sym (first_of _ _ _ (not-false (has_room past script s (length w.foreign)) full))

  -- it has names of the test alone
  pub subscribing-alone : (scope : Scope) → has_room past script s (length w.foreign) ≡ true → (length w.others == 0) ≡ true
      → Makes w scope ≡ subscribing past script s text w (Ok scope)
  subscribing-alone scope room none =
      sym (other_of _ _ _ (not-true (has_room past script s (length w.foreign)) room) ∙ first_of (length w.others == 0) _ _ none)

  -- it has others
  pub subscribing-heard : (scope : Scope) → has_room past script s (length w.foreign) ≡ true → (length w.others == 0) ≡ false
      → Hears (part_or w.part text) ≡ subscribing past script s text w (Ok scope)
  subscribing-heard scope room some =
      sym (other_of _ _ _ (not-true (has_room past script s (length w.foreign)) room) ∙ other_of (length w.others == 0) _ _ some)

  -- a name of the test is in no subscription for all contexts
  pub unsubscribing-refused : list_all (holds_globally script.named s) w.foreign ≡ false → Refuses w.id InvalidArgument ≡ unsubscribing script s text w
  unsubscribing-refused not_all = sym (first_of _ _ _ (not-false (list_all (holds_globally script.named s) w.foreign) not_all))

  pub unsubscribing-alone : list_all (holds_globally script.named s) w.foreign ≡ true → (length w.others == 0) ≡ true
      → Succeeds w.id ≡ unsubscribing script s text w
  unsubscribing-alone all none =
      sym (other_of _ _ _ (not-true (list_all (holds_globally script.named s) w.foreign) all) ∙ first_of (length w.others == 0) _ _ none)

  pub unsubscribing-heard : list_all (holds_globally script.named s) w.foreign ≡ true → (length w.others == 0) ≡ false
      → Hears (part_or w.part text) ≡ unsubscribing script s text w
  unsubscribing-heard all some =
      sym (other_of _ _ _ (not-true (list_all (holds_globally script.named s) w.foreign) all) ∙ other_of (length w.others == 0) _ _ some)

module _ (text : List ℕ) (id : ℕ) (ids others : List (List ℕ)) where
  pub ending-whole : (length others == length ids) ≡ true → Hears text ≡ ending text id ids others
  ending-whole all = sym (first_of (length others == length ids) _ _ all)

  pub ending-alone : (length others == length ids) ≡ false → (length others == 0) ≡ true → Succeeds id ≡ ending text id ids others
  ending-alone some none = sym (other_of (length others == length ids) _ _ some ∙ first_of (length others == 0) _ _ none)

  pub ending-part : (length others == length ids) ≡ false → (length others == 0) ≡ false
      → Hears (ending_text id others) ≡ ending text id ids others
  ending-part some more = sym (other_of (length others == length ids) _ _ some ∙ other_of (length others == 0) _ _ more)

-- a list of so many items is empty exactly if there is none
pub none-of : {X Y : Type 0} (f : X → Y) (xs : List X) (n : ℕ) (b : Bool) → n ≡ length xs → (n == 0) ≡ b → (length (map f xs) == 0) ≡ b
none-of f xs n b e is = ap (λ k. k == 0) (length-map xs f ∙ sym e) ∙ is

-- ---- what the machine heard, and what is kept then

yes-then : (b : Bool) (A B : Type 0) → b ≡ true → A → MatchBool b A B
yes-then b A B e a = subst (λ x. MatchBool x A B) (sym e) a

no-else : (b : Bool) (A B : Type 0) → b ≡ false → B → MatchBool b A B
no-else b A B e a = subst (λ x. MatchBool x A B) (sym e) a

module _ (c : ℕ) (text : List ℕ) (h : List Input) (s : ℕ) (old new : RemoteEnd) (script after : Script) (sent : Vec declared_sent.Sent Global)
    (stands : StandsFor old h) (on : IsHandedOn (steps.Text c text) old new (Ok (HandedOn sent))) where
  -- what was asked is kept so
  pub takes-heard : (asked : Option Asked) → Keeps (deeds h) s asked (map sent_of sent.items) script after
      → Takes c h s asked old script new after (HandedOn sent) (Hears text)
  takes-heard asked keeps =
      (hears c text old new (HandedOn sent) h stands on, subst (λ xs. Keeps (deeds h) s asked xs script after) (on.ok.2 h stands).0 keeps)

  -- names are given back
  pub takes-dismissed : (w : Wanted) → succeeded (map sent_of sent.items) ≡ true → after ≡ record script { named = dismissed s w.foreign w.modules script.named }
      → Takes c h s (Some (Unsubscribes w)) old script new after (HandedOn sent) (Hears text)
  takes-dismissed w done same = takes-heard (Some (Unsubscribes w)) (yes-then (succeeded (map sent_of sent.items)) _ _ done same)

  -- they are not, as the machine refused
  pub takes-undismissed : (w : Wanted) → succeeded (map sent_of sent.items) ≡ false → after ≡ script
      → Takes c h s (Some (Unsubscribes w)) old script new after (HandedOn sent) (Hears text)
  takes-undismissed w failed same = takes-heard (Some (Unsubscribes w)) (no-else (succeeded (map sent_of sent.items)) _ _ failed same)

  -- subscriptions end
  pub takes-cancelled : (id : ℕ) (ids : List (List ℕ)) (ns : List ℕ) → AreNumbers (id_text Subscription s) ids ns → succeeded (map sent_of sent.items) ≡ true
      → after ≡ record script { named = cancelled s ns script.named } → Takes c h s (Some (Ends id ids)) old script new after (HandedOn sent) (Hears text)
  takes-cancelled id ids ns numbers done same =
      takes-heard (Some (Ends id ids)) (yes-then (succeeded (map sent_of sent.items)) _ _ done (ns, numbers, same))

  pub takes-uncancelled : (id : ℕ) (ids : List (List ℕ)) → succeeded (map sent_of sent.items) ≡ false → after ≡ script
      → Takes c h s (Some (Ends id ids)) old script new after (HandedOn sent) (Hears text)
  takes-uncancelled id ids failed same = takes-heard (Some (Ends id ids)) (no-else (succeeded (map sent_of sent.items)) _ _ failed same)

-- ---- a subscription

-- the test keeps it alone, and answers with its id
pub takes-made : (c : ℕ) (h : List Input) (s : ℕ) (end : RemoteEnd) (script after : Script) (t : Taken) (w : Wanted) (scope : Scope) (number : ℕ) (text : List ℕ)
    → IsOfTest (Text c (reply_text w.id (ResultOf text)) ∷ []) t → text ≡ id_result s number → number ≡ next_alone script
    → after ≡ record script { named = with_made (sessions (deeds h)) s number w scope script.named; made = suc script.made }
    → Takes c h s (Some (Subscribes w)) end script end after t (Makes w scope)
takes-made c h s end script after t w scope number text a e is same = (
  (subst (λ x. IsOfTest (Text c (reply_text w.id (ResultOf x)) ∷ []) t) (e ∙ ap (id_result s) is) a, refl),
  same ∙ ap (λ n. record script { named = with_made (sessions (deeds h)) s n w scope script.named; made = suc script.made }) is,
)

module _ (c : ℕ) (text part : List ℕ) (h : List Input) (s : ℕ) (old new : RemoteEnd) (script after : Script) (all : Vec declared_sent.Sent Global)
    (stands : StandsFor old h) (on : IsHandedOn (steps.Text c text) old new (Ok (HandedOn all))) (same : text ≡ part) (w : Wanted) (scope : Scope)
    (is : scope_wanted (deeds h) w ≡ Ok scope) (sent : List declared_sent.Sent) (are : sent ≡ all.items) where
  heard : IsHandedOn (steps.Text c part) old new (Ok (HandedOn all))
  heard = subst (λ x. IsHandedOn (steps.Text c x) old new (Ok (HandedOn all))) same on

  -- the machine made it, and what it does not know of it is kept
  pub takes-subscribed : (n : ℕ) → (n < 2 ^ 48) × Gives s (map sent_of sent) n
      → ((m : ℕ) → m < 2 ^ 48 → Gives s (map sent_of sent) m → Some n ≡ Some m)
      → after ≡ (if keeps_any w then record script { named = with_made (sessions (deeds h)) s n w scope script.named } else script)
      → Takes c h s (Some (Subscribes w)) old script new after (HandedOn all) (Hears part)
  takes-subscribed n some every kept =
      let gives = subst (λ xs. Gives s (map sent_of xs) n) are some.1 in
      takes-heard c part h s old new script after all stands heard (Some (Subscribes w)) (
        (λ m small g. (
          scope,
          is,
          kept ∙ ap (λ k. if keeps_any w then record script { named = with_made (sessions (deeds h)) s k w scope script.named } else script)
              (some-same _ _ (every m small (subst (λ xs. Gives s (map sent_of xs) m) (sym are) g))),
        )),
        (λ none. absurd (none n some.0 gives)),
      )

  -- the machine made none
  pub takes-unsubscribed : ((m : ℕ) → m < 2 ^ 48 → Gives s (map sent_of sent) m → (let none : Option ℕ = None in none ≡ Some m)) → after ≡ script
      → Takes c h s (Some (Subscribes w)) old script new after (HandedOn all) (Hears part)
  takes-unsubscribed every kept =
      takes-heard c part h s old new script after all stands heard (Some (Subscribes w)) (
        (λ m small g. absurd (none_some _ (every m small (subst (λ xs. Gives s (map sent_of xs) m) (sym are) g)))),
        (λ none. kept),
      )

-- ---- how many ids are left

pub lengths-same : (xs ys : List (List ℕ)) → length xs ≡ length ys → (length xs == length ys) ≡ true
lengths-same xs ys e = grind (arith, nat_tests, e)

pub lengths-apart : (xs ys : List (List ℕ)) → (length xs ≡ length ys → ⊥) → (length xs == length ys) ≡ false
lengths-apart xs ys apart = grind (arith, nat_tests, apart)

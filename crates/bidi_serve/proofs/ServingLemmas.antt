-- Sending texts on a link, and exchanges.
use Rattle.std.proofs.Common.{◌≡◌, ℕ, Bool, true, false, true≢false, not, List, [], ◌∷◌, ◌++◌, map, Option, Result}
use Rattle.std.proofs.Common.{Ok, Err, refl, sym, ◌∙◌, ap, subst, rules, tests, arith, suc, ◌<◌, ◌-◌}
use Rattle.std.specs.Prelude.{◌==◌, ◌&&◌, ◌||◌, if◌then◌else◌, is_ok, IfOk, IfErr, IsErr, IsErrAnd, OnOk}
use Rattle.std.specs.List.{list_any}
use Rattle.bidi_tree.specs.declared.number.JsUint.{JsUint}
use Rattle.bidi_sessions.specs.declared.step.Sent.{Sent}
use Rattle.bidi_sessions.specs.declared.step.Sent.TheVariants as in_hand
use Rattle.bidi_sessions.specs.View.{sent_of}
use Rattle.bidi_remote.specs.Machine.Sent as sent
use Rattle.bidi_remote.specs.Machine.Sent.{Text, text_on, texts_on}
use Rattle.bidi_socket.specs.declared.link.LinkFault.{LinkFault}
use Rattle.bidi_socket.specs.SocketSending.{QueuesText, SendsWaiting}
use Rattle.bidi_socket.specs.declared.link.Link.{Link}
use Rattle.bidi_serve.specs.Serving.{AreQueued, all, next, stop, AreSent, together, is_text_on}

module _ {S K : Type 0} (contents : S → Option (List ℕ)) where
  -- further texts are queued after the others
  pub queued-more : (l m n : Link S K) (xs ys : List (List ℕ)) (b w : Bool)
      → b ≡ true → AreQueued contents l xs m b → AreQueued contents m ys n w → AreQueued contents l (xs ++ ys) n w
  queued-more l m n xs ys b w whole (all _) rest = rest
  queued-more l m n xs ys b w whole (next _ k _ s ss _ joins more) rest = next l k n s (ss ++ ys) w joins (queued-more k m n ss ys b w whole more rest)
  queued-more l m n xs ys b w whole (stop _ _ s ss fault joins) rest = absurd (true≢false (sym whole))

  -- after one that could not be queued, no other is
  pub queued-stop : (l m : Link S K) (xs ys : List (List ℕ)) (b : Bool) → b ≡ false → AreQueued contents l xs m b → AreQueued contents l (xs ++ ys) m false
  queued-stop l m xs ys b stopped (all _) = absurd (true≢false stopped)
  queued-stop l m xs ys b stopped (next _ k _ s ss _ joins more) = next l k m s (ss ++ ys) false joins (queued-stop k m ss ys b stopped more)
  queued-stop l m xs ys b stopped (stop _ _ s ss fault joins) = stop l m s (ss ++ ys) fault joins

  -- a text for the connection joined, or could not
  pub queued-here : (l m : Link S K) (conn to : ℕ) (s : List ℕ) (r : Result (Unit {0}) LinkFault)
      → (conn == to) ≡ true → QueuesText contents s l m r → AreQueued contents l (text_on conn (Text to s)) m (is_ok r)
  queued-here l m conn to s (Ok tt) here joins =
      subst (λ xs. AreQueued contents l xs m true) (sym (ap (λ b. if b then s ∷ [] else []) here)) (next l m m s [] true joins (all m))
  queued-here l m conn to s (Err fault) here joins =
      subst (λ xs. AreQueued contents l xs m false) (sym (ap (λ b. if b then s ∷ [] else []) here)) (stop l m s [] fault joins)

  -- one for another connection does not
  pub queued-apart : (l : Link S K) (conn to : ℕ) (s : List ℕ) → (conn == to) ≡ false → AreQueued contents l (text_on conn (Text to s)) l true
  queued-apart l conn to s apart = subst (λ xs. AreQueued contents l xs l true) (sym (ap (λ b. if b then s ∷ [] else []) apart)) (all l)

  -- if there is a text, the queue is sent after the texts were queued
  pub sent-together : (l m n : Link S K) (ss : List (List ℕ)) (queued : Bool) (r : Result (Unit {0}) LinkFault)
      → (ss ≡ [] → ⊥) → AreQueued contents l ss m queued → SendsWaiting contents m n r → AreSent contents l ss n (queued && is_ok r)
  sent-together l m n [] queued r is joins sends = absurd (is refl)
  sent-together l m n (s ∷ ss) queued r is joins sends = together l m n s ss queued r joins sends

-- the connection is made if its number was not open before, but is after its opening
pub not-denied : (was is : Bool) → not (not was && is) ≡ (was || not is)
not-denied true is = refl
not-denied false is = refl

-- ---- numbers

pub same-number : (a b : ℕ) → a ≡ b → (a == b) ≡ true
same-number a b same = subst (λ x. (a == x) ≡ true) same (itself a)
  where
    itself : (n : ℕ) → (n == n) ≡ true
    itself n = search (rules, tests)

pub other-number : (a b : ℕ) → (a ≡ b → ⊥) → (a == b) ≡ false
other-number a b other = search (rules, tests, other)

-- ---- answers

-- a fact about an Ok, from what is known of it
pub gives : {T E : Type 0} {A B : T → Type 0} (r : Result T E) → IfOk r A → ((x : T) → A x → B x) → IfOk r B
gives (Ok x) a f = f x a
gives (Err e) a f = tt

pub fails : {T E : Type 0} {A B : E → Type 0} (r : Result T E) → IfErr r A → ((e : E) → A e → B e) → IfErr r B
fails (Ok x) a f = tt
fails (Err e) a f = f e a

-- a fact about the fault of a call holds of its result
pub by_fault : {T F : Type 0} (r : Result T F) (f : F) (P : F → Type 0) → IsErr r × IsErrAnd r (λ x. x ≡ f) → P f → IfErr r P
by_fault (Ok x) f P e p = tt
by_fault (Err x) f P e p = subst P (sym e.1) p

-- the number of exchanges that are left, if there is one
pub one-left : (n : ℕ) → 0 < n → n ≡ suc (n - 1)
one-left n some = omega (arith, some)

pub on_ok : {T E : Type 0} {A B : Type 0} (r : Result T E) → OnOk r A → (A → B) → OnOk r B
on_ok (Ok x) a f = f a
on_ok (Err e) a f = tt

-- a thing that is not a text goes to no connection
pub no-text : (c : ℕ) (x : Sent) → ((to : JsUint) (text : _) → x ≡ in_hand.Text to text → ⊥) → text_on c (sent_of x) ≡ []
no-text c (in_hand.Text to text) none = absurd (none to text refl)
no-text c (in_hand.Close d) none = refl
no-text c (in_hand.Opened d) none = refl
no-text c (in_hand.Denied d) none = refl
no-text c (in_hand.Lost d) none = refl
no-text c in_hand.NoEffect none = refl

-- a thing that is not a text is no text for a connection
pub not-text : (c : ℕ) (x : Sent) → ((to : JsUint) (text : _) → x ≡ in_hand.Text to text → ⊥) → is_text_on c (sent_of x) ≡ false
not-text c (in_hand.Text to text) none = absurd (none to text refl)
not-text c (in_hand.Close d) none = refl
not-text c (in_hand.Opened d) none = refl
not-text c (in_hand.Denied d) none = refl
not-text c (in_hand.Lost d) none = refl
not-text c in_hand.NoEffect none = refl

-- ---- whether there is a text for a connection

-- a list with something in front is not empty
pub cons-nil : (s : List ℕ) (ss : List (List ℕ)) → s ∷ ss ≡ [] → ⊥
cons-nil s ss e = cc

pub text-apart : (c : ℕ) (x : sent.Sent) → is_text_on c x ≡ false → text_on c x ≡ []
text-apart c (Text d s) apart = ap (λ b. if b then s ∷ [] else []) apart
text-apart c (sent.Close d) apart = refl
text-apart c (sent.Opened d) apart = refl
text-apart c (sent.Denied d) apart = refl
text-apart c (sent.Lost d) apart = refl
text-apart c sent.NoEffect apart = refl

pub text-here : (c : ℕ) (x : sent.Sent) (ss : List (List ℕ)) → is_text_on c x ≡ true → text_on c x ++ ss ≡ [] → ⊥
text-here c (Text d s) ss here none = cons-nil s ss (sym (ap (λ b. (if b then s ∷ [] else []) ++ ss) here) ∙ none)
text-here c (sent.Close d) ss here none = absurd (true≢false (sym here))
text-here c (sent.Opened d) ss here none = absurd (true≢false (sym here))
text-here c (sent.Denied d) ss here none = absurd (true≢false (sym here))
text-here c (sent.Lost d) ss here none = absurd (true≢false (sym here))
text-here c sent.NoEffect ss here none = absurd (true≢false (sym here))

pub tail-nil : (xs ys : List (List ℕ)) → xs ++ ys ≡ [] → ys ≡ []
tail-nil [] ys none = none
tail-nil (s ∷ xs) ys none = absurd (cons-nil s (xs ++ ys) none)

pub neither : (a b : Bool) → (a || b) ≡ false → (a ≡ false) × (b ≡ false)
neither true b apart = absurd (true≢false apart)
neither false b apart = (refl, apart)

pub either : {P : Type 0} (a b : Bool) → (a || b) ≡ true → (a ≡ true → P) → (b ≡ true → P) → P
either true b has f g = f refl
either false b has f g = g has

pub no-texts : (c : ℕ) (xs : List Sent) → list_any (λ x. is_text_on c (sent_of x)) xs ≡ false → texts_on c (map sent_of xs) ≡ []
no-texts c [] none = refl
no-texts c (x ∷ xs) none =
    let both = neither (is_text_on c (sent_of x)) (list_any (λ y. is_text_on c (sent_of y)) xs) none in
    ap (λ ss. ss ++ texts_on c (map sent_of xs)) (text-apart c (sent_of x) both.0) ∙ no-texts c xs both.1

pub some-texts : (c : ℕ) (xs : List Sent) → list_any (λ x. is_text_on c (sent_of x)) xs ≡ true → texts_on c (map sent_of xs) ≡ [] → ⊥
some-texts c [] has none = true≢false (sym has)
some-texts c (x ∷ xs) has none =
    either (is_text_on c (sent_of x)) (list_any (λ y. is_text_on c (sent_of y)) xs) has
    (λ here. text-here c (sent_of x) (texts_on c (map sent_of xs)) here none)
    (λ rest. some-texts c xs rest (tail-nil (text_on c (sent_of x)) (texts_on c (map sent_of xs)) none))

-- Which commands are quiet, by what they ask.
use Rattle.std.proofs.Common.{◌≡◌, ℕ, Bool, true, false, List, Option, Some, refl, sym, subst}
use Rattle.std.specs.Prelude.{codes, bytes_eq, if◌then◌else◌, unwrap_or}
use Rattle.std.specs.List.{list_any}
use Prim.Native.String.{String}
use Rattle.std.proofs.lemmas.Slice.Eq.{bytes_eq-Decides}
use Rattle.bidi_tree.specs.Node.{Node, null}
use Rattle.bidi_handles.specs.Params.{text_at, tree_if_at, texts_at, has_texts_at}
use Rattle.bidi_contexts.specs.Actions.{Activate, GetTree, GetRealms}
use Rattle.bidi_remote.specs.Machine.Commands.{Command, Status, Subscribe, UnsubscribeById, UnsubscribeByEvents, OfBrowser, command_in, command_of}
use Rattle.bidi_remote.specs.Strike.{quiet_methods, is_quiet}

-- what is asked leaves what others see as it was
abbrev pub asks_quietly : Option Command → Bool
asks_quietly (Some Status) = true
asks_quietly (Some (Subscribe names contexts users)) = true
asks_quietly (Some (UnsubscribeById ids)) = true
asks_quietly (Some (UnsubscribeByEvents names)) = true
asks_quietly (Some (OfBrowser (Activate id))) = true
asks_quietly (Some (OfBrowser (GetTree depth root))) = true
asks_quietly (Some (OfBrowser (GetRealms context type))) = true
asks_quietly asked = false

-- a method, by its name, and the case that it is another one
by_name : (P : List ℕ → Type 0) (name : String) (m : List ℕ) → P (codes name) → (bytes_eq (codes name) m ≡ false → P m) → P m
by_name P name m here other = at (bytes_eq (codes name) m) refl
  where
    at : (b : Bool) → bytes_eq (codes name) m ≡ b → P m
    at true e = subst P ((bytes_eq-Decides (codes name) m).0 e) here
    at false e = other e

-- an unsubscribe is quiet, whatever it names
unsubscribe-quiet : (b : Bool) (ids names : List (List ℕ)) → asks_quietly (Some (if b then UnsubscribeById ids else UnsubscribeByEvents names)) ≡ true
unsubscribe-quiet true ids names = refl
unsubscribe-quiet false ids names = refl

-- a method is among the quiet ones where what it asks is quiet
abbrev IsQuietAsAsked : Node → List ℕ → Type 0
IsQuietAsAsked params m = list_any (λ method. bytes_eq (codes method) m) quiet_methods ≡ asks_quietly (command_in m params)

method-quiet : (params : Node) (m : List ℕ) → IsQuietAsAsked params m
method-quiet params m =
    by_name (IsQuietAsAsked params) "session.status" m refl λ e1.
    by_name (IsQuietAsAsked params) "session.new" m refl λ e2.
    by_name (IsQuietAsAsked params) "session.end" m refl λ e3.
    by_name (IsQuietAsAsked params) "session.subscribe" m refl λ e4.
    by_name (IsQuietAsAsked params) "session.unsubscribe" m
    (sym (unsubscribe-quiet (has_texts_at "subscriptions" params) (texts_at "subscriptions" params) (texts_at "events" params))) λ e5.
    by_name (IsQuietAsAsked params) "browsingContext.activate" m refl λ e6.
    by_name (IsQuietAsAsked params) "browsingContext.close" m refl λ e7.
    by_name (IsQuietAsAsked params) "browsingContext.create" m refl λ e8.
    by_name (IsQuietAsAsked params) "browsingContext.getTree" m refl λ e9.
    by_name (IsQuietAsAsked params) "browsingContext.navigate" m refl λ e10.
    by_name (IsQuietAsAsked params) "browsingContext.reload" m refl λ e11.
    by_name (IsQuietAsAsked params) "browsingContext.traverseHistory" m refl λ e12.
    by_name (IsQuietAsAsked params) "script.evaluate" m refl λ e13.
    by_name (IsQuietAsAsked params) "script.callFunction" m refl λ e14.
    by_name (IsQuietAsAsked params) "script.disown" m refl λ e15.
    by_name (IsQuietAsAsked params) "script.getRealms" m refl λ e16.
    by_name (IsQuietAsAsked params) "browser.createUserContext" m refl λ e17.
    by_name (IsQuietAsAsked params) "browser.getUserContexts" m refl λ e18.
    by_name (IsQuietAsAsked params) "browser.removeUserContext" m refl λ e19.
    rw (e1, e2, e3, e4, e5, e6, e7, e8, e9, e10, e11, e12, e13, e14, e15, e16, e17, e18, e19) refl

-- so it is of a command
pub command-quiet : (t : Node) → is_quiet t ≡ asks_quietly (command_of t)
command-quiet t = method-quiet (unwrap_or (tree_if_at "params" t) null) (text_at "method" t)

-- What each act makes of what a browser stands for.
use Rattle.std.proofs.Common.{◌≡◌, ◌∙◌, ℕ, suc, List, ◌∷◌, map, true, false}
use Rattle.std.proofs.Common.{Ok, sym, ap, ap₂, subst}
use Rattle.std.specs.Prelude.{filter}
use Rattle.bidi_browser.specs.declared.browser.Browser.{Browser}
use Rattle.bidi_contexts.specs.Actions.{Action}
use Rattle.bidi_contexts.specs.Outcome.{outcome}
use Rattle.bidi_browser.specs.Plans.{leaves_tables}
use Rattle.bidi_browser.specs.declared.script_table.ScriptTable.{ScriptTable}
use Rattle.bidi_browser.specs.TableInHand.{AreTabled}
use Rattle.bidi_contexts.specs.Accepted.{AreAccepted}
use Rattle.bidi_contexts.specs.Tables.{AreUsersOf, IsTableOf}
use Rattle.bidi_browser.specs.Stands.{StandsFor}
use Rattle.bidi_contexts.specs.declared.users.Users.{Users}
use Rattle.bidi_contexts.specs.Acts.{Act, Tabled, Ran, Disowned, Logged, UserMade, UserRemoved, Looked, Ending, next_number, ScriptEffect as Said}
use Rattle.bidi_tree.specs.Node.{Node}
use Rattle.bidi_handles.specs.declared.id.IdKind.TheVariants.{Handle}
use Rattle.bidi_contexts.specs.declared.contexts.Contexts.{Contexts}
use Rattle.bidi_handles.specs.Ids.{has_id}
use Rattle.bidi_contexts.specs.Realms.{realm_of, value_of, handles_of}
use Rattle.bidi_contexts.specs.ContextRows.{changed, held_in, without_in}
use Rattle.bidi_contexts.proofs.HeldLemmas.{rows-ran, rows-disowned}
use Rattle.bidi_contexts.specs.Contexts.{is_alive}
use Rattle.bidi_contexts.specs.ContextRows.{row_of}

-- an act that leaves the tables as they are leaves what a browser stands for with it
pub kept-stands : (b : Browser) (past : List Act) (action : Action) (act : Act)
    → leaves_tables act ≡ true → outcome past action ≡ Ok act → StandsFor b past → StandsFor b (act ∷ past)
kept-stands b past action Looked leaves done s =
    record {
      contexts = record { rows = s.contexts.rows; accepted = (action, done, s.contexts.accepted) };
      users = record { live = s.users.live; next = s.users.next };
      next_context = s.next_context;
      next_realm = s.next_realm;
      next_navigation = s.next_navigation;
      next_handle = s.next_handle;
      table = record { rows = s.table.rows; count = s.table.count };
      next_window = s.next_window;
    }
kept-stands b past action (Logged c level line) leaves done s =
    record {
      contexts = record { rows = s.contexts.rows; accepted = (action, done, s.contexts.accepted) };
      users = record { live = s.users.live; next = s.users.next };
      next_context = s.next_context;
      next_realm = s.next_realm;
      next_navigation = s.next_navigation;
      next_handle = s.next_handle;
      table = record { rows = s.table.rows; count = s.table.count };
      next_window = s.next_window;
    }
kept-stands b past action (Ran r ending false) leaves done s =
    record {
      contexts = record { rows = s.contexts.rows; accepted = (action, done, s.contexts.accepted) };
      users = record { live = s.users.live; next = s.users.next };
      next_context = s.next_context;
      next_realm = s.next_realm;
      next_navigation = s.next_navigation;
      next_handle = s.next_handle;
      table = record { rows = s.table.rows; count = s.table.count };
      next_window = s.next_window;
    }
kept-stands b past action act leaves done s = absurd (cc)

-- so does a row that is set, with the table that has it
pub row-stands : (b : Browser) (table : ScriptTable) (past : List Act) (action : Action) (act : Act) (script : List ℕ) (row : Said)
    → act ≡ Tabled script row → outcome past action ≡ Ok act → AreTabled table (Tabled script row ∷ past) → StandsFor b past
    → StandsFor (record b { table = table }) (act ∷ past)
row-stands b table past action act script row is done tabled s =
    subst (λ a. StandsFor (record b { table = table }) (a ∷ past)) (sym is) (record {
      contexts = record { rows = s.contexts.rows; accepted = (action, done ∙ ap Ok is, s.contexts.accepted) };
      users = record { live = s.users.live; next = s.users.next };
      next_context = s.next_context;
      next_realm = s.next_realm;
      next_navigation = s.next_navigation;
      next_handle = s.next_handle;
      table = tabled;
      next_window = s.next_window;
    })

-- a browser whose contexts changed stands for the act that changed them
pub held-stands : (b : Browser) (contexts : Contexts) (n : ℕ) (past : List Act) (action : Action) (a : ℕ) (ending : Ending) (act : Act) (held : ℕ × Node)
    → act ≡ Ran (realm_of past a) ending true → is_alive past a ≡ true
    → held ≡ (next_number past Handle, value_of ending) → outcome past action ≡ Ok act → StandsFor b past
    → n ≡ suc (next_number past Handle) → map row_of contexts.live.items ≡ changed a (held_in held) (map row_of b.contexts.live.items)
    → StandsFor (record b { contexts = contexts; next_handle = n }) (act ∷ past)
held-stands b contexts n past action a ending act held is alive holds done s next rows =
    subst (λ x. StandsFor (record b { contexts = contexts; next_handle = n }) (x ∷ past)) (sym is) (record {
      contexts = record {
        rows = rows ∙ (ap₂ (λ h rs. changed a (held_in h) rs) holds s.contexts.rows ∙ sym (rows-ran past a ending s.contexts.accepted alive));
        accepted = (action, done ∙ ap Ok is, s.contexts.accepted);
      };
      users = record { live = s.users.live; next = s.users.next };
      next_context = s.next_context;
      next_realm = s.next_realm;
      next_navigation = s.next_navigation;
      next_handle = next;
      table = record { rows = s.table.rows; count = s.table.count };
      next_window = s.next_window;
    })

-- the same, where what is held is another by an equation
pub handle-stands : (b : Browser) (contexts : Contexts) (n : ℕ) (past : List Act) (action : Action) (a : ℕ) (ending : Ending) (act : Act)
    (held seen : ℕ × Node) → map row_of contexts.live.items ≡ changed a (held_in held) (map row_of b.contexts.live.items)
    → held ≡ seen → seen ≡ (next_number past Handle, value_of ending) → act ≡ Ran (realm_of past a) ending true
    → is_alive past a ≡ true → outcome past action ≡ Ok act → StandsFor b past → n ≡ suc (next_number past Handle)
    → StandsFor (record b { contexts = contexts; next_handle = n }) (act ∷ past)
handle-stands b contexts n past action a ending act held seen rows same holds is alive done s next =
    held-stands b contexts n past action a ending act held is alive (same ∙ holds) done s next rows

pub disowned-stands : (b : Browser) (contexts : Contexts) (past : List Act) (action : Action) (a : ℕ) (ids : List (List ℕ)) (act : Act) (numbers : List ℕ)
    → act ≡ Disowned (realm_of past a) ids → is_alive past a ≡ true
    → numbers ≡ map (λ h. h.0) (filter (λ h. has_id ids h.0) (handles_of past (realm_of past a))) → outcome past action ≡ Ok act → StandsFor b past
    → map row_of contexts.live.items ≡ changed a (without_in numbers) (map row_of b.contexts.live.items)
    → StandsFor (record b { contexts = contexts }) (act ∷ past)
disowned-stands b contexts past action a ids act numbers is alive gone done s rows =
    subst (λ x. StandsFor (record b { contexts = contexts }) (x ∷ past)) (sym is) (record {
      contexts = record {
        rows = rows ∙ (ap₂ (λ ns rs. changed a (without_in ns) rs) gone s.contexts.rows ∙ sym (rows-disowned past a ids s.contexts.accepted alive));
        accepted = (action, done ∙ ap Ok is, s.contexts.accepted);
      };
      users = record { live = s.users.live; next = s.users.next };
      next_context = s.next_context;
      next_realm = s.next_realm;
      next_navigation = s.next_navigation;
      next_handle = s.next_handle;
      table = record { rows = s.table.rows; count = s.table.count };
      next_window = s.next_window;
    })

-- ---- user contexts

-- one more
pub user-made-stands : (b : Browser) (users : Users) (past : List Act) (action : Action) (act : Act)
    → act ≡ UserMade → outcome past action ≡ Ok act → AreUsersOf users (UserMade ∷ past) → StandsFor b past
    → StandsFor (record b { users = users }) (act ∷ past)
user-made-stands b users past action act is done made s =
    subst (λ x. StandsFor (record b { users = users }) (x ∷ past)) (sym is) (record {
      contexts = record { rows = s.contexts.rows; accepted = (action, done ∙ ap Ok is, s.contexts.accepted) };
      users = made;
      next_context = s.next_context;
      next_realm = s.next_realm;
      next_navigation = s.next_navigation;
      next_handle = s.next_handle;
      table = record { rows = s.table.rows; count = s.table.count };
      next_window = s.next_window;
    })

-- one fewer, with all contexts in it
pub user-removed-stands : (b : Browser) (users : Users) (contexts : Contexts) (past : List Act) (action : Action) (act : Act) (u : ℕ)
    → act ≡ UserRemoved u → outcome past action ≡ Ok act → AreUsersOf users (UserRemoved u ∷ past)
    → (AreAccepted (UserRemoved u ∷ past) → IsTableOf contexts (UserRemoved u ∷ past)) → StandsFor b past
    → StandsFor (record b { users = users; contexts = contexts }) (act ∷ past)
user-removed-stands b users contexts past action act u is done removed left s =
    subst (λ x. StandsFor (record b { users = users; contexts = contexts }) (x ∷ past)) (sym is) (record {
      contexts = left (action, done ∙ ap Ok is, s.contexts.accepted);
      users = removed;
      next_context = s.next_context;
      next_realm = s.next_realm;
      next_navigation = s.next_navigation;
      next_handle = s.next_handle;
      table = record { rows = s.table.rows; count = s.table.count };
      next_window = s.next_window;
    })

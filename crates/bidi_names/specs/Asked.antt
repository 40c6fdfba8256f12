-- What commands ask of names that a test made known, and their texts without these names. This project's own.
use Rattle.std.specs.Prelude.{ℕ, ◌==◌, not, if◌then◌else◌, List, [], ◌∷◌, ◌++◌, map, length, filter, codes, decimal, bytes_eq, Option, Some, None, option_map, option_and_then}
use Rattle.json.specs.Json.{Json, string, array, Items, no_items, item}
use Rattle.json.specs.Find.{get, as_str, as_array}
use Rattle.json.specs.Value.{items_of}
use Rattle.bidi_rows.specs.Command.{Command, command_of}
use Rattle.bidi_rows.specs.Rows.{compact}
use Rattle.bidi_names.specs.Names.{is_foreign, is_module}

-- What a command asks with its names: its id, the names that only the test has, the others, those of them that are modules with further events
-- of the test, its text with the others alone if it has names that only the test has, and the ids of its scope, if it has one.
pub record Wanted : Type 0 where
  pub id : ℕ
  pub foreign : List (List ℕ)
  pub others : List (List ℕ)
  pub modules : List (List ℕ)
  pub part : Option (List ℕ)
  pub contexts : Option (List (List ℕ))
  pub users : Option (List (List ℕ))

-- A command subscribes to names, unsubscribes from them, or ends subscriptions by their ids.
pub data Asked : Type 0 where
  Subscribes : (wanted : Wanted) → Asked
  Unsubscribes : (wanted : Wanted) → Asked
  Ends : (id : ℕ) (ids : List (List ℕ)) → Asked

-- ---- the names

-- a string in front of others, if all are strings
abbrev pub with_string : Option (List ℕ) → Option (List (List ℕ)) → Option (List (List ℕ))
with_string (Some s) (Some ss) = Some (s ∷ ss)
with_string s ss = None

-- the strings that these values are, if each is one
abbrev pub strings_of : Items → Option (List (List ℕ))
strings_of no_items = Some []
strings_of (item j js) = with_string (as_str j) (strings_of js)

-- the strings that a value lists, if it is an array of strings
abbrev pub listed : Json → Option (List (List ℕ))
listed j = option_and_then strings_of (as_array j)

-- the ids of a part of a scope, which may be missing; it is an array of strings
abbrev pub ids_of : Option Json → Option (Option (List (List ℕ)))
ids_of None = Some None
ids_of (Some j) = option_map Some (listed j)

-- some ids, if there are any
abbrev pub some_ids : List (List ℕ) → Option (List (List ℕ))
some_ids ids = if length ids == 0 then None else Some ids

-- ---- the text without names that only the test has

-- the JSON text of an array of strings
abbrev pub strings_text : List (List ℕ) → List ℕ
strings_text texts = compact (array (items_of (map string texts)))

-- a property of this name that lists ids, behind a comma; nothing if there are none
abbrev pub ids_text : List ℕ → Option (List (List ℕ)) → List ℕ
ids_text name None = []
ids_text name (Some ids) = codes ",\"" ++ (name ++ (codes "\":" ++ strings_text ids))

-- the text of a command with these names in this scope
-- example: `{"id":1,"method":"session.subscribe","params":{"events":["log"]}}`
abbrev pub names_text : ℕ → List ℕ → List (List ℕ) → Option (List (List ℕ)) → Option (List (List ℕ)) → List ℕ
names_text id method names contexts users =
    codes "{\"id\":" ++ (decimal id ++ (codes ",\"method\":\"" ++ (method ++ (codes "\",\"params\":{\"events\":" ++ (strings_text names
    ++ (ids_text (codes "contexts") contexts ++ (ids_text (codes "userContexts") users ++ codes "}}")))))))

-- the text of a command with the other names alone, if only the test has some of its names
abbrev pub text_without : ℕ → List ℕ → List (List ℕ) → List (List ℕ) → Option (List (List ℕ)) → Option (List (List ℕ)) → Option (List ℕ)
text_without id method foreign others contexts users = if length foreign == 0 then None else Some (names_text id method others contexts users)

-- the text of a command that ends the subscriptions of these ids
-- example: `{"id":1,"method":"session.unsubscribe","params":{"subscriptions":["u"]}}`
abbrev pub ending_text : ℕ → List (List ℕ) → List ℕ
ending_text id ids =
    codes "{\"id\":" ++ (decimal id ++ (codes ",\"method\":\"session.unsubscribe\",\"params\":{\"subscriptions\":" ++ (strings_text ids ++ codes "}}")))

-- ---- what is asked

-- what a command asks with these names in this scope
abbrev pub wanted_of_names : List (List ℕ) → Command → List (List ℕ) → Option (List (List ℕ)) → Option (List (List ℕ)) → Wanted
wanted_of_names known command names contexts users =
    let others = filter (λ n. not (is_foreign known n)) names in
    record {
      id = command.id;
      foreign = filter (is_foreign known) names;
      others = others;
      modules = filter (is_module known) others;
      part = text_without command.id command.method (filter (is_foreign known) names) others contexts users;
      contexts = contexts;
      users = users;
    }

-- what a command asks with these names in this scope, if it has names and the scope is one
abbrev pub wanted_with : List (List ℕ) → Command → Option (List (List ℕ)) → Option (Option (List (List ℕ))) → Option (Option (List (List ℕ))) → Option Wanted
wanted_with known command (Some names) (Some contexts) (Some users) = Some (wanted_of_names known command names contexts users)
wanted_with known command names contexts users = None

-- what a command with these params asks with the names that it lists in its scope
abbrev pub wanted : List (List ℕ) → Command → Json → Option Wanted
wanted known command params =
    wanted_with known command (option_and_then listed (get (codes "events") params)) (ids_of (get (codes "contexts") params))
    (ids_of (get (codes "userContexts") params))

-- what a command with these params asks with the names that it lists, whatever its scope
abbrev pub wanted_anywhere : List (List ℕ) → Command → Json → Option Wanted
wanted_anywhere known command params = wanted_with known command (option_and_then listed (get (codes "events") params)) (Some None) (Some None)

-- what a command to unsubscribe asks, with the subscriptions that it lists, if it lists any
abbrev pub ended_or : ℕ → Option (List (List ℕ)) → Option Wanted → Option Asked
ended_or id (Some ids) asked = Some (Ends id ids)
ended_or id None asked = option_map Unsubscribes asked

-- the subscriptions that these params list, if they list any
abbrev pub ids_listed : Json → Option (List (List ℕ))
ids_listed params = option_and_then some_ids (option_and_then listed (get (codes "subscriptions") params))

-- what a command with these params asks
abbrev pub asked_with : List (List ℕ) → Command → Json → Option Asked
asked_with known command params =
    if bytes_eq command.method (codes "session.subscribe") then option_map Subscribes (wanted known command params)
    else if bytes_eq command.method (codes "session.unsubscribe") then ended_or command.id (ids_listed params) (wanted_anywhere known command params)
    else None

-- what a command asks
abbrev pub asked_by : List (List ℕ) → Command → Option Asked
asked_by known command = option_and_then (asked_with known command) command.params

-- what a message asks
abbrev pub asked_of : List (List ℕ) → List ℕ → Option Asked
asked_of known text = option_and_then (asked_by known) (command_of text)

-- What contracts see of what a command asks of names.
use Rattle.std.specs.Prelude.{ℕ, List, map, Vec, String, Option, option_map, string_bytes}
use Rattle.std.specs.declared.alloc.Global.{Global}
use Rattle.bidi_names.specs.declared.asking.NamesWanted as declared_wanted
use Rattle.bidi_names.specs.declared.asking.IdsWanted as declared_ids
use Rattle.bidi_names.specs.declared.asking.NamesAsked as declared_asked
use Rattle.bidi_names.specs.declared.asking.NamesAsked.TheVariants as asked_code
use Rattle.bidi_names.specs.Asked.{Wanted, Asked, Subscribes, Unsubscribes, Ends}

-- the bytes of texts
abbrev pub texts_of : List (String Global) → List (List ℕ)
texts_of texts = map string_bytes texts

-- the bytes of ids, if there are any
abbrev pub ids_seen : Option (Vec (String Global) Global) → Option (List (List ℕ))
ids_seen ids = option_map (λ v. texts_of v.items) ids

-- what a command asks with its names, with the bytes of its texts
abbrev pub wanted_of : declared_wanted.NamesWanted → Wanted
wanted_of n = record {
  id = n.id.value;
  foreign = texts_of n.foreign.items;
  others = texts_of n.others.items;
  modules = texts_of n.modules.items;
  part = option_map string_bytes n.part;
  contexts = ids_seen n.contexts;
  users = ids_seen n.users;
}

-- what a command asks with some ids, with their bytes
abbrev pub ends_of : declared_ids.IdsWanted → Asked
ends_of n = Ends n.id.value (texts_of n.ids.items)

-- what a command asks of names, with the bytes of its texts
abbrev pub asked_seen : declared_asked.NamesAsked → Asked
asked_seen (asked_code.Subscribe wanted) = Subscribes (wanted_of wanted)
asked_seen (asked_code.Unsubscribe wanted) = Unsubscribes (wanted_of wanted)
asked_seen (asked_code.End ids) = ends_of ids

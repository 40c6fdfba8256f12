-- What contracts see of a script in the code.
use Rattle.std.specs.Prelude.{map, string_bytes}
use Rattle.bidi_scripted.specs.declared.script.HeldCommand as declared_held
use Rattle.bidi_scripted.specs.declared.script.Script as declared_script
use Rattle.bidi_scripted.specs.declared.script.Follower as declared_follower
use Rattle.bidi_rows.specs.View.{row_of}
use Rattle.bidi_rows.specs.Filling.{template_of}
use Rattle.bidi_names.specs.Subscriptions.{named_of}
use Rattle.bidi_scripted.specs.Script.{Held, Follower, Script}

-- the held command, with the bytes of its text
abbrev pub held_of : declared_held.HeldCommand → Held
held_of h = record { number = h.number; conn = h.conn.value; id = h.id.value; text = string_bytes h.text; is_lost = h.is_lost }

-- the events that follow others, with the bytes of their texts
abbrev pub follower_of : declared_follower.Follower → Follower
follower_of f = record { method = string_bytes f.method; events = map template_of f.events.items; bytes = f.bytes }

-- the script, with its rows and held commands
abbrev pub script_of : declared_script.Script → Script
script_of s = record {
  rows = map row_of s.rows.all.items;
  held = map held_of s.held.items;
  next = s.next;
  followers = map follower_of s.followers.items;
  known = map string_bytes s.known.items;
  named = map named_of s.named.items;
  made = s.made;
}

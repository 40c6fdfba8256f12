-- The members that every log entry has, and the map that a generic one is of its parts. After WebDriver BiDi, "The log.LogEntry Type".
use Rattle.std.specs.Prelude.{option_map, pos, String, string_bytes, codes}
use Rattle.std.proofs.Common.{Global}
use Rattle.bidi_tree.specs.Node as tree
use Rattle.bidi_tree.specs.Node.{Node, Members, no_members, put}
use Rattle.bidi_tree.specs.declared.number.JsUint.{JsUint}
use Rattle.bidi_shape.specs.Parts.{put_part}
use Rattle.bidi_shape.specs.ChoiceLaws.{nullable_tree}
use Rattle.bidi_shape.specs.ListLaws.{list_tree}
use Rattle.bidi_shape.specs.Table.{Table}
use Rattle.bidi_scripts.specs.Level.{level_text}
use Rattle.bidi_scripts.specs.declared.log_entry.Source.{Source}
use Rattle.bidi_scripts.specs.declared.log_entry.BaseLogEntry.{BaseLogEntry}
use Rattle.bidi_scripts.specs.declared.stack_trace.StackFrame.{StackFrame}
use Rattle.bidi_scripts.specs.declared.stack_trace.StackTrace.{StackTrace}

-- ---- trees of parts

-- the tree of a string
abbrev pub text_tree : String Global → Node
text_tree s = tree.text (string_bytes s)

-- the tree of a number
abbrev pub uint_tree : JsUint → Node
uint_tree n = tree.whole (pos n.value)

-- the tree of a source: `{ realm: .., ? context: .. }`
abbrev pub source_tree : Source → Node
source_tree s = tree.map (put (codes "realm") (text_tree s.realm) (put_part (codes "context") (option_map text_tree s.context) no_members))

-- the tree of a stack frame: `{ columnNumber: .., functionName: .., lineNumber: .., url: .. }`
abbrev pub frame_tree : StackFrame → Node
frame_tree f =
    tree.map (put (codes "columnNumber") (uint_tree f.column_number)
    (put (codes "functionName") (text_tree f.function_name)
    (put (codes "lineNumber") (uint_tree f.line_number)
    (put (codes "url") (text_tree f.url) no_members))))

-- the tree of a stack trace: `{ callFrames: [..] }`
abbrev pub trace_tree : StackTrace → Node
trace_tree t = tree.map (put (codes "callFrames") (list_tree frame_tree t.call_frames.items) no_members)

-- ---- the members that every entry has

-- the members that every entry has, and others: `level: .., source: .., text: .., timestamp: .., ? stackTrace: ..`
abbrev pub and_base : BaseLogEntry → Members → Members
and_base b others =
    put (codes "level") (tree.text (level_text b.level))
    (put (codes "source") (source_tree b.source)
    (put (codes "text") (nullable_tree text_tree b.text)
    (put (codes "timestamp") (uint_tree b.timestamp)
    (put_part (codes "stackTrace") (option_map trace_tree b.stack_trace) others))))

-- the map of a `GenericLogEntry` with these parts: `{ Base, type: .., .. }`
abbrev pub generic_map : BaseLogEntry → String Global → Members → Node
generic_map base kind ext = tree.map (and_base base (put (codes "type") (text_tree kind) ext))

-- ---- lists of members under a type of their own

-- the table of a type whose values are those of another table under a name of their own
abbrev pub table_through : {G F : Type 0} → Table F → (G → F) → Table G
table_through t m = record {
  rows = t.rows;
  openness = t.openness;
  parts = λ ws g. t.parts ws (m g);
  others = λ g. t.others (m g);
  well = λ g. t.well (m g);
  same = λ g h. t.same (m g) (m h);
  parts_fit = λ ks ws g w. t.parts_fit ks ws (m g) w;
  one = λ ws g h a b e o. t.one ws (m g) (m h) a b e o;
  deepest = t.deepest;
  whole = λ ws g w. t.whole ws (m g) w;
}

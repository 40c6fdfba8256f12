-- The members of an accepted command: its id, its method and its params. After WebDriver BiDi, "Protocol".
use Rattle.std.specs.Prelude.{ℕ, List, [], option_and_then, unwrap_or, codes}
use Rattle.bidi_tree.specs.Node.{Node, null, get_of}
use Rattle.bidi_tree.specs.Kind.{text_in}
use Rattle.bidi_messages.specs.Verdict.{echoed_id}

-- the member `id` of a command, which is a js-uint
abbrev pub id_in : Node → ℕ
id_in t = unwrap_or (echoed_id t) 0

-- the member `method` of a command, which is a string
abbrev pub method_in : Node → List ℕ
method_in t = unwrap_or (option_and_then text_in (get_of (codes "method") t)) []

-- the member `params` of a command
abbrev pub params_in : Node → Node
params_in t = unwrap_or (get_of (codes "params") t) null

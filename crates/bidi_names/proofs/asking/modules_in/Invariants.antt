use Rattle.std.proofs.Common.{◌≡◌, ◌++◌, drop}
use Rattle.std.specs.Prelude.{filter}
use Rattle.bidi_names.specs.Names.{is_module}
use Rattle.bidi_names.specs.View.{texts_of}
use Rattle.bidi_names.proofs.asking.modules_in.Given as goal

-- what is left is added to what was found
abbrev pub invariant-loop-name : goal.invariant-loop-name
invariant-loop-name l = filter (is_module (texts_of l.known)) (texts_of l.names)
    ≡ texts_of l.modules.items ++ filter (is_module (texts_of l.known)) (texts_of (drop l.name-index l.names))

use Rattle.std.proofs.Common.{◌≡◌, ◌++◌, drop}
use Rattle.std.specs.Prelude.{not, filter}
use Rattle.bidi_names.specs.Names.{is_foreign}
use Rattle.bidi_names.specs.View.{texts_of}
use Rattle.bidi_names.proofs.asking.part_names.Given as goal

-- what is left is added to what was parted
abbrev pub invariant-loop-name : goal.invariant-loop-name
invariant-loop-name l = record {
  foreign : filter (is_foreign (texts_of l.known)) (texts_of l.names)
      ≡ texts_of l.foreign.items ++ filter (is_foreign (texts_of l.known)) (texts_of (drop l.name-index l.names));
  others : filter (λ n. not (is_foreign (texts_of l.known) n)) (texts_of l.names)
      ≡ texts_of l.others.items ++ filter (λ n. not (is_foreign (texts_of l.known) n)) (texts_of (drop l.name-index l.names));
}

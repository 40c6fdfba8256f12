use Rattle.std.proofs.Common.{sym, subst}
use Rattle.bidi_tree.specs.Node.{IsSound, IsWritable}
use Rattle.bidi_tree.proofs.OutlineLemmas.{IsSound-outline_node}
use Rattle.bidi_scripts.specs.contracts.log_entry.LogEntryShape.TheImpl as logged
use Rattle.bidi_messages.proofs.StraightLemmas.{if-ok}
use Rattle.bidi_messages.proofs.straight_entry.append_entry.Goals as goal

pub append_console-requires-clause-writable : goal.append_console-requires-clause-writable
append_console-requires-clause-writable c = subst (λ e. IsWritable (logged.ghosts.shape.tree_of e)) c.in-Console.is c.requires

pub returns-in-Console-clause-text : goal.returns-in-Console-clause-text
returns-in-Console-clause-text c = rw c.in-Console.is c.append_console.ensures.text

pub returns-in-Console-clause-sound : goal.returns-in-Console-clause-sound
returns-in-Console-clause-sound c = rw c.in-Console.is c.append_console.ensures.sound

pub append_outline-requires : goal.append_outline-requires
append_outline-requires c = subst IsWritable (sym c.in_ok-outline-in_default.ensures) c.requires

pub returns-in_ok-outline-in_default-clause-sound : goal.returns-in_ok-outline-in_default-clause-sound
returns-in_ok-outline-in_default-clause-sound c =
    if-ok c.append_outline.result (subst IsSound c.in_ok-outline-in_default.ensures (IsSound-outline_node c.in_ok-outline-in_default.outline))

-- A command that is sent is valid, so its text can be made.
use Rattle.std.proofs.Common.{◌≡◌, ◌∙◌, ◌≤◌, ℕ, List, length, Some, refl, sym, ap, subst, zero-le}
use Rattle.std.proofs.lemmas.Bool.{le-leb}
use Rattle.bidi_tree.specs.Text.{tree_of}
use Rattle.bidi_tree.specs.Node.{Node, Members, no_members, MembersAreWhole}
use Rattle.bidi_tree.specs.declared.number.JsUint.{JsUint}
use Rattle.bidi_shape.specs.Name as rules
use Rattle.bidi_shape.specs.Term.{Rows, extensible, names_of, rule}
use Rattle.bidi_shape.specs.Fits.{Fits, without}
use Rattle.bidi_shape.specs.Table.{TableWell}
use Rattle.bidi_shape.specs.ValueLaws.{others_of}
use Rattle.bidi_shape.specs.declared.ext.Ext.{Ext}
use Rattle.bidi_methods.specs.declared.command_data.CommandData.{CommandData}
use Rattle.bidi_methods.specs.contracts.command_data.CommandDataPayloadMethod.TheImpl as asks
use Rattle.bidi_messages.specs.contracts.command.CommandShape.TheImpl as command
use Rattle.bidi_messages.specs.Verdict.{IsVerdict, is_command, Accepted}
use Rattle.bidi_local.specs.Pending.{command_tree}

-- there are no members except those of the rule
none_beside : (rs : Rows) (ms : Members) → ms ≡ no_members → TableWell rs extensible ms
none_beside rs ms none = record { no_known = ap (without (names_of rs)) none ∙ sym none; may = subst (λ x. MembersAreWhole x 60) (sym none) (refl, zero-le) }

pub command_well : (id : JsUint) (d : CommandData) (e : Ext)
    → asks.ghosts.payload.well d → others_of e ≡ no_members → command.ghosts.shape.well (record { id = id; «data» = d; ext = e })
command_well id d e well none = record { head = tt; payload = well; others = none_beside _ (others_of e) none }

-- its tree
pub command-tree : (id : JsUint) (d : CommandData) (e : Ext) → others_of e ≡ no_members
    → command.ghosts.shape.tree_of (record { id = id; «data» = d; ext = e })
    ≡ command_tree id.value (asks.ghosts.payload.kind d) (asks.ghosts.payload.tree_of d)
command-tree id d e none = rw none refl

pub command_fits : (id : JsUint) (d : CommandData) (e : Ext) → asks.ghosts.payload.well d → others_of e ≡ no_members
    → Fits (command_tree id.value (asks.ghosts.payload.kind d) (asks.ghosts.payload.tree_of d)) (rule rules.command)
command_fits id d e well none =
    subst (λ t. Fits t (rule rules.command)) (command-tree id d e none)
    (command.ghosts.shape.fits (record { id = id; «data» = d; ext = e }) (command_well id d e well none))

-- a text within the limit is accepted as the command that it reads as
pub text_accepted : (s : List ℕ) (t : Node) → length s ≤ 1048576 → tree_of s ≡ Some t → Fits t (rule rules.command) → IsVerdict s (Accepted t)
text_accepted s t short reads fit = is_command t (rw (le-leb (length s) 1048576 short) reads) fit

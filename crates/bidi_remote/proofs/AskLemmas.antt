-- What the tree of a command in hand asks.
use Rattle.std.proofs.Common.{◌≡◌, ◌∙◌, pos, Some, unwrap_or, option_map, option_and_then, refl, ap, ap₂}
use Rattle.std.specs.Prelude.{codes}
use Rattle.bidi_shape.specs.ValueLaws.{others_of}
use Rattle.bidi_tree.specs.Node.{Node, whole, text, put}
use Rattle.bidi_tree.specs.Kind.{whole_in}
use Rattle.bidi_tree.proofs.MemberLemmas.{get_member-put}
use Rattle.bidi_params.specs.contracts.session.capabilities.NewParametersShape.TheImpl as params
use Rattle.bidi_methods.specs.Method.{method_text}
use Rattle.bidi_methods.specs.CommandData.{method_of}
use Rattle.bidi_messages.specs.contracts.command.CommandShape.TheImpl.{ghosts}
use Rattle.bidi_methods.specs.contracts.command_data.CommandDataPayloadMethod.TheImpl as asks
use Rattle.bidi_messages.specs.declared.command.Command as declared_command
use Rattle.bidi_methods.specs.declared.command_data.CommandData.{CommandData}
use Rattle.bidi_methods.specs.declared.command_data.CommandData.TheVariants.{Session, Browser}
use Rattle.bidi_methods.specs.declared.command_data.SessionCommand.TheVariants as session
use Rattle.bidi_messages.proofs.CommandLemmas.{method_in-tree, params_in-tree}
use Rattle.bidi_handles.specs.Params.{natural}
use Rattle.bidi_remote.specs.Machine.Commands.{command_in, id_of_command}
use Rattle.bidi_remote.specs.State.Asked.{asked_of, IsWellAsked, Asks}
use Rattle.bidi_remote.proofs.SubscribeAskLemmas.{subscribe-asks, unsubscribe-asks}
use Rattle.bidi_remote.proofs.BrowserAskLemmas.{browser-asks}

-- the tree of a command
abbrev pub tree_of : declared_command.Command → Node
tree_of c = ghosts.shape.tree_of c

-- a method and its params ask what a command in hand asks
what : (d : CommandData) → asks.ghosts.payload.well d
    → command_in (method_text (method_of d)) (asks.ghosts.payload.tree_of d) ≡ Some (asked_of params.ghosts.shape d)
what (Session (session.Status p)) w = refl
what (Session (session.New p)) w = refl
what (Session (session.End p)) w = refl
what (Session (session.Subscribe p)) w = subscribe-asks p.value w
what (Session (session.Unsubscribe p)) w = unsubscribe-asks p w
what (Browser command) w = browser-asks command w

-- its id
id_of_command-tree : (c : declared_command.Command) → id_of_command (tree_of c) ≡ c.id.value
id_of_command-tree c = ap (λ o. unwrap_or (option_map natural (option_and_then whole_in o)) 0) (get_member-put (codes "id") (whole (pos c.id.value))
    (put (codes "method") (text (method_text (method_of c.«data»))) (put (codes "params") (asks.ghosts.payload.tree_of c.«data») (others_of c.ext))))

-- the tree of a well command in hand asks what it asks
pub asks-tree : (c : declared_command.Command) → ghosts.shape.well c → Asks (tree_of c) c.id.value (asked_of params.ghosts.shape c.«data»)
asks-tree c w = record { same_id = id_of_command-tree c; what = ap₂ command_in (method_in-tree c) (params_in-tree c) ∙ what c.«data» w.payload }

well_asked : (d : CommandData) → asks.ghosts.payload.well d → IsWellAsked params.ghosts.shape d
well_asked (Session (session.New p)) w = w
well_asked (Session (session.Status p)) w = tt
well_asked (Session (session.End p)) w = tt
well_asked (Session (session.Subscribe p)) w = tt
well_asked (Session (session.Unsubscribe p)) w = tt
well_asked (Browser command) w = tt

-- what a well command asks is well
pub well-asked : (c : declared_command.Command) → ghosts.shape.well c → IsWellAsked params.ghosts.shape c.«data»
well-asked c w = well_asked c.«data» w.payload

-- The payloads of commands, results and events, as contracts see them. After WebDriver BiDi, "Protocol".
use Rattle.bidi_tree.specs.Node.{Node}
use Rattle.bidi_methods.specs.declared.method.Method.{Method}
use Rattle.bidi_methods.specs.declared.command_data.CommandData.{CommandData}
use Rattle.bidi_methods.specs.declared.result_data.ResultData.{ResultData}
use Rattle.bidi_methods.specs.declared.event_data.EventData.{EventData}
use Rattle.bidi_methods.specs.declared.event_data.EventName.{EventName}
use Rattle.bidi_methods.specs.contracts.command_data.CommandDataPayloadMethod.TheImpl as commands
use Rattle.bidi_methods.specs.contracts.result_data.ResultDataPayloadMethod.TheImpl as results
use Rattle.bidi_methods.specs.contracts.event_data.EventDataPayloadEventName.TheImpl as events

-- the method of a command
abbrev pub command_method : CommandData → Method
command_method d = commands.ghosts.payload.kind d

-- the tree of a command's params
abbrev pub params_tree : CommandData → Node
params_tree d = commands.ghosts.payload.tree_of d

-- the params of the command are valid
abbrev pub CommandIsWell : CommandData → Type 0
CommandIsWell d = commands.ghosts.payload.well d

-- the method of the command that a result answers
abbrev pub result_method : ResultData → Method
result_method r = results.ghosts.payload.kind r

-- the tree of a result
abbrev pub result_tree : ResultData → Node
result_tree r = results.ghosts.payload.tree_of r

-- the result is valid
abbrev pub ResultIsWell : ResultData → Type 0
ResultIsWell r = results.ghosts.payload.well r

-- the name of an event
abbrev pub event_of : EventData → EventName
event_of d = events.ghosts.payload.kind d

-- the tree of an event's params
abbrev pub event_params : EventData → Node
event_params d = events.ghosts.payload.tree_of d

-- the params of the event are valid
abbrev pub EventIsWell : EventData → Type 0
EventIsWell d = events.ghosts.payload.well d

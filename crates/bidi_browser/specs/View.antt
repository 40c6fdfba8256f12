-- What contracts see of the results that the code has: the method, and the tree.
use Rattle.std.specs.Prelude.{unwrap_or, string_bytes}
use Rattle.bidi_tree.specs.Node.{Node, null}
use Rattle.bidi_tree.specs.Text.{tree_of}
use Rattle.bidi_methods.specs.declared.method.Method.{Method}
use Rattle.bidi_methods.specs.declared.result_data.ResultData.{ResultData}
use Rattle.bidi_methods.specs.contracts.result_data.ResultDataPayloadMethod.TheImpl as results
use Rattle.bidi_browser.specs.declared.command_result.CommandResult.{CommandResult}
use Rattle.bidi_browser.specs.declared.command_result.CommandResult.TheVariants.{Data, Text}
use Rattle.bidi_browser.specs.declared.command_result.ResultText.{ResultText}

-- The tree of a result that is there as data.
abbrev pub data_tree : ResultData → Node
data_tree r = results.ghosts.payload.tree_of r

-- The tree of a result that is there as its text: the one that the text reads back as.
abbrev pub text_tree : ResultText → Node
text_tree r = unwrap_or (tree_of (string_bytes r.text)) null

-- The method of the result.
abbrev pub result_method : CommandResult → Method
result_method (Data r) = results.ghosts.payload.kind r
result_method (Text r) = r.method

-- The tree of the result.
abbrev pub result_tree : CommandResult → Node
result_tree (Data r) = data_tree r
result_tree (Text r) = text_tree r

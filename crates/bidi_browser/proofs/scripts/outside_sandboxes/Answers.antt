use Rattle.std.proofs.Common.{◌≡◌, true, [], rules}
use Rattle.std.specs.Prelude.{bytes_eq, option_map, string_bytes, unwrap_or}
use Rattle.std.proofs.lemmas.Bool.Decides.{nat_tests}
use Rattle.bidi_browser.proofs.ScriptLemmas.{context-targeted}
use Rattle.bidi_browser.proofs.scripts.outside_sandboxes.Goals as goal

pub returns : goal.returns
returns c = λ past table.
    let found = c.in_ok-context.ensures past table in
    let sandbox = unwrap_or (option_map string_bytes c.args.sandbox.now) [] in
    let empty : bytes_eq sandbox [] ≡ true = let none = c.if-is_named.false in let same = c.is_named.ensures in grind (rules, nat_tests, none, same) in
    let here = context-targeted past c.args.id.now sandbox found.0 found.1 empty in
    (found.0, here.0, here.1, found.2)

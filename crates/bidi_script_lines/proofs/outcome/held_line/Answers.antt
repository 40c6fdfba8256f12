use Rattle.std.proofs.Common.{◌≡◌, ◌∷◌, ◌++◌, string_bytes, subst}
use Rattle.std.specs.Prelude.{codes, decimal, IfOk}
use Rattle.bidi_script_lines.proofs.outcome.held_line.Goals as goal

pub returns : goal.returns
returns c =
    let command = c.args.command.now in
    subst (λ text. IfOk c.format.result (λ line. string_bytes line ≡ codes "held " ++ (decimal command.number ++ 32 ∷ (decimal command.conn.value ++ 32 ∷ text))))
    c.as_str-text.ensures.value c.format.ensures.ok

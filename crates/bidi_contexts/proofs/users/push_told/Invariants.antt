use Rattle.std.proofs.Common.{◌≡◌, ◌++◌, ◌∷◌, take, string_bytes}
use Rattle.std.specs.Prelude.{flat_map}
use Rattle.bidi_tree.specs.Text.{compact_text}
use Rattle.bidi_contexts.specs.Users.{user_info}
use Rattle.bidi_contexts.proofs.users.push_told.Given as goal

abbrev pub invariant-loop-user : goal.invariant-loop-user
invariant-loop-user l =
    string_bytes l.text ≡ string_bytes l.initial.text ++ flat_map (λ u. 44 ∷ compact_text (user_info u.number)) (take l.user-index l.users)

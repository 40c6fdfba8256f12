-- The results of the session commands. After WebDriver BiDi, "The session Module".
use Rattle.std.specs.Prelude.{ℕ}
use Rattle.bidi_tree.specs.Node.{Node, text, no_members}
use Rattle.bidi_handles.specs.declared.id.IdKind.TheVariants.{Subscription}
use Rattle.bidi_handles.specs.Ids.{id_text}
use Rattle.bidi_handles.specs.Maps.{◌being◌and◌, mapped}

-- the result of a subscribe, with the id of the subscription of this number
abbrev pub subscription_tree : ℕ → ℕ → Node
subscription_tree s n = mapped ("subscription" being text (id_text Subscription s n) and no_members)

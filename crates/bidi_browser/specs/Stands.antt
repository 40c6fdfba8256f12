-- The past that a browser stands for.
use Rattle.std.specs.Prelude.{◌≡◌, List}
use Rattle.bidi_handles.specs.declared.id.IdKind.TheVariants.{Context, Realm, Navigation, Handle, Window}
use Rattle.bidi_contexts.specs.Acts.{Act, next_number}
use Rattle.bidi_contexts.specs.Tables.{AreUsersOf, IsTableOf}
use Rattle.bidi_browser.specs.declared.browser.Browser.{Browser}
use Rattle.bidi_browser.specs.TableInHand.{AreTabled}

-- The tables stand for the past, and the next numbers are those that the past gives.
pub record StandsFor (browser : Browser) (past : List Act) : Type 0 where
  pub contexts : IsTableOf browser.contexts past
  pub users : AreUsersOf browser.users past
  pub next_context : browser.next_context ≡ next_number past Context
  pub next_realm : browser.next_realm ≡ next_number past Realm
  pub next_navigation : browser.next_navigation ≡ next_number past Navigation
  pub next_handle : browser.next_handle ≡ next_number past Handle
  pub table : AreTabled browser.table past
  pub next_window : browser.next_window ≡ next_number past Window

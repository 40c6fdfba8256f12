-- What a fact unfolds to compute the browser's definitions on literals.
use Rattle.std.specs.Prelude.{⊤}
use Rattle.std.specs.Fmt.{digits}
use Rattle.json.specs.Print.{escape_byte}
use Rattle.uuid.specs.Text.{by_index}
use Rattle.url.proofs.OnLiterals.{url_on_literals}

unfoldable pub browser_on_literals : ⊤
unfolding digits escape_byte by_index url_on_literals
browser_on_literals = tt

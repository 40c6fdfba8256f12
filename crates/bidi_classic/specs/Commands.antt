-- The commands that calls stand for. After W3C WebDriver, "New Session", and WebDriver BiDi, "The session.new Command".
use Rattle.std.specs.Prelude.{◌≡◌, ℕ, List, ◌++◌, codes, IsUtf8, Some}
use Rattle.json.specs.Find.{get}
use Rattle.json.specs.Json.{Json, document}
use Rattle.bidi_rows.specs.Rows.{compact}

-- A body is a JSON text, of an object with these capabilities.
pub record HasCapabilities (body : List ℕ) (capabilities : Json) : Type 0 where
  pub value : Json
  pub utf8 : IsUtf8 body
  pub json : document body ≡ Some value
  pub has : get (codes "capabilities") value ≡ Some capabilities

-- the text of the command that asks for a session with these capabilities
abbrev pub new_text : Json → List ℕ
new_text capabilities = codes "{\"id\":0,\"method\":\"session.new\",\"params\":{\"capabilities\":" ++ (compact capabilities ++ codes "}}")

-- the text of the command that ends the session of its connection
abbrev pub end_text : List ℕ
end_text = codes "{\"id\":0,\"method\":\"session.end\",\"params\":{}}"

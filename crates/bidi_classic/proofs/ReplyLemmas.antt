-- The texts of replies.
use Rattle.std.proofs.Common.{◌≡◌, ◌∙◌, ◌++◌, ◌∷◌, ℕ, List, [], ap, codes}
use Rattle.json.specs.Json.{Json, Members, object}
use Rattle.json.specs.Print.{print}
use Rattle.json.specs.Token.{Token}
use Rattle.json.specs.Tree.{members_tokens}
use Rattle.bidi_rows.specs.Rows.{compact}
use Rattle.bidi_classic.specs.Replies.{address_name, quoted, session_text, session_url, with_url, without}

-- the tokens of an address and of the other properties are those of the object
pub address-text : (url : List ℕ) (members : Members) (before : List ℕ) (none begun named told all : List Token) → before ≡ [] → none ≡ [] → begun ≡ none ++ (Token.begin_object ∷ [])
    → named ≡ begun ++ (Token.key address_name ∷ []) → told ≡ named ++ (Token.string url ∷ []) → all ≡ told ++ members_tokens (without address_name members)
    → before ++ print all ≡ compact (with_url url (object members))
address-text url members before none begun named told all front e0 e1 e2 e3 e4 =
    let begins = e1 ∙ ap (λ t. t ++ (Token.begin_object ∷ [])) e0 in
    let names = e2 ∙ ap (λ t. t ++ (Token.key address_name ∷ [])) begins in
    let tells = e3 ∙ ap (λ t. t ++ (Token.string url ∷ [])) names in
    let ends = e4 ∙ ap (λ t. t ++ members_tokens (without address_name members)) tells in
    ap (λ b. b ++ print all) front ∙ ap print ends

-- the text of a new session is made of its parts
pub session-joins : (port : ℕ) (id : List ℕ) (capabilities : Json) (json with own : List ℕ)
    → json ≡ codes "{\"value\":{\"capabilities\":" ++ (with ++ (codes ",\"sessionId\":" ++ (own ++ codes "}}"))) → with ≡ compact (with_url (session_url port id) capabilities)
    → own ≡ quoted id → json ≡ session_text port id capabilities
session-joins port id capabilities json with own whole first last =
    whole ∙ (λ i. codes "{\"value\":{\"capabilities\":" ++ (first i ++ (codes ",\"sessionId\":" ++ (last i ++ codes "}}"))))
